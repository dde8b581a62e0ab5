-- A network text that has a meaning: its head, its edges, and what holds of the meaning.
-- Assumes nothing.
use mathlib.Core.Path.{◌≡◌, refl}
use mathlib.Core.Bool.{Bool, true, false, cond}
use mathlib.Core.List.{List}
use Prim.Native.Nat.{ℕ, zero, suc, ◌*◌}
use native.Mathlib.Omega.{arith}
use lib.ListN.{drop}
use Rattle.base.proofs.Bools.{no_answer}
use Rattle.base.specs.Answer.{Answer, refused, answer, and_then, unless}
use Rattle.base.specs.Refusals.{FORM}
use Rattle.frame.specs.Table.{HEAD, line_length}
use Rattle.frame.specs.Line.{is_line, fields_of}
use Rattle.frame.specs.Kinds.{head_of}
use Rattle.frame.specs.declared.kinds.Head.{Head}
use Rattle.frame.specs.declared.kinds.Edge.{Edge}
use Rattle.network_frames.specs.Frames.{head_refusal}
use Rattle.network_frames.proofs.Passed.{HeadPassed, head_passed}
use Rattle.network_text.specs.Text.{Meaning, Valid, checked, meaning_of, edges_of, read_network}
use Rattle.network_text.proofs.Whole.{AllPassed, complete, valid, Spelt, spelt}

-- a text that starts with the line of a head, and has edges behind it
pub record Parts (t : List ℕ) (m : Meaning) : Type 0 where
  pub head : Head
  pub edges : List Edge
  pub is : is_line HEAD t ≡ true
  pub head_is : head ≡ head_of (fields_of HEAD t)
  pub read : checked head.vertices 0 (edges_of (2 * head.vertices) (drop (line_length HEAD) t)) ≡ answer edges
  pub meaning : m ≡ meaning_of head.vertices head.reserved edges
  pub head_fine : HeadPassed head.vertices head.reserved
  pub edges_fine : AllPassed head.vertices 0 edges
  pub rest : Spelt (2 * head.vertices) (drop (line_length HEAD) t) edges

pub parts : (t : List ℕ) (m : Meaning) → read_network t ≡ answer m → Parts t m
unfolding read_network unless and_then
parts t m x =
    let h = head_of (fields_of HEAD t) in
    go (is_line HEAD t) refl (head_refusal h.vertices h.reserved) refl
    (checked h.vertices 0 (edges_of (2 * h.vertices) (drop (line_length HEAD) t))) refl x
  where
    go : let h = head_of (fields_of HEAD t) in
        let edges = edges_of (2 * h.vertices) (drop (line_length HEAD) t) in
        (b : Bool) → is_line HEAD t ≡ b → (k : ℕ) → head_refusal h.vertices h.reserved ≡ k
        → (a : Answer (List Edge)) → checked h.vertices 0 edges ≡ a
        → cond b (unless k (and_then a (λ es. answer (meaning_of h.vertices h.reserved es)))) (refused FORM)
        ≡ answer m → Parts t m
    go false i k p a q x = no_answer (cc)
    go true i (suc k) p a q x = no_answer (cc)
    go true i zero p (refused j) q x = no_answer (cc)
    go true i zero p (answer es) q x =
        let h = head_of (fields_of HEAD t) in
        let c = complete h.vertices 0 (edges_of (2 * h.vertices) (drop (line_length HEAD) t)) es q in
        record {
          head = h;
          edges = es;
          is = i;
          head_is = refl;
          read = q;
          meaning = cc;
          head_fine = head_passed h.vertices h.reserved (omega arith);
          edges_fine = c.passed;
          rest = spelt (2 * h.vertices) (drop (line_length HEAD) t) es c.all;
        }

pub read-valid : (t : List ℕ) (m : Meaning) → read_network t ≡ answer m → Valid m
read-valid t m x =
    let p = parts t m x in
    rw p.meaning
    (valid p.head.vertices p.head.reserved p.edges p.head_fine p.edges_fine p.rest.count)
