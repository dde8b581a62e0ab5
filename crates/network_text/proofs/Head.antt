-- A network text from its head on: the reader by frame, and what its head decides.
-- Assumes nothing.
use mathlib.Core.Path.{◌≡◌, refl, sym, ◌∙◌}
use mathlib.Core.Bool.{Bool, true, false, cond}
use mathlib.Core.List.{List, [], ◌∷◌}
use Prim.Native.Nat.{ℕ, zero, suc, ◌*◌}
use native.Mathlib.Omega.{arith}
use native.Mathlib.Nat.{zero-add}
use lib.ListN.{drop}
use Rattle.base.specs.Answer.{Answer, refused, answer, and_then, unless}
use Rattle.base.specs.Refusals.{FORM, COST}
use Rattle.base.proofs.Answers.{then-refused, then-answer}
use Rattle.base.proofs.Numbered.{Numbered, answered, refused-by, unless-numbered, then-meeting}
use Rattle.frame.specs.Table.{HEAD, line_length}
use Rattle.frame.specs.Line.{is_line, fields_of, line_at, read_line}
use Rattle.frame.specs.Kinds.{head_of}
use Rattle.frame.specs.declared.kinds.Head.{Head}
use Rattle.network_frames.specs.Frames.{head_refusal, edge_refusal, head_in, read_head}
use Rattle.network_frames.proofs.Passed.{head_small, edge-small}
use Rattle.network_text.specs.Text.{Meaning, Edges, finished, interrupted, next}
use Rattle.network_text.specs.Text.{checked, meaning_of, edges_of, read_network}

pub checked-numbered : (n place : ℕ) (es : Edges) → Numbered COST (checked n place es)
unfolding checked
checked-numbered n place finished = answered []
checked-numbered n place interrupted = refused-by FORM (omega arith) (omega arith)
checked-numbered n place (next e es) =
    unless-numbered (edge_refusal n place e) _ (edge-small n place e)
    (then-meeting (checked n (suc place) es) _ (checked-numbered n (suc place) es) (λ later. answered (e ∷ later)))

pub read-numbered : (t : List ℕ) → Numbered COST (read_network t)
unfolding read_network
read-numbered t =
    let h = head_of (fields_of HEAD t) in
    let n = h.vertices in
    let es = edges_of (2 * n) (drop (line_length HEAD) t) in
    go (is_line HEAD t) _
    (unless-numbered (head_refusal n h.reserved) _ (head_small n h.reserved)
    (then-meeting (checked n 0 es) _ (checked-numbered n 0 es) (λ later. answered (meaning_of n h.reserved later))))
  where
    go : (b : Bool) (a : Answer Meaning) → Numbered COST a → Numbered COST (cond b a (refused FORM))
    go true a h = h
    go false a h = refused-by FORM (omega arith) (omega arith)

-- what a text of edges comes to behind a head
abbrev pub edges_behind : Head → List ℕ → Answer Meaning
edges_behind h t =
    let n = h.vertices in
    and_then (checked n 0 (edges_of (2 * n) t)) (λ es. answer (meaning_of n h.reserved es))

unfoldable behind : List ℕ → Head × ℕ → Answer Meaning
behind t (h, first) = edges_behind h (drop first t)

-- the head decides first
by-head : (t : List ℕ) → read_network t ≡ and_then (read_head t) (behind t)
unfolding read_network read_head read_line line_at behind and_then
by-head t =
    let h = head_of (fields_of HEAD t) in
    rw zero-add (go (is_line HEAD t) (head_refusal h.vertices h.reserved) refl)
  where
    go : let h = head_of (fields_of HEAD t) in
        let place = line_length HEAD in
        (b : Bool) (k : ℕ) → head_refusal h.vertices h.reserved ≡ k
        → cond b (unless (head_refusal h.vertices h.reserved) (behind t (h, place))) (refused FORM)
        ≡ and_then (and_then (cond b (answer (fields_of HEAD t, place)) (refused FORM)) head_in) (behind t)
    go false k e = refl
    go true zero e = unfold head_in unless in rw e
    go true (suc k) e = unfold head_in unless in rw e

module _ (t : List ℕ) where
  pub head-refused : {k : ℕ} → refused k ≡ read_head t → read_network t ≡ refused k
  head-refused x = by-head t ∙ then-refused (read_head t) (behind t) _ (sym x)

  module _ {p : Head × ℕ} (x : answer p ≡ read_head t) where
    pub edges-due : read_network t ≡ edges_behind p.0 (drop p.1 t)
    unfolding behind
    edges-due = by-head t ∙ then-answer (read_head t) (behind t) p (sym x)
