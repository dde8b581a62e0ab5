-- The texts of edges: line by line, their length, and when edges that are to be written are not refused.
-- Assumes nothing.
use mathlib.Core.Path.{◌≡◌, refl, sym, ◌∙◌, ap}
use mathlib.Core.List.{List, [], ◌++◌, map}
use Prim.Native.Nat.{ℕ, ◌+◌, ◌*◌, ◌^◌, ◌≤◌, ◌<◌}
use native.Mathlib.Omega.{arith}
use native.Mathlib.Numerals.{add-one}
use lib.Dec.{lit<}
use lib.ListN.{length, drop, get_or, replicate, length-map, length-replicate, drop_of_length-le}
use lib.Seq.{drop-cons}
use Rattle.base.specs.Answer.{Answer, refused, answer, number_of, refusal_of}
use Rattle.base.specs.declared.refusals.Refusal.{Refusal}
use Rattle.base.proofs.Answers.{number-above, then-refused, then-answer}
use Rattle.frame.specs.Table.{KEPT, line_length}
use Rattle.frame.specs.Line.{line_of}
use Rattle.frame.specs.Frames.{listed, lines_of}
use Rattle.frame.proofs.Whole.{length-lines, text-replicate}
use Rattle.base.proofs.Writing.{Written}
use Rattle.frame.proofs.Writing.{few-lines}
use Rattle.list_text.specs.Text.{Meaning, frame_of, list_in, list_text, write_list}
use Rattle.list_text.proofs.Listed.{few-edges, list-numbered, same_edges}

-- the text from a place on
module _ (es : List ℕ) (i : ℕ) where
  text-next : i < length es → list_text (drop i es) ≡ line_of KEPT (frame_of (get_or es i 0)) ++ list_text (drop (i + 1) es)
  unfolding list_text lines_of
  text-next h = rw (add-one, drop-cons es i 0)

  pub text-end : length es ≤ i → list_text (drop i es) ≡ []
  unfolding list_text lines_of
  text-end h = rw (drop_of_length-le es h)

  -- the line of the edge at a place is left to write
  pub edge-left : {whole old out : List ℕ} {at : ℕ} → Written whole (list_text (drop i es)) old out at → i < length es
      → Written whole (line_of KEPT (frame_of (get_or es i 0)) ++ list_text (drop (i + 1) es)) old out at
  edge-left w h = rw (text-next h) at w

pub length-list : (es : List ℕ) → length (list_text es) ≡ length es * line_length KEPT
unfolding list_text
length-list es =
    let count = length-replicate (length es) KEPT ∙ sym (length-map es frame_of) in
    length-lines (replicate (length es) KEPT) (map frame_of es) count ∙ text-replicate (length es) KEPT

-- edges that are not refused: they are the answer, and how many bytes their text has is no large number
pub record Checked (n : ℕ) (m : Meaning) (line : ℕ) : Type 0 where
  pub is : write_list n m ≡ answer (list_text m)
  pub measure : length m * line ≡ length (list_text m)
  pub small : length m * line < 2 ^ 32

-- what a check says of edges that are to be written
module _ (n : ℕ) (m : Meaning) where
  pub check-refused : (r : Refusal) → number_of r ≡ refusal_of (list_in n (listed (map frame_of m)))
      → write_list n m ≡ refused (number_of r)
  unfolding write_list refusal_of
  check-refused r e = then-refused _ _ (number_of r) (go (list_in n (listed (map frame_of m))) e)
    where
      go : (a : Answer Meaning) → number_of r ≡ refusal_of a → a ≡ refused (number_of r)
      go (refused k) e = ap refused (sym e)
      go (answer es) e = absurd (omega (arith, number-above r))

  pub check_done : (line : ℕ) → 0 ≡ refusal_of (list_in n (listed (map frame_of m))) → line ≡ line_length KEPT
      → Checked n m line
  unfolding write_list refusal_of
  check_done line e l = go (list_in n (listed (map frame_of m))) refl e
    where
      go : (a : Answer Meaning) → list_in n (listed (map frame_of m)) ≡ a → 0 ≡ refusal_of a → Checked n m line
      go (refused k) p e = absurd (omega (arith, (list-numbered n (listed (map frame_of m))).number k p))
      go (answer es) p e =
          let same : es ≡ m = same_edges n m es p in
          let few = rw same at (few-edges n (listed (map frame_of m)) es p) in
          record {
            is = then-answer _ _ es p;
            measure = rw l (sym (length-list m));
            small = rw l (few-lines (length m) KEPT (lit< tt) (omega arith));
          }
