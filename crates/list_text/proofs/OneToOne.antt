-- Audit lists and their texts, one to one: the argument for what is owed, `one_to_one`.
-- Assumes nothing.
use mathlib.Core.Path.{◌≡◌, refl, sym, ◌∙◌, ap}
use mathlib.Core.Bool.{false}
use mathlib.Core.List.{List, [], ◌∷◌, map}
use Prim.Native.Nat.{ℕ, ◌*◌, ◌^◌}
use native.Mathlib.Omega.{arith}
use lib.Dec.{lit<}
use lib.ListN.{length, replicate, length-map}
use Rattle.base.specs.Answer.{Answer, refused, answer, and_then}
use Rattle.base.specs.Limits.{vertices_ok}
use Rattle.base.specs.Refusals.{VERTICES}
use Rattle.base.specs.Words.{Words}
use Rattle.base.proofs.Picks.{rising-below}
use Rattle.base.proofs.Bools.{no_answer}
use Rattle.base.proofs.Words.{below_more}
use Rattle.frame.specs.Table.{KEPT, widths, bytes_of, padded}
use Rattle.frame.specs.Line.{Fits}
use Rattle.frame.specs.Frames.{frames_to_end, listed, AllFit}
use Rattle.frame.proofs.Whole.{end-found, end_whole}
use Rattle.list_text.specs.Text.{Meaning, frame_of, list_in, read_list, list_text, write_list}
use Rattle.list_text.specs.OneToOne.{OneToOne}
use Rattle.list_text.proofs.Listed.{frames-answered, frames-edges, same_edges}

-- edges of 16 bits have room in their lines
fit_edges : (m : Meaning) → Words m → AllFit (replicate (length m) KEPT) (map frame_of m)
unfolding Fits widths bytes_of padded
fit_edges [] x = tt
fit_edges (e ∷ es) x = ((x.0, (lit< tt, (lit< tt, (lit< tt, (lit< tt, tt))))), fit_edges es x.1)

-- the reader finds the edges of a text as the writer is given them
found : (m : Meaning) → Words m → frames_to_end KEPT (list_text m) ≡ listed (map frame_of m)
unfolding list_text
found m x = rw length-map at (end-found KEPT (map frame_of m) (rw length-map (fit_edges m x)))

same_refusal : (n : ℕ) (m : Meaning) → Words m
    → write_list n m ≡ and_then (read_list n (list_text m)) (λ _. answer (list_text m))
unfolding write_list read_list
same_refusal n m x = rw (found m x)

read_written : (n : ℕ) (m : Meaning) (t : List ℕ) → write_list n m ≡ answer t → read_list n t ≡ answer m
unfolding write_list read_list and_then
read_written n m t e = go (list_in n (listed (map frame_of m))) refl e
  where
    go : (a : Answer Meaning) → list_in n (listed (map frame_of m)) ≡ a → and_then a (λ _. answer (list_text m)) ≡ answer t
        → list_in n (frames_to_end KEPT t) ≡ answer m
    go (refused k) p e = no_answer (cc)
    go (answer es) p e =
        let w = frames-answered n (listed (map frame_of m)) es p in
        let d = same_edges n m es p in
        let below = rising-below 0 (2 * n) es w.1.rises in
        let short : Words m = rw d at (below_more (2 * n) (2 ^ 16) (omega arith) es below) in
        let q : t ≡ list_text m = cc in
        rw (q, found m short) (p ∙ ap answer d)

written_read : (n : ℕ) (t : List ℕ) (m : Meaning) → read_list n t ≡ answer m → write_list n m ≡ answer t
unfolding write_list read_list and_then list_text
written_read n t m e =
    let w = (frames-answered n (frames_to_end KEPT t) m e).1 in
    let x = end_whole KEPT w.frames t w.all in
    let f : map frame_of m ≡ w.frames = ap (map frame_of) w.edges ∙ frames-edges w.frames x.fit in
    let c : length m ≡ length w.frames = sym (length-map m frame_of) ∙ ap length f in
    rw (f, c, ← x.text_is, ← w.all, e)

limits_first : (n : ℕ) → vertices_ok n ≡ false
    → ((t : List ℕ) → read_list n t ≡ refused VERTICES) × ((m : Meaning) → write_list n m ≡ refused VERTICES)
unfolding read_list write_list list_in and_then
limits_first n h = (λ t. rw h, λ m. rw h)

pub one_to_one : OneToOne
one_to_one =
    record {
      read_written = read_written;
      written_read = written_read;
      one_text = λ n s t m p q. let a = written_read n s m p in let b = written_read n t m q in cc;
      same_refusal = same_refusal;
      limits_first = limits_first;
    }
