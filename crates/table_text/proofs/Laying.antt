-- A column into which one element is laid so many times, from a place on.
-- Assumes nothing.
use mathlib.Core.Path.{◌≡◌, sym, ◌∙◌, ap}
use mathlib.Core.List.{List, ◌++◌, append_assoc}
use Prim.Native.Nat.{ℕ, ◌+◌, ◌-◌, ◌≤◌}
use native.Mathlib.Omega.{arith}
use lib.ListN.{length, take, drop, replicate, length-append, length-drop, length-replicate}
use lib.Seq.{take_at, drop_at, drop-drop, length-take-le}
use borrow.Rule.Slice.PartMut.{put_mid}
use Rattle.base.specs.Answer.{over}
use Rattle.base.proofs.Held.{Storing}
use Rattle.base.proofs.Parts.{length_over}
use Rattle.table_text.specs.Columns.{laid}

-- a column whose part from a place on is filled with one element
pub laid-filled : {A : Type 0} (from k : ℕ) (a : A) (old : List A) {part : List A} → from + k ≤ length old
    → part ≡ replicate (length (take (from + k - from) (drop from old))) a
    → put_mid from (from + k - from) old part ≡ laid from k a old
unfolding laid
laid-filled from k a old h e =
    let n : from + k - from ≡ k = omega arith in
    let size : length (take k (drop from old)) ≡ k =
    length-take-le k (drop from old) (omega (arith, length-drop from old)) in
    rw (e, n, size, drop-drop k from old) (sym (append_assoc (take from old) (replicate k a) (drop (from + k) old)))

-- more of a list, laid behind what stands at the start of a column
pub storing-laid : {A : Type 0} {xs old column : List A} → Storing xs old column → {from : ℕ} → length xs ≡ from
    → (k : ℕ) (a : A) → from + k ≤ length old → {next : List A} → next ≡ laid from k a column
    → Storing (xs ++ replicate k a) old next
unfolding laid over
storing-laid {xs = xs} {old = old} {column = column} s {from} n k a h {next} e =
    let first : take from column ≡ xs = ap (take from) s.holds ∙ take_at xs (drop (length xs) old) from n in
    let rest : drop from column ≡ drop from old =
    ap (drop from) s.holds ∙ drop_at xs (drop (length xs) old) from n ∙ ap (λ (j : ℕ). drop j old) n in
    let count : length (xs ++ replicate k a) ≡ from + k =
    length-append xs (replicate k a) ∙ omega (arith, length-replicate k a) in
    let holds : next ≡ over (xs ++ replicate k a) old =
    e ∙ rw (first, count, ← drop-drop k from column, rest, drop-drop k from old) in
    record {
      size = ap length holds ∙ length_over (xs ++ replicate k a) old (omega arith);
      holds = holds;
    }
