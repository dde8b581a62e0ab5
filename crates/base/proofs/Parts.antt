-- A part of a slice from one place to another, `&s[a..e]` and `&mut s[a..e]`, as lists.
-- Assumes nothing.
use mathlib.Core.Path.{◌≡◌, sym, ◌∙◌, ap}
use mathlib.Core.List.{List, ◌++◌, append-nil, append_assoc}
use Prim.Native.Nat.{ℕ, ◌+◌, ◌-◌, ◌≤◌, ◌<◌}
use native.Mathlib.Omega.{arith}
use lib.ListN.{length, get_or, take, drop, length-append, length-drop, drop_of_length-le, get_or-append}
use lib.Seq.{take_all, take_at, drop-drop, drop_at, length-take-le}
use borrow.Rule.Slice.PartMut.{put_mid}
use Rattle.base.specs.Answer.{over}

module _ {A : Type 0} where
  -- the part from a place on
  pub tail-part : (a : ℕ) (xs : List A) → take (length xs - a) (drop a xs) ≡ drop a xs
  tail-part a xs = take_all (length xs - a) (drop a xs) (omega (arith, length-drop a xs))

  pub tail-put : (a : ℕ) (xs ys : List A) → put_mid a (length xs - a) xs ys ≡ take a xs ++ ys
  tail-put a xs ys =
      rw (drop_of_length-le (drop a xs) {i = length xs - a} (omega (arith, length-drop a xs)), append-nil)

  -- what stands from the start of a part on, once the part is put
  pub drop-put : (a k : ℕ) (xs ys : List A) → a ≤ length xs → drop a (put_mid a k xs ys) ≡ ys ++ drop (a + k) xs
  drop-put a k xs ys h =
      rw (← drop-drop k a xs) (drop_at (take a xs) (ys ++ drop k (drop a xs)) a (length-take-le a xs h))

  -- the first elements overwritten: the length stays
  pub length_over : (xs old : List A) → length xs ≤ length old → length (over xs old) ≡ length old
  unfolding over
  length_over xs old h = length-append xs (drop (length xs) old) ∙ omega (arith, length-drop (length xs) old)

  -- an element of the start
  pub over-at : (xs old : List A) (d : A) (i : ℕ) → i < length xs → get_or (over xs old) i d ≡ get_or xs i d
  unfolding over
  over-at xs old d i h = get_or-append xs (drop (length xs) old) d i h

  -- writing into the part behind what was written: every writer of one piece after another goes by this law
  pub over-part : (at : ℕ) (xs ys old out : List A) → length xs ≤ length old → at ≡ length xs → out ≡ over xs old
      → put_mid at (length out - at) out (over ys (take (length out - at) (drop at out))) ≡ over (xs ++ ys) old
  unfolding over
  over-part at xs ys old out h n e =
      let t : take at out ≡ xs = ap (take at) e ∙ take_at xs (drop (length xs) old) at (sym n) in
      let d : drop at out ≡ drop at old =
      ap (drop at) e ∙ drop_at xs (drop (length xs) old) at (sym n) ∙ ap (λ (k : ℕ). drop k old) (sym n) in
      let m : at + length ys ≡ length (xs ++ ys) = omega (arith, length-append xs ys) in
      tail-put at out (over ys (take (length out - at) (drop at out)))
      ∙ rw (tail-part at out, t, d, drop-drop, m) (sym (append_assoc xs ys (drop (length (xs ++ ys)) old)))
