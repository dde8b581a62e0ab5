-- What a buffer holds while a text is written to its start, piece by piece.
-- Assumes nothing.
use mathlib.Core.Path.{◌≡◌, refl, sym, ◌∙◌, ap}
use mathlib.Core.List.{List, [], ◌++◌, append-nil}
use Prim.Native.Nat.{ℕ, ◌+◌, ◌-◌, ◌≤◌}
use native.Mathlib.Omega.{arith}
use lib.ListN.{length, take, drop, length-append, length-take, length-drop}
use lib.Seq.{drop_at, drop-drop, length-take-le, take-add, take_all, take_at}
use borrow.Rule.Slice.PartMut.{put_mid}
use Rattle.base.specs.Answer.{over}
use Rattle.base.proofs.Parts.{length_over, over-part}

-- a text of which the part before a place is written, and the rest is left to write
pub record Written (whole rest old out : List ℕ) (at : ℕ) : Type 0 where
  pub place : at + length rest ≡ length whole
  pub room : length whole ≤ length old
  pub left : drop at whole ≡ rest
  pub text : out ≡ over (take at whole) old

pub written_none : (whole old : List ℕ) → length whole ≤ length old → Written whole whole old old 0
unfolding over
written_none whole old h = record { place = omega arith; room = h; left = refl; text = refl }

module _ (whole rest old out : List ℕ) (at : ℕ) (w : Written whole rest old out at) where
  before : length (take at whole) ≡ at
  before = length-take-le at whole (omega (arith, w.place))

  pub written-size : length out ≡ length old
  written-size = ap length w.text ∙ length_over (take at whole) old (omega (arith, before, w.place, w.room))

  pub written_all : length rest ≡ 0 → (at ≡ length whole) × (out ≡ over whole old)
  written_all e =
      (omega (arith, w.place), w.text ∙ ap (λ (t : List ℕ). over t old) (take_all at whole (omega (arith, w.place))))

-- one piece more, put into the part of the buffer from its place on
module _ (whole piece rest old out : List ℕ) (at : ℕ) (w : Written whole (piece ++ rest) old out at) where
  pub piece-within : at + length piece ≤ length old
  piece-within = omega (arith, w.place, w.room, length-append piece rest)

  pub piece-room : length piece ≤ length (take (length out - at) (drop at out))
  piece-room =
      let n = written-size whole (piece ++ rest) old out at w in
      rw length-take (omega (arith, length-drop at out, piece-within))

  pub piece-more : (part : List ℕ) (size : ℕ) → size ≡ length piece
      → part ≡ over piece (take (length out - at) (drop at out))
      → Written whole rest old (put_mid at (length out - at) out part) (at + size)
  piece-more part size n e =
      let l = length-append piece rest in
      let b = before whole (piece ++ rest) old out at w in
      let p : take size (drop at whole) ≡ piece = ap (take size) w.left ∙ take_at piece rest size (sym n) in
      record {
        place = omega (arith, w.place);
        room = w.room;
        left = sym (drop-drop size at whole) ∙ ap (drop size) w.left ∙ drop_at piece rest size (sym n);
        text =
            ap (put_mid at (length out - at) out) e
            ∙ over-part at (take at whole) piece old out (omega (arith, b, w.place, w.room)) (sym b) w.text
            ∙ ap (λ (t : List ℕ). over t old) (sym (take-add at size whole ∙ rw p));
      }

-- the last piece, behind what is written, and behind what was written by itself
pub written_last : (whole piece old out : List ℕ) (at : ℕ) → Written whole piece old out at
    → Written whole (piece ++ []) old out at
written_last whole piece old out at w = rw append-nil w

pub written-front : (front rest old out : List ℕ) (at : ℕ) → at ≡ length front → out ≡ over front old
    → length (front ++ rest) ≤ length old
    → Written (front ++ rest) rest old out at
written-front front rest old out at n e h =
    record {
      place = omega (arith, length-append front rest);
      room = h;
      left = drop_at front rest at (sym n);
      text = e ∙ ap (λ (t : List ℕ). over t old) (sym (take_at front rest at (sym n)));
    }
