-- Numbers printed at every width: which of them fit, what is read again, and what the code that prints them needs.
use mathlib.Core.Path.{◌≡◌, refl, sym, ◌∙◌, ap}
use mathlib.Core.Bool.{Bool, true, false, ◌&&◌}
use mathlib.Core.List.{List, [], ◌∷◌, ◌++◌}
use mathlib.Core.Logic.{◌≢◌}
use Prim.Native.Nat.{ℕ, zero, suc, ◌+◌, ◌-◌, ◌^◌, ◌≤◌, ◌<◌}
use native.Mathlib.Omega.{arith}
use native.Mathlib.Decide.{dec_lt}
use lib.Dec.{leb, leb-suc-suc, ltb}
use lib.ListN.{length, take, get_or, set, replicate, length-append, length-replicate, replicate-append-replicate}
use lib.Seq.{append_snoc, set_at, take_at}
use lib.IntN.{ℤ, pos, negsuc, neg_ℤ, nat_abs}
use lib.Signed.{lt_z}
use borrow.Author.Tests.{le-ltb, lt-ltb, lt-leb, leb-true, ne_eqb}
use Rattle.base.proofs.Bools.{never}
use Rattle.decimal.specs.BaseTen.{space, minus, digit, digits, in_base_ten, aligned, fits, value_then, number_in}
use Rattle.decimal.specs.RightAligned.{AllDigits, RightAligned}
use Rattle.decimal.proofs.Digits.{Leading, value-digits, leading, only-digits, any-digit, room-digits}

-- ── which numbers fit ──

room : (w : ℕ) (z : ℤ) → fits (suc w) z ≡ (lt_z (negsuc (10 ^ w - 1)) z && lt_z z (pos (10 ^ suc w)))
unfolding fits in_base_ten
room w (pos v) = room-digits w v
room zero (negsuc v) =
    lt-leb (suc (length (digits (suc v)))) 1 (omega (arith, any-digit (suc v))) ∙ sym (rw (le-ltb v (10 ^ 0 - 1) (omega arith)))
room (suc w) (negsuc v) = same_size ∙ room-digits w (suc v) ∙ below (10 ^ suc w)
  where
    same_size : leb (suc (length (digits (suc v)))) (suc (suc w)) ≡ leb (length (digits (suc v))) (suc w)
    same_size = leb-suc-suc (length (digits (suc v))) (suc w)

    below : (most : ℕ) → ltb (suc v) most ≡ (ltb v (most - 1) && true)
    below most = elim (dec_lt (suc v) most) [
      | yes l ↦ rw (lt-ltb (suc v) most l, lt-ltb v (most - 1) (omega arith))
      | no g ↦ rw (le-ltb (suc v) most (omega arith), le-ltb v (most - 1) (omega arith))
    ]

no_room : (z : ℤ) → fits 0 z ≡ false
unfolding fits in_base_ten
no_room (pos v) = lt-leb (length (digits v)) 0 (any-digit v)
no_room (negsuc v) = lt-leb (suc (length (digits (suc v)))) 0 (omega arith)

width : (w : ℕ) (z : ℤ) → fits w z ≡ true → length (aligned w z) ≡ w
unfolding aligned fits
width w z h =
    length-append (replicate (w - length (in_base_ten z)) space) (in_base_ten z)
    ∙ rw length-replicate (omega (arith, leb-true (length (in_base_ten z)) w h))

-- ── what is read again ──

-- spaces are passed over
number-spaces : (k : ℕ) (s : List ℕ) → number_in (replicate k space ++ s) ≡ number_in s
unfolding number_in
number-spaces zero s = refl
number-spaces (suc k) s = number-spaces k s

-- digits are read where a digit stands first
number_digits : (v : ℕ) → number_in (digits v) ≡ pos v
unfolding digits
number_digits v =
    let w = leading v v [] (omega arith) in
    ap number_in w.starts ∙ unsigned w ∙ ap (λ s. pos (value_then 0 s)) (sym w.starts)
    ∙ ap pos (value-digits v v [] (omega arith) ∙ unfold value_then in refl)
  where
    unsigned : {s : List ℕ} (w : Leading v s)
        → number_in (digit w.value ∷ w.later) ≡ pos (value_then 0 (digit w.value ∷ w.later))
    unsigned w = unfold number_in in
        rw (
          ne_eqb (digit w.value) space (λ e. absurd (omega arith)),
          ne_eqb (digit w.value) minus (λ e. absurd (omega arith)),
        )

number-printed : (z : ℤ) → number_in (in_base_ten z) ≡ z
unfolding in_base_ten number_in
number-printed (pos v) = number_digits v
number-printed (negsuc v) =
    let all : value_then 0 (digits (suc v)) ≡ suc v =
    unfold digits value_then in value-digits (suc v) (suc v) [] (omega arith) in
    ap (λ u. neg_ℤ (pos u)) all

read_back : (w : ℕ) (z : ℤ) → number_in (aligned w z) ≡ z
unfolding aligned
read_back w z = number-spaces (w - length (in_base_ten z)) (in_base_ten z) ∙ number-printed z

first_digit : (v : ℕ) → get_or (digits (suc v)) 0 (digit 0) ≢ digit 0
unfolding digits
first_digit v e =
    let w = leading (suc v) (suc v) [] (omega arith) in
    absurd (omega (arith, w.positive (omega arith), sym (ap (λ s. get_or s 0 (digit 0)) w.starts) ∙ e))

positive : (w v : ℕ) → aligned w (pos v) ≡ replicate (w - length (digits v)) space ++ digits v
unfolding aligned in_base_ten
positive w v = refl

negative : (w v : ℕ)
    → aligned w (negsuc v) ≡ replicate (w - suc (length (digits (suc v)))) space ++ (minus ∷ digits (suc v))
unfolding aligned in_base_ten
negative w v = refl

all_digits : (v : ℕ) → AllDigits (digits v)
unfolding digits
all_digits v = only-digits v v [] (omega arith) tt

pub right-aligned : RightAligned
right-aligned = record {
  positive = positive;
  negative = negative;
  all_digits = all_digits;
  room = room;
  no_room = no_room;
  width = width;
  first_digit = first_digit;
  read_back = read_back;
  one_to_one = λ w y z e. sym (read_back w y) ∙ ap number_in e ∙ read_back w z;
}

-- ── what the code needs ──

-- a number by its sign
positive-printed : (z : ℤ) → lt_z z (pos 0) ≡ false → in_base_ten z ≡ digits (nat_abs z)
unfolding in_base_ten
positive-printed (pos v) h = refl
positive-printed (negsuc v) h = never (sym h)

negative-printed : (z : ℤ) → lt_z z (pos 0) ≡ true → in_base_ten z ≡ minus ∷ digits (nat_abs z)
unfolding in_base_ten
negative-printed (pos v) h = never (sym (le-ltb v 0 (omega arith)) ∙ h)
negative-printed (negsuc v) h = refl

-- the first of nothing but spaces
pub take-spaces : (k w : ℕ) → k ≤ w → take k (replicate w space) ≡ replicate k space
take-spaces k w h =
    let e : w ≡ k + (w - k) = omega arith in
    ap (λ m. take k (replicate m space)) e
    ∙ ap (take k) (sym (replicate-append-replicate k (w - k) space))
    ∙ take_at (replicate k space) (replicate (w - k) space) k (length-replicate k space)

-- digits of a number's size that end w characters, spaces before the first of them
pub record Behind (z : ℤ) (w first : ℕ) (out : List ℕ) : Type 0 where
  pub room : first + length (digits (nat_abs z)) ≡ w
  pub text : out ≡ replicate first space ++ digits (nat_abs z)

-- so are digits that are written over the last of w spaces
written-behind : {y z : ℤ} {w size : ℕ} {spaces out : List ℕ} → y ≡ z → size ≡ nat_abs y
    → spaces ≡ replicate w space → (first : ℕ)
    → (first + length (digits size) ≡ length spaces) × (out ≡ take first spaces ++ digits size)
    → Behind z w first out
written-behind {z = z} {w = w} kept size blank first written =
    let is = size ∙ ap nat_abs kept in
    let room : first + length (digits (nat_abs z)) ≡ w =
    omega (arith, written.0, ap (λ v. length (digits v)) is, ap length blank, length-replicate w space) in
    record {
      room = room;
      text = written.1 ∙ rw (blank, is, take-spaces first w (omega (arith, room)));
    }

module _ (z : ℤ) (w : ℕ) (fit : fits w z ≡ true) where
  room-is : length (in_base_ten z) ≤ w
  room-is = unfold fits in leb-true (length (in_base_ten z)) w fit

  -- its digits have room
  pub digits-fit : length (digits (nat_abs z)) ≤ w
  digits-fit = go (lt_z z (pos 0)) refl
    where
      go : (b : Bool) → lt_z z (pos 0) ≡ b → length (digits (nat_abs z)) ≤ w
      go true h = omega (arith, room-is, ap length (negative-printed z h))
      go false h = omega (arith, room-is, ap length (positive-printed z h))

  -- digits behind spaces, from the place of the first on
  module _ {first : ℕ} {out : List ℕ} (behind : Behind z w first out) where
    pub positive-aligned : lt_z z (pos 0) ≡ false → out ≡ aligned w z
    unfolding aligned
    positive-aligned h =
        let p = positive-printed z h in
        let e : first ≡ w - length (in_base_ten z) = omega (arith, behind.room, ap length p) in
        behind.text ∙ rw (← e, p)

    pub minus-place : lt_z z (pos 0) ≡ true → 0 < first
    minus-place h = omega (arith, behind.room, room-is, ap length (negative-printed z h))

    -- the minus takes the place of the last space
    pub negative-aligned : lt_z z (pos 0) ≡ true → set out (first - 1) minus ≡ aligned w z
    unfolding aligned
    negative-aligned h =
        let p = negative-printed z h in
        let k = first - 1 in
        let some = minus-place h in
        let e : k ≡ w - length (in_base_ten z) = omega (arith, behind.room, ap length p) in
        let one : k + 1 ≡ first = omega arith in
        let last : replicate first space ≡ replicate k space ++ (space ∷ []) =
        sym (replicate-append-replicate k 1 space ∙ ap (λ m. replicate m space) one) in
        ap (λ s. set s k minus) behind.text
        ∙ ap (λ s. set (s ++ digits (nat_abs z)) k minus) last
        ∙ ap (λ s. set s k minus) (append_snoc (replicate k space) space (digits (nat_abs z)))
        ∙ set_at (replicate k space) space (digits (nat_abs z)) minus k (length-replicate k space)
        ∙ rw (← e, p)

-- where they are of a number that fits, the text is complete, but for the minus of a negative one
pub written-aligned : (w : ℕ) {y z : ℤ} {size : ℕ} {spaces out : List ℕ} → fits w z ≡ true → y ≡ z → size ≡ nat_abs y
    → spaces ≡ replicate w space → (first : ℕ)
    → (first + length (digits size) ≡ length spaces) × (out ≡ take first spaces ++ digits size)
    → (lt_z y (pos 0) ≡ true → (0 < first) × (set out (first - 1) minus ≡ aligned w z))
    × (lt_z y (pos 0) ≡ false → out ≡ aligned w z)
written-aligned w {z = z} fit kept size blank first written =
    let behind = written-behind kept size blank first written in (
      λ below. let h = rw kept at below in (minus-place z w fit behind h, negative-aligned z w fit behind h),
      λ above. positive-aligned z w fit behind (rw kept at above),
    )
