-- Two's complement at every width: the half of a width's numbers, the two directions, and that each undoes the other.
-- Assumes nothing.
use mathlib.Core.Path.{◌≡◌, refl, sym, ◌∙◌, ap, subst⁻¹}
use mathlib.Core.Bool.{Bool, true, false, false≢true}
use Prim.Native.Nat.{ℕ, zero, suc, ◌*◌, ◌-◌, ◌%◌, ◌^◌, ◌≤◌, ◌<◌}
use native.Mathlib.Omega.{arith}
use native.Mathlib.Nat.{zero-add, one-mul, pow-suc, mul-suc, mod-eq_of_lt}
use native.Mathlib.Decide.{dec_lt}
use lib.IntN.{ℤ, pos, negsuc, nat_abs, ◌-ℤ◌}
use lib.Dec.{T}
use lib.Signed.{mag, lt_z, non_neg}
use lib.Pow.{pow-add, pow-lt, pow_mono}
use mir.Syntax.{w64}
use mir.Val.{Fits, SFits, to_z, of_z}
use mir.Facts.{to_z-of_z, to_z_pos}
use borrow.Author.Tests.{le-ltb, lt-ltb, ltb-true}
use Rattle.digits.specs.Sign.{signed_of, unsigned_of}

-- half of the numbers that d digits spell
hex-pow : (d : ℕ) → 2 ^ (4 * d) ≡ 16 ^ d
hex-pow zero = refl
hex-pow (suc d) =
    ap (λ (n : ℕ). 2 ^ n) (mul-suc 4 d) ∙ pow-add 2 (4 * d) 4 ∙ ap (λ (n : ℕ). n * 16) (hex-pow d) ∙ sym (pow-suc 16 d)

half-double : (d : ℕ) → 0 < d → 2 * 2 ^ (4 * d - 1) ≡ 16 ^ d
half-double zero h = absurd (omega arith)
half-double (suc d) h =
    let e : 4 * suc d ≡ suc (4 * suc d - 1) = omega arith in
    sym (sym (hex-pow (suc d)) ∙ ap (λ (n : ℕ). 2 ^ n) e ∙ rw pow-suc (omega arith))

pub half : (d : ℕ) → 0 < d → d ≤ 16
    → (2 * (1 * 2 ^ (4 * d - 1) % 2 ^ 64) ≡ 16 ^ d) × (1 * 2 ^ (4 * d - 1) % 2 ^ 64 ≤ 2 ^ 63)
half d h l =
    let e : 1 * 2 ^ (4 * d - 1) % 2 ^ 64 ≡ 2 ^ (4 * d - 1) =
    rw one-mul (mod-eq_of_lt (pow-lt {i = 4 * d - 1} {j = 64} (omega arith))) in
    (rw e (half-double d h), rw e (pow_mono {i = 4 * d - 1} {j = 63} (omega arith)))

-- each direction undoes the other: on a number that d digits spell, and on a signed number that they have room for
pub unsigned_signed : (d v : ℕ) → v < 16 ^ d → unsigned_of d (signed_of d v) ≡ v
unfolding unsigned_of signed_of
unsigned_signed d v h =
    elim (dec_lt (2 * v) (16 ^ d)) [
      | yes l ↦ rw (lt-ltb (2 * v) (16 ^ d) l)
      | no g ↦ rw (le-ltb (2 * v) (16 ^ d) (omega arith)) (omega arith)
    ]

pub signed-unsigned : (d : ℕ) (z : ℤ) → 0 < d → 2 * mag z < 16 ^ d → signed_of d (unsigned_of d z) ≡ z
unfolding unsigned_of signed_of
signed-unsigned d (pos n) h l = rw (lt-ltb (2 * n) (16 ^ d) l)
signed-unsigned d (negsuc n) h l =
    let e = half-double d h in
    rw (le-ltb (2 * (16 ^ d - 1 - n)) (16 ^ d) (omega arith)) (ap negsuc (omega arith))

pub unsigned-lt : (d : ℕ) (z : ℤ) → 2 * mag z < 16 ^ d → unsigned_of d z < 16 ^ d
unfolding unsigned_of
unsigned-lt d (pos n) l = omega arith
unsigned-lt d (negsuc n) l = omega arith

-- what the code computes of a field's number in the upper half
minus_pos : (n : ℕ) → negsuc 0 -ℤ pos n ≡ negsuc n
minus_pos zero = refl
minus_pos (suc n) = ap (λ (k : ℕ). negsuc (suc k)) (zero-add n)

pub lower-half : (d v h : ℕ) → 2 * h ≡ 16 ^ d → h ≤ 2 ^ 63 → v < h → to_z w64 v ≡ signed_of d v
unfolding signed_of
lower-half d v h e k l = to_z_pos w64 {n = v} (omega arith) ∙ rw (lt-ltb (2 * v) (16 ^ d) (omega arith))

module _ (d v h : ℕ) (e : 2 * h ≡ 16 ^ d) (k : h ≤ 2 ^ 63) (l : h ≤ v) (m : v < 16 ^ d) where
  upper : negsuc 0 -ℤ to_z w64 (h - 1 - (v - h)) ≡ negsuc (16 ^ d - 1 - v)
  upper =
      ap (λ (x : ℤ). negsuc 0 -ℤ x) (to_z_pos w64 {n = h - 1 - (v - h)} (omega arith)) ∙ minus_pos (h - 1 - (v - h))
      ∙ ap negsuc (omega arith)

  pub upper_fits : SFits w64 (negsuc 0 -ℤ to_z w64 (h - 1 - (v - h)))
  upper_fits = subst⁻¹ (SFits w64) upper (record { sfits = omega arith })

  pub upper-half : to_z w64 (of_z w64 (negsuc 0 -ℤ to_z w64 (h - 1 - (v - h)))) ≡ signed_of d v
  unfolding signed_of
  upper-half = to_z-of_z upper_fits ∙ upper ∙ rw (le-ltb (2 * v) (16 ^ d) (omega arith))

-- what the code computes of a signed number, by its sign
is_negative : (z : ℤ) → lt_z z (pos 0) ≡ true → z ≡ negsuc (mag z)
is_negative (pos n) e = absurd (omega (arith, ltb-true n 0 e))
is_negative (negsuc n) e = refl

is_positive : (z : ℤ) → lt_z z (pos 0) ≡ false → z ≡ pos (mag z)
is_positive (pos n) e = refl
is_positive (negsuc n) e = absurd (false≢true (sym e))

minus-negative : (n : ℕ) → negsuc 0 -ℤ negsuc n ≡ pos n
minus-negative n = rw (le-ltb (suc n) 1 (omega arith)) (ap pos (omega arith))

module _ (z : ℤ) (f : SFits w64 z) where
  -- the number is read from its bits
  sign_of : (b : Bool) → lt_z (to_z w64 (of_z w64 z)) (pos 0) ≡ b → lt_z z (pos 0) ≡ b
  sign_of b e = rw (to_z-of_z f) at e

  module _ (e : lt_z (to_z w64 (of_z w64 z)) (pos 0) ≡ false) where
    pub positive-is : to_z w64 (of_z w64 z) ≡ pos (mag z)
    positive-is = to_z-of_z f ∙ is_positive z (sign_of false e)

    pub positive : (d : ℕ) → mag z ≡ unsigned_of d z
    unfolding unsigned_of
    positive d = ap (unsigned_of d) (sym (is_positive z (sign_of false e)))

  module _ (e : lt_z (to_z w64 (of_z w64 z)) (pos 0) ≡ true) where
    below : negsuc 0 -ℤ to_z w64 (of_z w64 z) ≡ pos (mag z)
    below = rw (to_z-of_z f) (ap (λ (x : ℤ). negsuc 0 -ℤ x) (is_negative z (sign_of true e)) ∙ minus-negative (mag z))

    pub below-fits : SFits w64 (negsuc 0 -ℤ to_z w64 (of_z w64 z))
    below-fits = subst⁻¹ (SFits w64) below (record { sfits = f.sfits })

    pub below-is : to_z w64 (of_z w64 (negsuc 0 -ℤ to_z w64 (of_z w64 z))) ≡ pos (mag z)
    below-is = to_z-of_z below-fits ∙ below

    pub negative : (d : ℕ) → 16 ^ d - 1 - mag z ≡ unsigned_of d z
    unfolding unsigned_of
    negative d = ap (unsigned_of d) (sym (is_negative z (sign_of true e)))

-- the cast of a number that is not negative
pub cast-pos : (x : ℤ) (n : ℕ) → x ≡ pos n → n < 2 ^ 64 → T (non_neg x) × Fits w64 (nat_abs x)
cast-pos x n e l = rw e (tt, record { fits = l })
