-- Laws of the bits of a word: of two words together, of one bit alone, of the lowest bit, and of their number.
use mathlib.Core.Path.{◌≡◌, refl, sym, ◌∙◌, ap, ap₂}
use mathlib.Core.Bool.{Bool, true, false, ◌||◌, xor}
use Prim.Native.Nat.{ℕ, zero, suc, ◌+◌, ◌/◌, ◌%◌, ◌^◌, ◌<◌}
use native.Mathlib.Omega.{arith}
use native.Mathlib.Nat.{pow-suc, mul-mod_left, mul-div_cancel, div-one}
use lib.Dec.{eqb, eqb-zero-suc, eqb-suc-zero, eqb-suc-suc}
use lib.Arith.{lt-one}
use lib.Pow.{shr-shr}
use lib.Bits.{bit_or, bit_xor, or_shr, or_mod, xor_shr, xor_mod}
use lib.Count.{ones, ones_step, count_trailing_zeros, under}
use Rattle.base.specs.Fold.{fold, sum, bit}
use Rattle.base.proofs.Sums.{sum-ext, sum_first}
use Rattle.connection.specs.Words.{bit_at}

-- ── a word's lowest bit, and the others ──

pub bit-first : (w : ℕ) → bit_at w 0 ≡ eqb (w % 2) 1
unfolding bit_at
bit-first w = rw div-one

pub bit-next : (w i : ℕ) → bit_at w (suc i) ≡ bit_at (w / 2) i
unfolding bit_at
bit-next w i = let e : suc i ≡ 1 + i = omega arith in rw e (ap (λ x. eqb (x % 2) 1) (sym (shr-shr w 1 i)))

pub bit-none : (i : ℕ) → bit_at 0 i ≡ false
bit-none zero = bit-first 0
bit-none (suc i) = bit-next 0 i ∙ bit-none i

-- ── one bit alone ──

pub bit-alone : (k i : ℕ) → bit_at (2 ^ k) i ≡ eqb k i
bit-alone zero zero = bit-first 1
bit-alone zero (suc i) = bit-next 1 i ∙ bit-none i ∙ sym (eqb-zero-suc i)
bit-alone (suc k) zero = bit-first (2 ^ suc k) ∙ rw (pow-suc, mul-mod_left, eqb-suc-zero)
bit-alone (suc k) (suc i) =
    bit-next (2 ^ suc k) i ∙ rw (pow-suc, mul-div_cancel (2 ^ k) {n = 2} (omega arith), eqb-suc-suc) (bit-alone k i)

-- ── two words together ──

digit-bit : (d : ℕ) → d < 2 → bit (eqb d 1) ≡ d
digit-bit zero l = refl
digit-bit (suc zero) l = refl
digit-bit (suc (suc d)) l = absurd (omega arith)

module _ (op : ℕ → ℕ → ℕ) (test : Bool → Bool → Bool)
    (high : (a b k : ℕ) → op a b / 2 ^ k ≡ op (a / 2 ^ k) (b / 2 ^ k))
    (low : (a b k : ℕ) → op a b % 2 ^ k ≡ op (a % 2 ^ k) (b % 2 ^ k))
    (table : (x y : Bool) → eqb (op (bit x) (bit y)) 1 ≡ test x y) where
  bits_of : (i a b : ℕ) → bit_at (op a b) i ≡ test (bit_at a i) (bit_at b i)
  unfolding bit_at
  bits_of i a b =
      let x = a / 2 ^ i in
      let y = b / 2 ^ i in
      ap (λ z. eqb (z % 2) 1) (high a b i) ∙ ap (λ z. eqb z 1) (low x y 1)
      ∙ ap₂ (λ c d. eqb (op c d) 1) (sym (digit-bit (x % 2) (omega arith))) (sym (digit-bit (y % 2) (omega arith)))
      ∙ table (eqb (x % 2) 1) (eqb (y % 2) 1)

pub bit-or : (i a b : ℕ) → bit_at (bit_or a b) i ≡ (bit_at a i || bit_at b i)
bit-or = bits_of bit_or ◌||◌ or_shr or_mod table
  where
    table : (x y : Bool) → eqb (bit_or (bit x) (bit y)) 1 ≡ (x || y)
    table true true = refl
    table true false = refl
    table false true = refl
    table false false = refl

pub bit-xor : (i a b : ℕ) → bit_at (bit_xor a b) i ≡ xor (bit_at a i) (bit_at b i)
unfolding xor
bit-xor = bits_of bit_xor xor xor_shr xor_mod table
  where
    table : (x y : Bool) → eqb (bit_xor (bit x) (bit y)) 1 ≡ xor x y
    table true true = refl
    table true false = refl
    table false true = refl
    table false false = refl

-- ── the lowest bit that is set ──

pub trailing-set : (k w : ℕ) → count_trailing_zeros k w < k → bit_at w (count_trailing_zeros k w) ≡ true
unfolding count_trailing_zeros
trailing-set zero w l = absurd (omega arith)
trailing-set (suc k) w l = go (w % 2) refl (trailing-set k (w / 2)) l
  where
    go : (d : ℕ) → w % 2 ≡ d → (count_trailing_zeros k (w / 2) < k → bit_at (w / 2) (count_trailing_zeros k (w / 2)) ≡ true)
        → under d (count_trailing_zeros k (w / 2)) < suc k → bit_at w (under d (count_trailing_zeros k (w / 2))) ≡ true
    go zero e ih l = bit-next w _ ∙ ih (omega arith)
    go (suc zero) e ih l = bit-first w ∙ rw e
    go (suc (suc d)) e ih l = absurd (omega arith)

pub trailing-clear : (k w i : ℕ) → i < count_trailing_zeros k w → bit_at w i ≡ false
unfolding count_trailing_zeros
trailing-clear zero w i l = absurd (omega arith)
trailing-clear (suc k) w i l = go (w % 2) i refl (trailing-clear k (w / 2)) l
  where
    go : (d i : ℕ) → w % 2 ≡ d → ((i : ℕ) → i < count_trailing_zeros k (w / 2) → bit_at (w / 2) i ≡ false)
        → i < under d (count_trailing_zeros k (w / 2)) → bit_at w i ≡ false
    go zero zero e ih l = bit-first w ∙ rw e
    go zero (suc i) e ih l = bit-next w i ∙ ih i (omega arith)
    go (suc d) i e ih l = absurd (omega arith)

-- ── how many bits are set ──

pub ones-bits : (k w : ℕ) → w < 2 ^ k → ones w ≡ sum k (λ i. bit (bit_at w i))
unfolding ones fold
ones-bits zero w l = ap ones (lt-one l)
ones-bits (suc k) w l =
    omega (
      arith,
      ones_step w,
      ones-bits k (w / 2) (omega (arith, pow-suc 2 k)),
      sum-ext k (λ i. bit (bit_at (w / 2) i)) (λ i. bit (bit_at w (suc i))) (λ i m. ap bit (sym (bit-next w i))),
      sum_first k (λ i. bit (bit_at w i)),
      ap bit (bit-first w),
      digit-bit (w % 2) (omega arith),
    )
