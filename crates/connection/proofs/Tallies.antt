-- Laws of sums of bits over the numbers below n.
use mathlib.Core.Path.{◌≡◌, refl, ◌∙◌, ap}
use mathlib.Core.Bool.{Bool, true, false}
use Prim.Native.Nat.{ℕ, zero, suc, ◌≤◌, ◌<◌}
use native.Mathlib.Omega.{arith}
use native.Mathlib.Decide.{ℕ_discrete}
use lib.Dec.{eqb}
use Rattle.base.specs.Fold.{fold, sum, each, bit}
use Rattle.base.proofs.Bools.{eqb-self, eqb_is, same_test, bit-low, bit-true}
use Rattle.base.proofs.Sums.{sum-ext, sum-le, sum_ones, each_at, each_in}

pub bit_le : (a b : Bool) → (a ≡ true → b ≡ true) → bit a ≤ bit b
bit_le true b h = rw (h refl) (omega arith)
bit_le false b h = omega arith

pub bit-same : (a b : Bool) → bit a ≡ bit b → a ≡ b
bit-same true true h = refl
bit-same false false h = refl
bit-same true false h = absurd (omega arith)
bit-same false true h = absurd (omega arith)

-- terms that are no larger, and whose sum is no smaller, are the same
pub sum_same : (n : ℕ) (f h : ℕ → ℕ) → ((i : ℕ) → i < n → f i ≤ h i) → sum n h ≤ sum n f
    → (i : ℕ) → i < n → f i ≡ h i
unfolding fold
sum_same zero f h le e i l = absurd (omega arith)
sum_same (suc n) f h le e i l =
    let below = sum-le n f h (λ i l. le i (omega arith)) in
    let last = le n (omega arith) in
    elim (ℕ_discrete i n) [
      | yes w ↦ rw w (omega arith)
      | no w ↦ sum_same n f h (λ i l. le i (omega arith)) (omega arith) i (omega arith)
    ]

-- p holds of each number below n exactly if it holds of n of them
pub each-count : (n : ℕ) (p : ℕ → Bool) → each n p ≡ eqb (sum n (λ i. bit (p i))) n
each-count n p = same_test _ _ all back
  where
    all : each n p ≡ true → eqb (sum n (λ i. bit (p i))) n ≡ true
    all h = rw (sum-ext n (λ i. bit (p i)) (λ i. 1) (λ i l. ap bit (each_at n p h i l)) ∙ sum_ones n) (eqb-self n)

    back : eqb (sum n (λ i. bit (p i))) n ≡ true → each n p ≡ true
    back h =
        let count : sum n (λ i. bit (p i)) ≡ n = eqb_is h in
        let one = sum_same n (λ i. bit (p i)) (λ i. 1) (λ i l. bit-low (p i)) (omega (arith, sum_ones n)) in
        each_in n p (λ i l. bit-true (p i) (omega (arith, one i l)))
