-- How many numbers pass a test, where one does, or two.
use mathlib.Core.Path.{◌≡◌, refl, sym, ◌∙◌, ap}
use mathlib.Core.Logic.{◌≢◌, ◌⊎◌, ⊎_elim}
use mathlib.Core.Bool.{Bool, true, false}
use Prim.Native.Nat.{ℕ, ◌<◌}
use native.Mathlib.Omega.{arith}
use native.Mathlib.Decide.{ℕ_discrete}
use Rattle.base.specs.Fold.{bit}
use Rattle.base.proofs.Sums.{sum-change, sum_zeros, sum-out, out, out-same, out-other}
use Rattle.departures.specs.Explained.{how_many}

-- a test that fails counts nothing
uncounted : (t : Bool) → (t ≡ true → ⊥) → bit t ≡ 0
uncounted true fails = absurd (fails refl)
uncounted false fails = refl

pub one_passes : (n i : ℕ) (p : ℕ → Bool) → i < n → p i ≡ true → ((j : ℕ) → j < n → p j ≡ true → j ≡ i)
    → how_many n p ≡ 1
one_passes n i p l h only =
    omega (
      arith,
      ap bit h,
      sum_zeros n,
      sum-change n i (λ j. bit (p j)) (λ j. 0) l (λ j k ne. uncounted (p j) (λ q. ne (only j k q))),
    )

pub two-pass : (n i j : ℕ) (p : ℕ → Bool) → i < n → j < n → i ≢ j → p i ≡ true → p j ≡ true
    → ((k : ℕ) → k < n → p k ≡ true → (k ≡ i) ⊎ (k ≡ j)) → how_many n p ≡ 2
two-pass n i j p li lj apart hi hj only =
    let f : ℕ → ℕ = λ k. bit (p k) in
    omega (
      arith,
      ap bit hi,
      ap bit hj,
      sum_zeros n,
      sum-out n i f li,
      out-other i f j (λ q. apart (sym q)),
      sum-change n j (out i f) (λ k. 0) lj other,
    )
  where
    other : (k : ℕ) → k < n → k ≢ j → out i (λ k. bit (p k)) k ≡ 0
    other k l nj = elim (ℕ_discrete k i) [
      | yes q ↦ rw q (out-same i (λ k. bit (p k)))
      | no ni ↦ out-other i (λ k. bit (p k)) k ni ∙ uncounted (p k) (λ h. ⊎_elim ni nj (only k l h))
    ]
