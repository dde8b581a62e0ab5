-- A loop that counts the numbers of which a test holds.
use mathlib.Core.Path.{◌≡◌, refl, ap}
use mathlib.Core.Bool.{Bool, true, false}
use Prim.Native.Nat.{ℕ, ◌+◌, ◌≤◌}
use native.Mathlib.Omega.{arith}
use native.Mathlib.Numerals.{add-one}
use Rattle.base.specs.Fold.{fold, sum, bit}

-- of the numbers below e, p holds of so many
pub record Counted (p : ℕ → Bool) (e count : ℕ) : Type 0 where
  pub few : count ≤ e
  pub total : count ≡ sum e (λ i. bit (p i))

module _ (p : ℕ → Bool) where
  pub counted_none : Counted p 0 0
  unfolding fold
  counted_none = record { few = omega arith; total = refl }

  module _ {e count : ℕ} (w : Counted p e count) where
    pub counted-hit : p e ≡ true → Counted p (e + 1) (count + 1)
    unfolding fold
    counted-hit h = record { few = omega (arith, w.few); total = rw (add-one e) (omega (arith, w.total, ap bit h)) }

    pub counted-miss : p e ≡ false → Counted p (e + 1) count
    unfolding fold
    counted-miss h = record { few = omega (arith, w.few); total = rw (add-one e) (omega (arith, w.total, ap bit h)) }
