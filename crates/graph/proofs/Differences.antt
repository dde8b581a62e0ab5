-- Costs in 64 bits: which are one, and the difference of two working costs of a light network, which fits.
use mathlib.Core.Path.{◌≡◌, refl, sym, ◌∙◌, ap}
use mathlib.Core.Bool.{Bool, true, false}
use Prim.Native.Nat.{ℕ, ◌<◌, ◌^◌}
use native.Mathlib.Omega.{arith}
use lib.Dec.{eqb}
use lib.IntN.{ℤ, nat_abs, ◌-ℤ◌}
use lib.Signed.{le_z}
use mir.Syntax.{w64}
use mir.Val.{SFits, to_z, of_z}
use mir.Facts.{to_z-of_z}
use borrow.Author.Tests.{eqb-true, eqb-false}
use Rattle.base.proofs.Bools.{and_left, and_right, and_both}
use Rattle.base.proofs.Sums.{term-le}
use Rattle.base.proofs.Integers.{eqℤ, le_test, le_is, size-minus, size_fits, read_back}
use Rattle.graph.specs.Network.{cost_of, same_cost}
use Rattle.graph.specs.Sound.{weight, Light}
use Rattle.graph.specs.declared.Network.{Network}

-- the test of two costs says whether they are one
pub same-cost : (a b : ℤ) → same_cost a b ≡ true → a ≡ b
unfolding same_cost
same-cost a b h =
    eqℤ a b (omega (arith, le_is a b (and_left (le_z a b) (le_z b a) h), le_is b a (and_right (le_z a b) (le_z b a) h)))

pub cost-same : (a : ℤ) → same_cost a a ≡ true
unfolding same_cost
cost-same a = let h = le_test a a (omega arith) in and_both h h

-- and so does the test of their bits
pub bits-same : (a b : ℤ) → SFits w64 a → SFits w64 b → eqb (of_z w64 a) (of_z w64 b) ≡ same_cost a b
bits-same a b p q = go (eqb (of_z w64 a) (of_z w64 b)) (same_cost a b) refl refl
  where
    go : (s t : Bool) → eqb (of_z w64 a) (of_z w64 b) ≡ s → same_cost a b ≡ t → s ≡ t
    go true t h k =
        let e : a ≡ b = sym (to_z-of_z p) ∙ ap (to_z w64) (eqb-true (of_z w64 a) (of_z w64 b) h) ∙ to_z-of_z q in
        sym (rw e (cost-same b)) ∙ k
    go false true h k = absurd (eqb-false (of_z w64 a) (of_z w64 b) h (ap (of_z w64) (same-cost a b k)))
    go false false h k = refl

module _ (g : Network) (light : Light g) where
  pub cost-below : (e : ℕ) → e < g.edges → nat_abs (cost_of g e) < 2 ^ 62
  unfolding weight
  cost-below e l = omega (arith, term-le g.edges (λ i. nat_abs (cost_of g i)) e l)

  -- a working cost is read back from its bits
  pub cost-kept : (e : ℕ) → e < g.edges → to_z w64 (of_z w64 (cost_of g e)) ≡ cost_of g e
  cost-kept e l = read_back (cost_of g e) (omega (arith, cost-below e l))

  pub difference-small : (a b : ℕ) → a < g.edges → b < g.edges → SFits w64 (cost_of g a -ℤ cost_of g b)
  difference-small a b p q =
      size_fits (cost_of g a -ℤ cost_of g b)
      (omega (arith, size-minus (cost_of g a) (cost_of g b), cost-below a p, cost-below b q))

  pub difference-fits : (a b : ℕ) → a < g.edges → b < g.edges
      → SFits w64 (to_z w64 (of_z w64 (cost_of g a)) -ℤ to_z w64 (of_z w64 (cost_of g b)))
  difference-fits a b p q = rw (cost-kept a p, cost-kept b q) (difference-small a b p q)

  pub difference-is : (a b : ℕ) → a < g.edges → b < g.edges
      → to_z w64 (of_z w64 (to_z w64 (of_z w64 (cost_of g a)) -ℤ to_z w64 (of_z w64 (cost_of g b)))) ≡ cost_of g a -ℤ cost_of g b
  difference-is a b p q = to_z-of_z (difference-fits a b p q) ∙ rw (cost-kept a p, cost-kept b q)
