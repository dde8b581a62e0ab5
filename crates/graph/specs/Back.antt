-- Going back from the ending of a chain through its steps, last first: which edges the chain keeps.
use Rattle.std.specs.Prelude.{Bool, true, false, not, List, [], ◌∷◌, ◌≢◌, ◌≡◌, ℕ, length}
use Rattle.graph.specs.Network.{kept}
use Rattle.graph.specs.Split.{after}
use Rattle.graph.specs.Chain.{LastEdge}
use Rattle.graph.specs.declared.Network.{Network}
use Rattle.graph.specs.declared.Step.{Step}

-- the ending keeps the other two of the last three, and nothing else
pub record EndKeeps (g : Network) (d : ℕ) (K : List Bool) : Type 0 where
  pub sized : length K ≡ length g.low
  pub dropped : kept K d ≡ false
  pub others : (e : ℕ) → LastEdge g e → e ≢ d → kept K e ≡ true
  pub rest : (e : ℕ) → (LastEdge g e → ⊥) → e ≢ d → kept K e ≡ false

-- going back through a step, from the marks after it to those before it:
-- y is kept, x exactly if z is not, everything else as it was
pub record StepKeeps (x y z : ℕ) (later K : List Bool) : Type 0 where
  pub sized : length K ≡ length later
  pub y_kept : kept K y ≡ true
  pub x_kept : kept K x ≡ not (kept later z)
  pub others : (e : ℕ) → e ≢ x → e ≢ y → kept K e ≡ kept later e

-- the marks that going back through all steps of a chain gives
pub data Back : Network → List Step → ℕ → List Bool → Type 0 where
  ending : {g : Network} {d : ℕ} {K : List Bool} → EndKeeps g d K → Back g [] d K
  step : {g : Network} {t : Step} {ts : List Step} {d : ℕ} {later K : List Bool}
      → Back (after g t) ts d later → StepKeeps t.x t.y t.z later K → Back g (t ∷ ts) d K
