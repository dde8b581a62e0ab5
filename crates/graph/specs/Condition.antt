-- Condition 3 over meanings: what a chain by the rules keeps, and that one exists.
use Rattle.std.specs.Prelude.{Bool, false, List, ◌↔◌, ◌≡◌, ℕ, ◌<◌, length, pos, ◌*ℤ◌, ◌≤ℤ◌}
use Rattle.base.specs.Answer.{answer}
use Rattle.graph.specs.Network.{cost_of, kept, kept_cost, all_but_reserved}
use Rattle.graph.specs.Cut.{EveryCutOf}
use Rattle.graph.specs.Split.{after, swapped}
use Rattle.graph.specs.Chain.{check, StepByRule, ByRules, Leads}
use Rattle.graph.specs.Back.{Back}
use Rattle.graph.specs.Sound.{Sound}
use Rattle.graph.specs.declared.Network.{Network}
use Rattle.graph.specs.declared.Step.{Step}

-- a kept set as it is owed: a mark for each edge, so none twice; the reserved edge left out; every cut crossed
-- at least twice; and three times its cost at most twice the cost of all edges but the reserved one
pub record Good (g : Network) (K : List Bool) : Type 0 where
  pub sized : length K ≡ length g.low
  pub leaves_out : kept K g.reserved ≡ false
  pub twice : EveryCutOf 2 g (kept K)
  pub ratio : (pos 3 *ℤ kept_cost g K) ≤ℤ (pos 2 *ℤ all_but_reserved g)

-- a chain passes: its check keeps a set
abbrev pub Passes : Network → List Step → ℕ → Type 0
Passes g ts d = (K : List Bool) × (check g ts d ≡ answer K)

pub record Condition (g : Network) : Type 0 where
  -- the check of a chain keeps a set exactly when the chain keeps the rules and going back gives this set
  pub rules : (ts : List Step) (d : ℕ) (K : List Bool) → (check g ts d ≡ answer K) ↔ (ByRules g ts d × Back g ts d K)
  -- going back gives exactly one set
  pub one : (ts : List Step) (d : ℕ) → ByRules g ts d
      → (K : List Bool) × Back g ts d K × ((L : List Bool) → Back g ts d L → L ≡ K)
  -- the edges that a chain by the rules keeps are as owed
  pub good : (ts : List Step) (d : ℕ) (K : List Bool) → ByRules g ts d → Back g ts d K → Good g K
  -- some chain keeps the rules
  pub exists : (ts : List Step) × (d : ℕ) × ByRules g ts d
  -- wherever steps by rule lead, either of x and y may be
  -- split with, so that both must be tested: a sound network is left
  pub either : (ts : List Step) (h : Network) → Leads g ts h → 2 < h.remaining → (t : Step) → StepByRule h t
      → Sound (after h t) × Sound (after h (swapped t))
  -- and what a step says of z is what z costs on the network after it
  pub named : (ts : List Step) (h : Network) → Leads g ts h → 2 < h.remaining → (t : Step) → StepByRule h t
      → cost_of (after h t) t.z ≡ t.cost
