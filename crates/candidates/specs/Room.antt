-- What the code that plans candidates asks for.
use Rattle.std.specs.Prelude.{List, ◌≡◌, ℕ, ◌≤◌, length}
use Rattle.base.specs.Words.{AllBelow}
use Rattle.graph.specs.Cut.{network_refusal}
use Rattle.graph.specs.declared.Network.{Network}
use Rattle.loading.specs.Known.{Known}
use Rattle.rules.specs.Running.{Running}
use Rattle.claim.specs.Condition.{reserving}
use Rattle.candidates.specs.Services.{plan_costs, candidates_costs}

-- a network that runs with another edge reserved, and room for the costs of its plan
pub record CandidateRoom (g : Network) (r : ℕ) (costs : List ℕ) : Type 0 where
  pub running : Running (reserving r g)
  pub long : length (plan_costs (reserving r g)) ≤ length costs

-- candidates that are edges of a known network that is not refused, and room for all their costs
pub record CandidatesRoom (g : Network) (rs costs : List ℕ) : Type 0 where
  pub known : Known g
  pub passed : network_refusal g ≡ 0
  pub below : AllBelow g.edges rs
  pub long : length (candidates_costs g rs) ≤ length costs
