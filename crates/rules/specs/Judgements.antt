-- Whether a proposed step gives what is due.
use Rattle.std.specs.Prelude.{Bool, ◌&&◌, ℕ, eqb}
use Rattle.graph.specs.Network.{same_cost}
use Rattle.graph.specs.Split.{step_with}
use Rattle.graph.specs.declared.Network.{Network}
use Rattle.graph.specs.declared.Step.{Step}

-- a step names an edge as z, and what that costs after the step
unfoldable pub names : Network → Step → ℕ → Bool
names g t z = eqb t.z z && same_cost t.cost (step_with g t.v t.x t.y z).cost
