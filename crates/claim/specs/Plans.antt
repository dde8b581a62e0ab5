-- The chain text of a plan.
use Rattle.std.specs.Prelude.{List, map, ℕ}
use Rattle.frame.specs.declared.kinds.Step as kinds
use Rattle.chain_text.specs.Text.{chain_text}
use Rattle.graph.specs.Plan.{plan_steps, plan_drop}
use Rattle.graph.specs.declared.Network.{Network}
use Rattle.graph.specs.declared.Step.{Step}

-- a step as its frame names it
abbrev pub in_frame : Step → kinds.Step
in_frame t = record { v = t.v; x = t.x; y = t.y; z = t.z; cost = t.cost }

-- the chain text of n steps of the plan and its ending
unfoldable pub plan_chain : ℕ → Network → List ℕ
plan_chain n g = chain_text (map in_frame (plan_steps n g)) (plan_drop n g)
