-- The steps of a plan as the planner hands them back, in columns.
use Rattle.std.specs.Prelude.{List, map, ◌++◌, ℕ, ◌≤◌, ℤ, length, take, drop}
use Rattle.base.specs.Answer.{over}
use Rattle.graph.specs.Plan.{plan_steps}
use Rattle.graph.specs.declared.Network.{Network}
use Rattle.graph.specs.declared.Step.{Step}

-- a column with elements written over it from a place on
unfoldable pub over_at : {A : Type 0} → ℕ → List A → List A → List A
over_at at xs old = take at old ++ over xs (drop at old)

-- a column with a part of each of the plan's n steps, from a place on
abbrev pub planned : {A : Type 0} → (Step → A) → ℕ → Network → ℕ → List A → List A
planned part n g at old = over_at at (map part (plan_steps n g)) old

-- columns that have room for n steps
pub record StepRoom (n : ℕ) (v x y z : List ℕ) (cost : List ℤ) : Type 0 where
  pub v_room : n ≤ length v
  pub x_room : n ≤ length x
  pub y_room : n ≤ length y
  pub z_room : n ≤ length z
  pub cost_room : n ≤ length cost
