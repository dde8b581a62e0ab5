-- `candidates::put_candidate` meets its contract.
use mathlib.Core.Path.{◌≡◌, refl}
use native.Mathlib.Omega.{arith}
use mir.Syntax.{w64}
use mir.Val.{to_z, of_z}
use Rattle.kept_text.specs.Text.{costs_text}
use Rattle.rules.proofs.Planning.{room-for}
use Rattle.claim.proofs.Accepting.{running-few}
use Rattle.claim.specs.Condition.{reserving}
use Rattle.candidates.specs.Services.{plan_costs}
use Rattle.candidates.proofs.Reserving.{plan-costs}
use Rattle.candidates.proofs.put_candidate.Goals as goal

pub plan_steps-requires : goal.plan_steps-requires
plan_steps-requires c =
    let run = c.requires.running in
    let few = running-few run in
    (run, refl, omega arith, room-for c.new-steps.ensures.room (omega arith))

pub put_costs-requires : goal.put_costs-requires
put_costs-requires c =
    let due : let a = c.args in costs_text (to_z w64 (of_z w64 c.kept_cost.result)) (to_z w64 (of_z w64 c.all_but_reserved.result)) ≡ plan_costs (reserving a.reserved a.network) =
    plan-costs c.requires.running _ c.plan_steps.ensures.marks _ _
    c.kept_cost.ensures c.all_but_reserved.ensures in
    rw due c.requires.long

pub returns : goal.returns
returns c =
    let due : let a = c.args in costs_text (to_z w64 (of_z w64 c.kept_cost.result)) (to_z w64 (of_z w64 c.all_but_reserved.result)) ≡ plan_costs (reserving a.reserved a.network) =
    plan-costs c.requires.running _ c.plan_steps.ensures.marks _ _
    c.kept_cost.ensures c.all_but_reserved.ensures in
    let e = due in
    (rw e at c.put_costs.ensures.0, rw e at c.put_costs.ensures.1)
