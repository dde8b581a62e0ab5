-- `host_plans::solver::thinning_check_table` meets its contract.
use mathlib.Core.Path.{◌∙◌, ap}
use Rattle.base.specs.Answer.{refusal_of}
use Rattle.host_plans.proofs.Numbers.{accepted-number}
use Rattle.host_plans.proofs.solver.thinning_check_table.Goals as goal

pub returns : goal.returns
returns c = c.give_out.ensures.number ∙ ap refusal_of c.check_table.ensures ∙ accepted-number _
