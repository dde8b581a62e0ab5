-- `host_plans::solver::thinning_plan_table` meets its contract.
use mathlib.Core.Path.{◌∙◌, ap}
use Rattle.base.specs.Answer.{refusal_of, number_given}
use Rattle.host_plans.proofs.Numbers.{planned-number, planned-chain, planned-kept}
use Rattle.host_plans.proofs.solver.thinning_plan_table.Goals as goal

pub returns : goal.returns
returns c =
    let e = c.plan_table.ensures in
    let a = c.args in
    record {
      number = c.give_lengths.ensures.number ∙ ap refusal_of e.reply ∙ planned-number _;
      chain = e.chain;
      kept = e.kept;
      chain_written = c.give_lengths.ensures.chain_written
          ∙ ap (λ r. number_given (λ lengths. lengths.chain) r a.chain_written.now) e.reply
          ∙ planned-chain _ _;
      kept_written = c.give_lengths.ensures.kept_written
          ∙ ap (λ r. number_given (λ lengths. lengths.kept) r a.kept_written.now) e.reply
          ∙ planned-kept _ _;
    }
