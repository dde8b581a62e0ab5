-- `host_plans::plans::give_lengths` meets its contract.
use Rattle.std.proofs.Common.{rules}
use Rattle.base.specs.Answer.{refusal_of, number_given}
use Rattle.host_plans.proofs.plans.give_lengths.Goals as goal

pub returns-in-Ok : goal.returns-in-Ok
unfolding refusal_of number_given
returns-in-Ok c =
    record { number = search rules; chain_written = search rules; kept_written = search rules }

pub returns-in-Err : goal.returns-in-Err
unfolding refusal_of number_given
returns-in-Err c =
    record { number = search rules; chain_written = search rules; kept_written = search rules }
