-- `base::exports::give_out` meets its contract.
use Rattle.std.proofs.Common.{rules}
use Rattle.base.specs.Answer.{refusal_of, number_given}
use Rattle.base.proofs.exports.give_out.Goals as goal

pub returns-in-Ok-clause-number : goal.returns-in-Ok-clause-number
unfolding refusal_of
returns-in-Ok-clause-number g c = search rules

pub returns-in-Ok-clause-out : goal.returns-in-Ok-clause-out
unfolding number_given
returns-in-Ok-clause-out g c = search rules

pub returns-in-Err-clause-number : goal.returns-in-Err-clause-number
unfolding refusal_of
returns-in-Err-clause-number g c = search rules

pub returns-in-Err-clause-out : goal.returns-in-Err-clause-out
unfolding number_given
returns-in-Err-clause-out g c = search rules
