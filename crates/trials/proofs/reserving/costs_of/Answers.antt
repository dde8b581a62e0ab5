-- `trials::reserving::costs_of` meets its contract.
use Rattle.replies.proofs.Within.{within-front}
use Rattle.trials.proofs.reserving.costs_of.Goals as goal

pub say_with_text-requires : goal.say_with_text-requires
say_with_text-requires o c = within-front _ _ _ _ _ c.plan_candidates-reply.ensures.reply c.plan_candidates-reply.auto.costs
