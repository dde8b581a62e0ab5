-- `chain_trials::explained::reasons_of` meets its contract.
use Rattle.replies.proofs.Within.{within-front}
use Rattle.chain_trials.proofs.explained.reasons_of.Goals as goal

pub say_with_text-requires : goal.say_with_text-requires
say_with_text-requires o c = within-front _ _ _ _ _ c.explain_chain-reply.ensures.reply c.explain_chain-reply.auto.reasons
