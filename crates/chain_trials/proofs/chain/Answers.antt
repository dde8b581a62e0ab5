-- `chain_trials::chain` meets its contract.
use Rattle.replies.proofs.Within.{within}
use Rattle.chain_trials.proofs.chain.Goals as goal

pub say_with_text-requires : goal.say_with_text-requires
say_with_text-requires o c = within _ _ _ _ c.check_chain-reply.ensures.reply c.check_chain-reply.auto.kept
