-- `trials::solver::network` meets its contract.
use Rattle.replies.proofs.Within.{within}
use Rattle.trials.proofs.solver.network.Goals as goal

pub say_with_text-requires : goal.say_with_text-requires
say_with_text-requires o c = within _ _ _ _ c.table_network-reply.ensures.reply c.table_network-reply.auto.network
