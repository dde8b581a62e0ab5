-- `trials::binder::page_of` meets its contract.
use Rattle.replies.proofs.Within.{within}
use Rattle.trials.proofs.binder.page_of.Goals as goal

pub say_with_text-requires : goal.say_with_text-requires
say_with_text-requires o c = within _ _ _ _ c.print_page-reply.ensures.reply c.print_page-reply.auto.page
