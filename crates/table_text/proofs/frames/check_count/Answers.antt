-- `table_text::frames::check_count` meets its contract.
use borrow.Author.Tests.{le-leb, lt-leb}
use Rattle.base.specs.Answer.{refusal_of}
use Rattle.table_text.specs.Frames.{count_refusal}
use Rattle.table_text.proofs.frames.check_count.Goals as goal

pub returns-then-spans-vertices : goal.returns-then-spans-vertices
unfolding count_refusal refusal_of
returns-then-spans-vertices c = rw (le-leb _ _ c.if-spans-vertices.true)

pub returns-else-spans-vertices : goal.returns-else-spans-vertices
unfolding count_refusal refusal_of
returns-else-spans-vertices c = rw (lt-leb _ _ c.if-spans-vertices.false)
