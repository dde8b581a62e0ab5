-- `table_text::frames::weight_ok` meets its contract.
use borrow.Author.Tests.{le-leb, lt-leb}
use Rattle.table_text.specs.Frames.{weight_ok}
use Rattle.table_text.proofs.frames.weight_ok.Goals as goal

pub returns-then-weight-ge-LEAST_WEIGHT : goal.returns-then-weight-ge-LEAST_WEIGHT
unfolding weight_ok
returns-then-weight-ge-LEAST_WEIGHT c = rw (le-leb _ _ c.if-weight-ge-LEAST_WEIGHT.true)

pub returns-else-weight-ge-LEAST_WEIGHT : goal.returns-else-weight-ge-LEAST_WEIGHT
unfolding weight_ok
returns-else-weight-ge-LEAST_WEIGHT c = rw (lt-leb _ _ c.if-weight-ge-LEAST_WEIGHT.false)
