-- `base::limits::vertices_ok` meets its contract.
use borrow.Author.Tests.{le-leb, lt-leb}
use Rattle.base.specs.Limits.{vertices_ok}
use Rattle.base.proofs.limits.vertices_ok.Goals as goal

pub returns-then-n-ge-FEWEST_VERTICES : goal.returns-then-n-ge-FEWEST_VERTICES
unfolding vertices_ok
returns-then-n-ge-FEWEST_VERTICES c = rw (le-leb _ _ c.if-n-ge-FEWEST_VERTICES.true)

pub returns-else-n-ge-FEWEST_VERTICES : goal.returns-else-n-ge-FEWEST_VERTICES
unfolding vertices_ok
returns-else-n-ge-FEWEST_VERTICES c = rw (lt-leb _ _ c.if-n-ge-FEWEST_VERTICES.false)
