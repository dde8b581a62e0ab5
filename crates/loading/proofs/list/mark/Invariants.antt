-- What the loop of `loading::list::mark` keeps.
use lib.ListN.{length}
use Rattle.loading.proofs.ListMarks.{Marked}
use Rattle.loading.proofs.list.mark.Given as goal

abbrev pub invariant-loop-edge : goal.invariant-loop-edge
invariant-loop-edge l = Marked l.edge-items (length l.edge-items) l.edge-index l.marks
