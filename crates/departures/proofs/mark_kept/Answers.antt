-- `departures::mark_kept` meets its contract.
use Rattle.departures.proofs.Columns.{marked-none, marked_all}
use Rattle.departures.proofs.mark_kept.Goals as goal

pub loop-edge-init : goal.loop-edge-init
loop-edge-init c = rw c.requires.1 marked-none

pub returns : goal.returns
returns c = marked_all c.loop-edge.invariant c.loop-edge-test.false
