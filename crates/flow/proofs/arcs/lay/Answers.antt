-- `lay` meets its contract: the edges are laid one by one.
use native.Mathlib.Omega.{arith}
use Rattle.flow.proofs.Laying.{laid_none, laid_on}
use Rattle.flow.proofs.arcs.lay.Goals as goal

pub loop-edge-init : goal.loop-edge-init
loop-edge-init c = laid_none _

pub loop-edge-preserved : goal.loop-edge-preserved
loop-edge-preserved c = laid_on c.loop-edge.invariant (omega arith)
