-- `flow::arcs::gather` meets its contract: the ends are moved edge by edge.
use mathlib.Core.Path.{◌∙◌}
use native.Mathlib.Omega.{arith}
use Rattle.flow.proofs.Gathering.{moving-none, moving-on}
use Rattle.flow.proofs.arcs.gather.Goals as goal

pub loop-edge-init : goal.loop-edge-init
loop-edge-init c = moving-none

pub loop-edge-preserved : goal.loop-edge-preserved
loop-edge-preserved c =
    let moved = c.loop-edge.invariant in
    moving-on moved (moved.size ∙ c.requires.0) (omega arith) _ _ c.moved_from.ensures
    c.moved_from-in-loop-edge.ensures
