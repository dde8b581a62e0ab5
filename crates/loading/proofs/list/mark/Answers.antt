-- `loading::list::mark` meets its contract. The loop's invariant: of the edges that the loop goes over, those before a
-- place are marked, and no others.
use native.Mathlib.Omega.{arith}
use lib.ListN.{length-take}
use lib.Seq.{take_all, get_or-take, get_or-drop}
use Rattle.loading.proofs.ListMarks.{marked-none, marked_next, marked_all}
use Rattle.loading.proofs.list.mark.Goals as goal

pub loop-edge-init : goal.loop-edge-init
loop-edge-init c = marked-none _ _ c.args.marks.now c.requires.unmarked

-- an edge of any slice of those to be marked has a place among the marks
pub loop-edge-preserved : goal.loop-edge-preserved
loop-edge-preserved c =
    let below = c.requires.below in
    let h = c.loop-edge-test.true in
    marked_next c.loop-edge.invariant h h (grind (arith, length-take, get_or-take, get_or-drop, below))

-- what the loop goes over are the first `count` edges
pub returns : goal.returns
returns c =
    let all = marked_all c.loop-edge.invariant c.loop-edge-test.false in
    grind (arith, take_all, all)
