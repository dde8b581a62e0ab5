-- `bridges::points::note_all` meets its contract.
use mathlib.Core.Path.{◌≡◌}
use native.Mathlib.Omega.{arith}
use Rattle.bridges.proofs.Noting.{noted-unlisted, noted-listed}
use Rattle.bridges.proofs.points.note_all.Goals as goal
use Rattle.bridges.proofs.points.note_all.Goals.{then-listed-e, else-listed-e}

pub loop-e-preserved : goal.loop-e-preserved
loop-e-preserved c =
    let noted = c.loop-e.invariant in
    elim c.if-listed-e.branch [
      | then-listed-e w ↦ rw w.points-is (noted-listed noted c.loop-e-test.true w.if-listed-e.true w.note.ensures)
      | else-listed-e w ↦ rw w.points-is (noted-unlisted noted w.if-listed-e.false)
    ]

pub returns : goal.returns
returns c =
    let all : c.loop-e.e ≡ c.args.network.now.edges = omega arith in
    rw all at c.loop-e.invariant
