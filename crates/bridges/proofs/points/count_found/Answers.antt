-- `bridges::points::count_found` meets its contract.
use Rattle.bridges.proofs.Counting.{counted_none, counted-hit, counted-miss}
use Rattle.bridges.proofs.points.count_found.Goals as goal
use Rattle.bridges.proofs.points.count_found.Goals.{then-listed-e+then-is_found, else-listed-e, else-listed-e-via-then-listed-e+else-is_found, else-listed-e-via-else-listed-e}

pub loop-e-init : goal.loop-e-init
loop-e-init c = counted_none _

pub loop-e-preserved : goal.loop-e-preserved
loop-e-preserved c =
    let counted = c.loop-e.invariant in
    elim c.if-listed-e.branch [
      | then-listed-e+then-is_found w ↦ rw w.count-is (counted-hit _ counted (rw (w.if-listed-e.true, ← w.is_found.ensures) w.if-is_found.true))
      | else-listed-e w ↦ rw w.count-is
          (counted-miss _ counted
          (elim w.else-listed-e.branch [
            | else-listed-e-via-then-listed-e+else-is_found v ↦ rw (v.if-listed-e.true, ← v.is_found.ensures) v.if-is_found.false
            | else-listed-e-via-else-listed-e v ↦ rw v.if-listed-e.false
          ]))
    ]
