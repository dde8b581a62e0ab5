-- `base::limits::cost_ok` meets its contract.
use mir.Facts.{to_z-of_z}
use Rattle.base.specs.Limits.{cost_ok}
use Rattle.base.proofs.limits.cost_ok.Goals as goal

pub returns-then-c : goal.returns-then-c
unfolding cost_ok
returns-then-c c = let z = to_z-of_z c.ranges.c in rw (z, rw z at c.if-c.true)

pub returns-else-c : goal.returns-else-c
unfolding cost_ok
returns-else-c c = let z = to_z-of_z c.ranges.c in rw (z, rw z at c.if-c.false)
