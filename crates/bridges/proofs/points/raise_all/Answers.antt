-- `bridges::points::raise_all` meets its contract.
use mathlib.Core.Path.{◌≡◌}
use native.Mathlib.Omega.{arith}
use Rattle.bridges.proofs.Raising.{raised-next}
use Rattle.bridges.proofs.points.raise_all.Goals as goal

pub loop-k-preserved : goal.loop-k-preserved
loop-k-preserved c = raised-next c.loop-k.invariant (omega arith) (omega arith) c.raise.ensures

pub returns : goal.returns
returns c =
    let all : c.loop-k.k ≡ 0 = omega arith in
    rw all at c.loop-k.invariant
