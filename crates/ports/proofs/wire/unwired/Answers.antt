-- `ports::wire::unwired` meets its contract.
use native.Mathlib.Omega.{arith}
use Rattle.base.proofs.Sums.{tabulate-is}
use Rattle.ports.specs.Ports.{port_limit}
use Rattle.ports.proofs.wire.unwired.Goals as goal

pub returns : goal.returns
returns c =
    tabulate-is port_limit (λ p. p) 0 c.loop-port.mate-items (omega arith)
    (λ p h. c.loop-port.invariant p (omega arith))
