-- What the loop of `ports::wire::unwired` keeps: every port passed is its own mate.
use mathlib.Core.Path.{◌≡◌}
use Prim.Native.Nat.{ℕ, ◌<◌}
use Rattle.base.specs.Columns.{at}
use Rattle.ports.proofs.wire.unwired.Given as goal

abbrev pub invariant-loop-port : goal.invariant-loop-port
invariant-loop-port l = (p : ℕ) → p < l.port → at l.mate-items p ≡ p
