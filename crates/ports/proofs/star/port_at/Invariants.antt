-- What the loop of `ports::star::port_at` keeps: the ports passed have another edge.
use mathlib.Core.Path.{◌≡◌}
use Prim.Native.Nat.{ℕ, ◌≤◌, ◌<◌}
use Rattle.base.specs.Columns.{at}
use Rattle.ports.proofs.star.port_at.Given as goal

abbrev pub invariant-loop-port : goal.invariant-loop-port
invariant-loop-port l = (p : ℕ) → l.start ≤ p → p < l.port → at l.edge p ≡ l.e → ⊥
