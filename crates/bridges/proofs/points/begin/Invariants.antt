-- What the loop of `bridges::points::begin` keeps: the places passed are their own points.
use Prim.Native.Nat.{ℕ, ◌<◌}
use mathlib.Core.Path.{◌≡◌}
use Rattle.base.specs.Columns.{at}
use Rattle.bridges.proofs.points.begin.Given as goal

abbrev pub invariant-loop-i : goal.invariant-loop-i
invariant-loop-i l = (k : ℕ) → k < l.i → at l.points k ≡ k
