-- What the loop of `flow::search::Search::run` keeps, and that it ends.
use Prim.Native.Nat.{◌+◌, ◌*◌, ◌-◌, ◌≤◌}
use Rattle.base.specs.Limits.{vertex_limit}
use Rattle.flow.specs.Search.{Grown}
use Rattle.flow.proofs.search.Search.run.Given as goal

abbrev pub invariant-loop-self : goal.invariant-loop-self
invariant-loop-self l = (l.next ≤ vertex_limit + 1) × Grown l.ends l.residual l.initial.self l.self

abbrev pub decreases-loop-self : goal.decreases-loop-self
decreases-loop-self l = 2 * (vertex_limit + 1) - l.next - l.self.clock
