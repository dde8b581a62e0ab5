-- What the loop of `flow::meet::search_between` keeps, and that it ends.
use Prim.Native.Nat.{◌+◌, ◌-◌}
use Rattle.base.specs.Limits.{vertex_limit}
use Rattle.flow.proofs.Searches.{Turns}
use Rattle.flow.proofs.meet.search_between.Given as goal

abbrev pub invariant-loop-search : goal.invariant-loop-search
invariant-loop-search l = Turns l.mate l.residual l.initial.search l.initial.back l.search l.back l.next

abbrev pub decreases-loop-search : goal.decreases-loop-search
decreases-loop-search l = vertex_limit + 1 - l.next
