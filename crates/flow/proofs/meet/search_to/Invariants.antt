-- What the loop of `flow::meet::search_to` keeps, and that it ends.
use Prim.Native.Nat.{◌+◌, ◌-◌}
use Rattle.base.specs.Limits.{vertex_limit}
use Rattle.flow.specs.Reach.{Grown, Apart}
use Rattle.flow.specs.Meet.{Searching}
use Rattle.flow.proofs.meet.search_to.Given as goal

abbrev pub invariant-loop-next : goal.invariant-loop-next
invariant-loop-next l =
    Searching l.mate l.residual 1 l.search l.next × Grown l.mate l.residual l.initial.search l.search ×
    Apart l.search.order l.marks

abbrev pub decreases-loop-next : goal.decreases-loop-next
decreases-loop-next l = vertex_limit + 1 - l.next
