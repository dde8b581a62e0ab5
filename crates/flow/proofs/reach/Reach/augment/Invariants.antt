-- What the loop of `flow::reach::Reach::augment` keeps, and that it ends.
use Rattle.flow.proofs.Trails.{Partway}
use Rattle.flow.proofs.reach.Reach.augment.Given as goal

abbrev pub invariant-loop-number : goal.invariant-loop-number
invariant-loop-number l =
    Partway l.mate l.self l.vertex l.initial.residual l.residual l.number

abbrev pub decreases-loop-number : goal.decreases-loop-number
decreases-loop-number l = l.number
