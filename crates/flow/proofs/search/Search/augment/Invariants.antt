-- What the loop of `flow::search::Search::augment` keeps, and that it ends.
use Rattle.flow.proofs.Pushing.{Partway}
use Rattle.flow.proofs.search.Search.augment.Given as goal

abbrev pub invariant-loop-number : goal.invariant-loop-number
invariant-loop-number l = Partway l.ends l.self l.vertex l.initial.residual l.residual l.number

abbrev pub decreases-loop-number : goal.decreases-loop-number
decreases-loop-number l = l.number
