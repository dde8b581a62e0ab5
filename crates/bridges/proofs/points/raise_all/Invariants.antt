-- What the loop of `bridges::points::raise_all` keeps: the places from k on are raised.
use Rattle.bridges.specs.LowPoints.{Raised}
use Rattle.bridges.proofs.points.raise_all.Given as goal

abbrev pub invariant-loop-k : goal.invariant-loop-k
invariant-loop-k l = Raised l.forest.parent l.forest.count l.initial.points l.k l.points
