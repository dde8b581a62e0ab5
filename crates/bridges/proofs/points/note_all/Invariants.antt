-- What the loop of `bridges::points::note_all` keeps: the listed edges below e are noted.
use Rattle.bridges.specs.LowPoints.{Noted}
use Rattle.bridges.proofs.points.note_all.Given as goal

abbrev pub invariant-loop-e : goal.invariant-loop-e
invariant-loop-e l =
    Noted l.network.low l.network.high l.listed l.network.edges l.forest.number l.forest.edge l.e l.points
