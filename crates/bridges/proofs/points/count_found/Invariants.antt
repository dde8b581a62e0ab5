-- What the loop of `bridges::points::count_found` keeps: the bridges below e are counted.
use mathlib.Core.Bool.{◌&&◌}
use Rattle.graph.specs.Network.{kept}
use Rattle.bridges.specs.LowPoints.{found}
use Rattle.bridges.proofs.Counting.{Counted}
use Rattle.bridges.proofs.points.count_found.Given as goal

abbrev pub invariant-loop-e : goal.invariant-loop-e
invariant-loop-e l =
    Counted (λ d. kept l.listed d && found l.network.low l.network.high l.forest.number l.forest.edge l.points d) l.e l.count
