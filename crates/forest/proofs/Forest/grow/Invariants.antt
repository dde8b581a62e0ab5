-- What the loop of `forest::Forest::grow` keeps, and that it ends: the search goes on from the root to the place.
use Prim.Native.Nat.{◌+◌, ◌*◌}
use Rattle.forest.specs.Forest.{no_place}
use Rattle.forest.specs.Search.{Grown, work}
use Rattle.forest.proofs.Growing.{rank}
use Rattle.forest.proofs.Forest.grow.Given as goal

abbrev pub invariant-loop-place : goal.invariant-loop-place
invariant-loop-place l =
    Grown l.network.low l.network.high l.table.next l.initial.self l.initial.ahead l.root l.self l.ahead l.place

abbrev pub decreases-loop-place : goal.decreases-loop-place
decreases-loop-place l = (no_place + 1) * work l.ahead + rank l.place
