-- What the loop of `forest::Forest::plant_all` keeps: the vertices below v have places.
use Prim.Native.Nat.{ℕ, ◌<◌}
use Rattle.base.specs.Columns.{at}
use Rattle.forest.specs.Forest.{no_place}
use Rattle.forest.specs.Search.{Grown}
use Rattle.forest.proofs.Forest.plant_all.Given as goal

abbrev pub invariant-loop-v : goal.invariant-loop-v
invariant-loop-v l = record {
  placed : (u : ℕ) → u < l.v → at l.self.number u < no_place;
  grown : Grown l.network.low l.network.high l.table.next l.initial.self l.initial.ahead no_place l.self l.ahead no_place;
}
