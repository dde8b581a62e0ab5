-- `connection::search::reach` meets its contract: each turn keeps the search one, and takes some work away.
use Prim.Native.Nat.{◌<◌}
use Rattle.connection.specs.Search.{begun, taken}
use Rattle.connection.proofs.Searching.{Searching, work, search-begun, turn}
use Rattle.connection.proofs.search.reach.Goals as goal
use Rattle.connection.proofs.search.reach.Goals.{After-next_vertex-v}

pub loop-v-init : goal.loop-v-init
unfolding begun
loop-v-init c = rw (c.enter.ensures, c.new.ensures, c.new-2.ensures) (search-begun _ _ c.requires.0)

turned : (c : After-next_vertex-v) → let a = c.args in
    let now = c.next_vertex-v.new.self in
    Searching a.edges.now a.start now c.next_vertex-v.result
    × (work now < work c.loop-v.search)
unfolding taken
turned c =
    turn _ _ _ _ _ c.loop-v.invariant c.loop-v-test.true (rw c.remove.ensures at c.visit.ensures)
    _ _ c.next_vertex-v.ensures.waiting_after c.next_vertex-v.ensures.value

pub loop-v-smaller : goal.loop-v-smaller
loop-v-smaller c = (turned (goal.at.loop-v-smaller c).After-next_vertex-v).1

pub loop-v-preserved : goal.loop-v-preserved
loop-v-preserved c = (turned (goal.at.loop-v-preserved c).After-next_vertex-v).0
