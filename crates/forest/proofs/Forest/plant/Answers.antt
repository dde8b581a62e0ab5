-- `forest::Forest::plant` meets its contract.
use Rattle.forest.proofs.Growing.{grown-on, progress-on, free-place, grown-root, root-placed}
use Rattle.forest.proofs.Forest.plant.Goals as goal

pub enter-requires : goal.enter-requires
enter-requires c =
    let pre = c.requires in
    (pre.v_lt_vertex_limit, free-place pre.progress _ pre.v_lt_vertex_limit c.if-self-v-lt-NO_PLACE.false)

pub grow-requires : goal.grow-requires
grow-requires c =
    let pre = c.requires in
    let new = c.if-self-v-lt-NO_PLACE.false in
    record {
      progress = rw c.enter.ensures (progress-on (grown-root pre.progress _ pre.v_lt_vertex_limit new) pre.progress);
      root_lt_no_place = free-place pre.progress _ pre.v_lt_vertex_limit new;
    }

pub returns : goal.returns
returns c =
    let pre = c.requires in
    let new = c.if-self-v-lt-NO_PLACE.false in
    let on = rw c.enter.ensures at c.grow.ensures in
    record {
      grown = grown-on (grown-root pre.progress _ pre.v_lt_vertex_limit new) on;
      v_bound = on.keeps _ (root-placed pre.progress _ pre.v_lt_vertex_limit new);
    }
