-- `forest::Forest::pass` meets its contract.
use native.Mathlib.Omega.{arith}
use Rattle.forest.proofs.Growing.{turn-less, grown-known, new-place, grown-new}
use Rattle.forest.proofs.Forest.pass.Goals as goal

pub returns-then-self-met-lt-NO_PLACE : goal.returns-then-self-met-lt-NO_PLACE
returns-then-self-met-lt-NO_PLACE c =
    let pre = c.requires in
    let (place, some) = pre.place_lt_no_place in
    record {
      grown = grown-known pre.progress place some c.far_vertex-met.ensures (omega arith) c.if-self-met-lt-NO_PLACE.true;
      ahead_bound = turn-less pre.progress place some;
    }

pub enter-requires : goal.enter-requires
enter-requires c =
    let pre = c.requires in
    let (place, some) = pre.place_lt_no_place in
    (omega arith, new-place pre.progress place some c.far_vertex-met.ensures (omega arith) c.if-self-met-lt-NO_PLACE.false)

pub returns : goal.returns
returns c =
    let pre = c.requires in
    let (place, some) = pre.place_lt_no_place in
    record {
      grown = rw c.enter.ensures (grown-new pre.progress place some c.far_vertex-met.ensures (omega arith) c.if-self-met-lt-NO_PLACE.false);
      ahead_bound = turn-less pre.progress place some;
    }
