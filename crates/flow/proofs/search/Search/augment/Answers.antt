-- `flow::search::Search::augment` meets its contract: the unit goes back along the trail, from number to lower number,
-- until it comes to a source.
use native.Mathlib.Omega.{arith}
use Rattle.flow.proofs.Pushing.{partway-none, partway-on, partway-sent, link-back, carries-back, number-most}
use Rattle.flow.proofs.search.Search.augment.Goals as goal

pub loop-number-init : goal.loop-number-init
loop-number-init c = partway-none c.requires

pub bounds-self-number : goal.bounds-self-number
bounds-self-number c = omega (arith, number-most c.requires c.loop-number.invariant)

pub push-requires : goal.push-requires
push-requires c =
    let way = c.loop-number.invariant in
    let more = c.loop-number-test.true in
    record {
      arc_lt_arc_limit = (link-back c.requires way more).arc;
      bound = carries-back c.requires way more;
      balanced = way.balanced;
    }

pub loop-number-preserved : goal.loop-number-preserved
loop-number-preserved c =
    rw c.push.ensures
    (partway-on c.requires c.loop-number.invariant c.loop-number-test.true)

pub returns : goal.returns
returns c = partway-sent c.requires c.loop-number.invariant c.loop-number-test.false
