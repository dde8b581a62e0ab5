-- `forest::Forest::grow` meets its contract.
use native.Mathlib.Omega.{arith}
use Rattle.forest.proofs.Growing.{rank_most, grown-on, progress-on, parent-less, grown-finished}
use Rattle.forest.proofs.Forest.grow.Goals as goal

pub loop-place-smaller-then-ahead-v-lt-END_LIMIT : goal.loop-place-smaller-then-ahead-v-lt-END_LIMIT
loop-place-smaller-then-ahead-v-lt-END_LIMIT c = omega (arith, c.pass-place.ensures.ahead_bound, rank_most c.pass-place.result)

pub loop-place-preserved-then-ahead-v-lt-END_LIMIT : goal.loop-place-preserved-then-ahead-v-lt-END_LIMIT
loop-place-preserved-then-ahead-v-lt-END_LIMIT c = grown-on c.loop-place.invariant c.pass-place.ensures.grown

pub loop-place-smaller : goal.loop-place-smaller
loop-place-smaller c =
    omega (arith, parent-less (progress-on c.loop-place.invariant c.requires.progress) c.loop-place-test.true)

pub loop-place-preserved : goal.loop-place-preserved
loop-place-preserved c =
    let inv = c.loop-place.invariant in
    grown-on inv (grown-finished (progress-on inv c.requires.progress) c.loop-place-test.true c.if-ahead-v-lt-END_LIMIT.false)
