-- `loading::pass::pass_behind` meets its contract.
use native.Mathlib.Omega.{arith}
use Rattle.base.specs.Answer.{refusal_of}
use Rattle.network_frames.proofs.Passed.{EdgePassed, edge-fine}
use Rattle.loading.proofs.Filling.{cost-kept, filling-none, filling-room, filling-refused, filling-next}
use Rattle.loading.proofs.Filling.{filling-left, filling-end}
use Rattle.loading.proofs.pass.pass_behind.Goals as goal
use Rattle.loading.proofs.pass.pass_behind.Goals.{In-Ok}

-- what the edge says that was read
fine : (c : In-Ok) → EdgePassed c.args.head.vertices c.loop-i.i c.in-Ok.found.0
fine c = (edge-fine _ _ _ _ c.in-Ok.ensures).passed

pub loop-i-init : goal.loop-i-init
loop-i-init c = filling-none _ _ c.bare-network.ensures

pub returns-in-Err : goal.returns-in-Err
unfolding refusal_of
returns-in-Err c = filling-refused c.loop-i.invariant c.loop-i-test.true c.in-Err.ensures

pub overflow_cast-low : goal.overflow_cast-low
overflow_cast-low c =
    let p = fine (goal.at.overflow_cast-low c).In-Ok in record { fits = omega (arith, c.requires) }

pub overflow_cast-high : goal.overflow_cast-high
overflow_cast-high c =
    let p = fine (goal.at.overflow_cast-high c).In-Ok in record { fits = omega (arith, c.requires) }

pub tally_edge-requires : goal.tally_edge-requires
tally_edge-requires c =
    let few = c.requires in
    λ v. omega (arith, filling-room c.loop-i.invariant v)

pub loop-i-preserved : goal.loop-i-preserved
loop-i-preserved c =
    let p = fine (goal.at.loop-i-preserved c).In-Ok in
    rw (cost-kept _ p.limited)
    (filling-next c.loop-i.invariant c.loop-i-test.true c.in-Ok.ensures c.tally_edge.ensures p.rising c.requires)

pub returns-then-place-text : goal.returns-then-place-text
unfolding refusal_of
returns-then-place-text c = filling-left c.loop-i.invariant c.loop-i-test.false c.if-place-text.true

pub returns-else-place-text : goal.returns-else-place-text
unfolding refusal_of
returns-else-place-text c = filling-end c.loop-i.invariant c.loop-i-test.false c.if-place-text.false
