-- `wire` meets its contract: the arcs passed have their ports.
use mathlib.Core.Path.{◌≡◌, refl, ◌∙◌, ap}
use native.Mathlib.Numerals.{add-one}
use native.Mathlib.Omega.{arith}
use Rattle.flow.specs.Arcs.{arc_limit}
use Rattle.flow.specs.Ports.{plugged, wired}
use Rattle.flow.proofs.arcs.wire.Goals as goal

pub loop-arc-init : goal.loop-arc-init
unfolding wired
loop-arc-init c = refl

pub loop-arc-preserved : goal.loop-arc-preserved
unfolding wired
loop-arc-preserved c =
    rw add-one (c.plug.ensures ∙ ap (λ w. plugged c.unwrap-ends.result.now w c.loop-arc.arc) c.loop-arc.invariant)

pub returns : goal.returns
returns c =
    let same = (rw c.unwrap-ends.ensures at c.as_array.ensures.cases).same in
    let all : c.loop-arc.arc ≡ arc_limit = omega arith in
    rw (same, all) at (ap (λ w. w.ports) c.loop-arc.invariant)
