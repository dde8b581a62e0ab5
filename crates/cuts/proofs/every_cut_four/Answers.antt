-- `cuts::every_cut_four` meets its contract: the present vertices passed are four apart from those before them.
use mathlib.Core.Path.{refl, sym, ◌∙◌}
use native.Mathlib.Omega.{arith}
use Rattle.base.proofs.Bools.{never}
use Rattle.cuts.proofs.Anchored.{anchor-before, tested-none, tested-absent, tested-on, tested-all, tested-fails}
use Rattle.cuts.proofs.Anchored.{gathered_none, gathered-absent, gathered-on, gathered-laid}
use Rattle.cuts.proofs.every_cut_four.Goals as goal
use Rattle.cuts.proofs.every_cut_four.Goals.{then-network-vertex+else-not-four, else-network-vertex}

pub loop-vertex-init : goal.loop-vertex-init
loop-vertex-init c = (tested-none, gathered_none c.lay-ends.ensures)

pub returns-then-not-four : goal.returns-then-not-four
returns-then-not-four c =
    let before = anchor-before c.first_present-anchor.ensures (omega arith) c.loop-vertex-test.true in
    let laid = c.lay-ends.ensures in
    let gathered = c.loop-vertex.invariant.1 in
    let answer = c.four_paths-four.ensures _ (gathered-laid gathered laid refl) in
    tested-fails c.requires c.first_present-anchor.ensures laid gathered c.if-network-vertex.true before
    (λ apart. never (sym c.if-not-four.true ∙ answer.1 apart))

pub loop-vertex-preserved : goal.loop-vertex-preserved
loop-vertex-preserved c =
    let inv = c.loop-vertex.invariant in
    let before = anchor-before c.first_present-anchor.ensures (omega arith) c.loop-vertex-test.true in
    elim c.if-network-vertex.branch [
      | then-network-vertex+else-not-four w ↦ rw w.ends-is (
        tested-on inv.0 inv.1 before (λ g laid. (w.four_paths-four.ensures g laid).0 w.if-not-four.false),
        gathered-on inv.1 (omega arith) w.if-network-vertex.true w.gather.ensures,
      )
      | else-network-vertex w ↦ rw w.ends-is (tested-absent inv.0 w.if-network-vertex.false, gathered-absent inv.1)
    ]

pub returns : goal.returns
returns c =
    tested-all c.requires c.first_present-anchor.ensures c.lay-ends.ensures
    c.loop-vertex-test.false c.loop-vertex.invariant.0
