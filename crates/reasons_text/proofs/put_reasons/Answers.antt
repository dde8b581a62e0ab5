-- `reasons_text::put_reasons` meets its contract.
-- Assumes nothing.
use mathlib.Core.Path.{◌≡◌}
use native.Mathlib.Omega.{arith}
use Rattle.frame.specs.Table.{REASON}
use Rattle.base.proofs.Writing.{written_all}
use Rattle.frame.proofs.Writing.{line-within, line-room, line-more}
use Rattle.reasons_text.proofs.Texts.{reasons-left, reason-left, reasons-end}
use Rattle.reasons_text.proofs.put_reasons.Goals as goal

pub loop-edge-init : goal.loop-edge-init
loop-edge-init c =
    let a = c.args in reasons-left a.edges a.rules.now a.steps.now a.text.now c.requires.1

pub put_reason-at-requires : goal.put_reason-at-requires
put_reason-at-requires c =
    let a = c.args in
    let left = c.loop-edge.invariant in
    let due = reason-left a.edges a.rules.now a.steps.now c.loop-edge.edge left c.loop-edge-test.true in
    line-room _ _ _ _ _ REASON _ due

pub overflow_add-at : goal.overflow_add-at
overflow_add-at c =
    let a = c.args in
    let left = c.loop-edge.invariant in
    let due = reason-left a.edges a.rules.now a.steps.now c.loop-edge.edge left c.loop-edge-test.true in
    omega (arith, line-within _ _ _ _ _ REASON _ due)

pub loop-edge-preserved : goal.loop-edge-preserved
loop-edge-preserved c =
    let a = c.args in
    let left = c.loop-edge.invariant in
    let due = reason-left a.edges a.rules.now a.steps.now c.loop-edge.edge left c.loop-edge-test.true in
    let e = c.put_reason-at.ensures in
    line-more _ _ _ _ _ REASON _ due _ _ e.0 e.1

pub returns : goal.returns
returns c =
    let a = c.args in
    let all : c.loop-edge.edge ≡ a.edges = omega arith in
    (written_all _ _ _ _ _ (rw all at c.loop-edge.invariant) (reasons-end a.edges a.rules.now a.steps.now)).1
