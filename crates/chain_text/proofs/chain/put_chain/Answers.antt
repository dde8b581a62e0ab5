-- `chain_text::chain::put_chain` meets its contract.
use mathlib.Core.Path.{refl, ◌∙◌, ap}
use native.Mathlib.Omega.{arith}
use lib.ListN.{length}
use Rattle.base.proofs.Parts.{length_over}
use Rattle.base.proofs.Writing.{written_none, written_all}
use Rattle.frame.specs.Table.{STEP, DROPPED}
use Rattle.frame.proofs.Writing.{line-within, line-room, line-more}
use Rattle.chain_text.proofs.Columns.{step_left, ending-left}
use Rattle.chain_text.proofs.chain.put_chain.Goals as goal

pub loop-i-init : goal.loop-i-init
loop-i-init c =
    let r = c.requires in
    record {
      even = record { v = refl; x = r.0; y = r.1; z = r.2; cost = r.3 };
      left = written_none _ c.args.text.now r.4;
    }

pub put_line-at-requires : goal.put_line-at-requires
put_line-at-requires c =
    let i = c.loop-i.invariant in
    line-room _ _ _ _ _ STEP _ (step_left _ i.even _ _ i.left c.loop-i-test.true c.step_at-step.ensures)

pub overflow_add-at : goal.overflow_add-at
overflow_add-at c =
    let i = c.loop-i.invariant in
    let due = line-within _ _ _ _ _ STEP _ (step_left _ i.even _ _ i.left c.loop-i-test.true c.step_at-step.ensures) in
    omega (arith, due, c.well_formed)

pub loop-i-preserved : goal.loop-i-preserved
loop-i-preserved c =
    let i = c.loop-i.invariant in
    record {
      even = i.even;
      left =
          line-more _ _ _ _ _ STEP _ (step_left _ i.even _ _ i.left c.loop-i-test.true c.step_at-step.ensures) _ _
          c.put_line-at.ensures.0 (rw c.fields.ensures at c.put_line-at.ensures.1);
    }

pub put_line-requires : goal.put_line-requires
put_line-requires c =
    let i = c.loop-i.invariant in
    line-room _ _ _ _ _ DROPPED _ (ending-left _ i.even _ _ i.left c.loop-i-test.false)

pub overflow_add-result : goal.overflow_add-result
overflow_add-result c =
    let i = c.loop-i.invariant in
    let due = line-within _ _ _ _ _ DROPPED _ (ending-left _ i.even _ _ i.left c.loop-i-test.false) in
    omega (arith, due, c.well_formed)

pub returns : goal.returns
returns c =
    let i = c.loop-i.invariant in
    written_all _ _ _ _ _
    (line-more _ _ _ _ _ DROPPED _ (ending-left _ i.even _ _ i.left c.loop-i-test.false) _ _
    c.put_line.ensures.0 (rw c.fields-2.ensures at c.put_line.ensures.1))
    refl

pub shape_of-text : goal.shape_of-text
shape_of-text c =
    let i = c.loop-i.invariant in
    ap length ((written_all _ _ _ _ _
    (line-more _ _ _ _ _ DROPPED _ (ending-left _ i.even _ _ i.left c.loop-i-test.false) _ _
    c.put_line.ensures.0 (rw c.fields-2.ensures at c.put_line.ensures.1))
    refl)).1 ∙ length_over _ _ c.requires.4
