-- `list_text::list::put_list` meets its contract.
use mathlib.Core.Path.{ap}
use native.Mathlib.Omega.{arith}
use lib.ListN.{length}
use lib.Seq.{take_all}
use Rattle.frame.specs.Table.{KEPT}
use Rattle.base.proofs.Writing.{written_none, written_all}
use Rattle.frame.proofs.Writing.{line-within, line-room, line-more}
use Rattle.list_text.specs.Text.{list_text}
use Rattle.list_text.proofs.Texts.{edge-left, text-end}
use Rattle.list_text.proofs.list.put_list.Goals as goal

-- nothing is written yet, and what the loop goes over, `edges` or a slice of it by that name, is all the edges
pub loop-edge-init : goal.loop-edge-init
loop-edge-init c =
    let none = written_none (list_text c.args.edges.now) c.args.text.now c.requires in
    grind (arith, take_all, none)

pub put_line-at-requires : goal.put_line-at-requires
put_line-at-requires c =
    let due = edge-left _ c.loop-edge.edge-index c.loop-edge.invariant c.loop-edge-test.true in
    line-room _ _ _ _ _ KEPT _ due

pub overflow_add-at : goal.overflow_add-at
overflow_add-at c =
    let due = edge-left _ c.loop-edge.edge-index c.loop-edge.invariant c.loop-edge-test.true in
    omega (arith, line-within _ _ _ _ _ KEPT _ due)

pub loop-edge-preserved : goal.loop-edge-preserved
loop-edge-preserved c =
    let due = edge-left _ c.loop-edge.edge-index c.loop-edge.invariant c.loop-edge-test.true in
    line-more _ _ _ _ _ KEPT _ due _ _ c.put_line-at.ensures.0 (rw c.fields.ensures at c.put_line-at.ensures.1)

pub returns : goal.returns
returns c =
    let none = text-end _ c.loop-edge.edge-index c.loop-edge-test.false in
    written_all _ _ _ _ _ c.loop-edge.invariant (ap length none)
