-- `kept_text::put_kept` meets its contract.
use mathlib.Core.Path.{ap}
use native.Mathlib.Omega.{arith}
use lib.ListN.{length}
use Rattle.frame.specs.Table.{KEPT}
use Rattle.frame.specs.Frames.{lines_of}
use Rattle.base.proofs.Writing.{written_none, written_all}
use Rattle.frame.proofs.Writing.{line-within, line-room, line-more}
use Rattle.list_text.specs.Text.{list_text}
use Rattle.kept_text.specs.Text.{is_kept, kept_edges}
use Rattle.base.proofs.Picks.{pick-start, pick_end}
use Rattle.kept_text.proofs.Texts.{kept-left, kept-passed}
use Rattle.kept_text.proofs.put_kept.Goals as goal
use Rattle.kept_text.proofs.put_kept.Goals.{then-kept-edge, else-kept-edge}

pub loop-edge-init : goal.loop-edge-init
unfolding kept_edges
loop-edge-init c = rw pick-start (written_none _ c.args.text.now c.requires.1)

pub put_line-at-requires : goal.put_line-at-requires
put_line-at-requires c =
    let p = is_kept c.args.kept.now in
    let h = c.loop-edge-test.true in
    let due = kept-left p c.args.edges c.loop-edge.edge c.loop-edge.invariant h c.if-kept-edge.true in
    line-room _ _ _ _ _ KEPT _ due

pub overflow_add-at : goal.overflow_add-at
overflow_add-at c =
    let p = is_kept c.args.kept.now in
    let h = c.loop-edge-test.true in
    let due = kept-left p c.args.edges c.loop-edge.edge c.loop-edge.invariant h c.if-kept-edge.true in
    omega (arith, line-within _ _ _ _ _ KEPT _ due)

pub loop-edge-preserved : goal.loop-edge-preserved
loop-edge-preserved c =
    let p = is_kept c.args.kept.now in
    let n = c.args.edges in
    let e = c.loop-edge.edge in
    let left = c.loop-edge.invariant in
    let h = c.loop-edge-test.true in
    elim c.if-kept-edge.branch [
      | then-kept-edge w ↦
          rw (w.text-is, w.at-is)
          (line-more _ _ _ _ _ KEPT _ (kept-left p n e left h w.if-kept-edge.true) _ _ w.put_line-at.ensures.0
          (rw w.fields.ensures at w.put_line-at.ensures.1))
      | else-kept-edge w ↦ rw (w.text-is, w.at-is) (kept-passed p n e left h w.if-kept-edge.false)
    ]

pub returns : goal.returns
unfolding list_text lines_of
returns c =
    let a = c.args in
    let none = pick_end (is_kept a.kept.now) a.edges c.loop-edge.edge c.loop-edge-test.false in
    written_all _ _ _ _ _ c.loop-edge.invariant (ap (λ es. length (list_text es)) none)
