-- `list_text::list::check_edges` meets its contract.
use mathlib.Core.Path.{sym, ◌∙◌, ap}
use mathlib.Core.List.{map}
use Rattle.base.specs.Answer.{refusal_of}
use Rattle.base.proofs.Filling.{take_next}
use Rattle.base.proofs.LimitLaws.{vertices-within}
use Rattle.frame.specs.Frames.{listed}
use Rattle.list_text.specs.Text.{frame_of}
use Rattle.list_text.proofs.Taken.{out-of-limits, taken_none, taken-unlisted, taken_next}
use Rattle.list_text.proofs.Taken.{taken-all, tested, listed_next, listed-end}
use Rattle.list_text.proofs.list.check_edges.Goals as goal

pub returns-then-not-vertices_ok : goal.returns-then-not-vertices_ok
unfolding refusal_of
returns-then-not-vertices_ok c =
    ap refusal_of (out-of-limits _ _ (sym c.vertices_ok.ensures ∙ c.if-not-vertices_ok.true))

pub loop-number-init : goal.loop-number-init
loop-number-init c =
    let h = sym c.vertices_ok.ensures ∙ c.if-not-vertices_ok.false in
    ((vertices-within _ h).1, taken_none _ (listed (map frame_of c.args.edges.now)) h)

pub returns-then-not-may_follow : goal.returns-then-not-may_follow
unfolding refusal_of
returns-then-not-may_follow c =
    ap refusal_of
    (taken-unlisted _ _ _ _ _ _ c.loop-number.invariant.1 _ _
    (listed_next c.args.edges.now c.loop-number.number-index c.loop-number-test.true)
    (sym c.may_follow.ensures ∙ c.if-not-may_follow.true))

pub loop-number-preserved : goal.loop-number-preserved
loop-number-preserved c =
    let es = c.args.edges.now in
    let i = c.loop-number.number-index in
    let h = c.loop-number-test.true in (
      c.loop-number.invariant.0,
      rw (take_next es i 0)
          (taken_next _ _ _ _ _ _ c.loop-number.invariant.1 _ _ (listed_next es i h)
          (tested c.loop-number.invariant.1 _ _ c.may_follow.ensures c.if-not-may_follow.false)),
    )

pub returns : goal.returns
unfolding refusal_of
returns c =
    ap refusal_of
    (taken-all _ _ _ _ _ _ c.loop-number.invariant.1
    (listed-end c.args.edges.now c.loop-number.number-index c.loop-number-test.false))
