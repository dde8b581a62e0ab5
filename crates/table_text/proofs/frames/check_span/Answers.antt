-- `table_text::frames::check_span` meets its contract.
use mathlib.Core.Path.{sym, ◌∙◌}
use mathlib.Core.Bool.{and-false}
use native.Mathlib.Omega.{arith}
use mir.Syntax.{w64}
use mir.Val.{SFits}
use mir.Facts.{to_z-of_z}
use borrow.Author.Tests.{lt-ltb, le-ltb}
use Rattle.base.specs.Answer.{refusal_of}
use Rattle.table_text.specs.Frames.{span_refusal}
use Rattle.table_text.proofs.frames.check_span.Goals as goal

pub returns-then-span : goal.returns-then-span
unfolding span_refusal refusal_of
returns-then-span c = rw (le-ltb _ _ c.if-span.true)

pub returns-then-vertices-span : goal.returns-then-vertices-span
unfolding span_refusal refusal_of
returns-then-vertices-span c = rw (lt-ltb _ _ c.if-span.false, le-ltb _ _ c.if-vertices-span.true)

pub returns-then-not-weight_ok : goal.returns-then-not-weight_ok
unfolding span_refusal refusal_of
returns-then-not-weight_ok c =
    rw (
      lt-ltb _ _ c.if-span.false,
      lt-ltb _ _ c.if-vertices-span.false,
      sym c.weight_ok.ensures ∙ c.if-not-weight_ok.true,
    )

pub returns-then-not-above : goal.returns-then-not-above
unfolding span_refusal refusal_of
returns-then-not-above c =
    rw (
      lt-ltb _ _ c.if-span.false,
      lt-ltb _ _ c.if-vertices-span.false,
      sym c.above.ensures ∙ c.if-not-above.true,
      and-false,
    )

pub returns-then-cost_ok : goal.returns-then-cost_ok
unfolding span_refusal refusal_of
returns-then-cost_ok c =
    let small : SFits w64 c.args.span.cost = record { sfits = omega arith } in
    rw (
      lt-ltb _ _ c.if-span.false,
      lt-ltb _ _ c.if-vertices-span.false,
      sym c.weight_ok.ensures ∙ c.if-not-weight_ok.false,
      sym c.above.ensures ∙ c.if-not-above.false,
      sym (rw (to_z-of_z small) at c.cost_ok.ensures) ∙ c.if-cost_ok.true,
    )

pub returns-else-cost_ok : goal.returns-else-cost_ok
unfolding span_refusal refusal_of
returns-else-cost_ok c =
    let small : SFits w64 c.args.span.cost = record { sfits = omega arith } in
    rw (
      lt-ltb _ _ c.if-span.false,
      lt-ltb _ _ c.if-vertices-span.false,
      sym c.weight_ok.ensures ∙ c.if-not-weight_ok.false,
      sym c.above.ensures ∙ c.if-not-above.false,
      sym (rw (to_z-of_z small) at c.cost_ok.ensures) ∙ c.if-cost_ok.false,
    )
