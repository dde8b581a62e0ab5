-- `reasons_text::write_reasons` meets its contract.
-- Assumes nothing.
use mathlib.Core.Path.{refl, ◌∙◌, ap}
use native.Mathlib.Omega.{arith}
use Rattle.base.specs.Answer.{answer}
use Rattle.base.proofs.Answers.{short, fits}
use Rattle.reasons_text.proofs.Texts.{reasons-measured}
use Rattle.reasons_text.proofs.write_reasons.Goals as goal

pub overflow_mul-length : goal.overflow_mul-length
overflow_mul-length c =
    let long = reasons-measured c.args.edges c.args.rules.now c.args.steps.now c.requires c.length_of.ensures in
    omega (arith, long.small)

pub returns-then-text-length : goal.returns-then-text-length
returns-then-text-length c =
    let long = reasons-measured c.args.edges c.args.rules.now c.args.steps.now c.requires c.length_of.ensures in
    short (answer _) c.args.text.now _ refl (omega (arith, long.counted, c.if-text-length.true))

pub put_reasons-requires : goal.put_reasons-requires
put_reasons-requires c =
    let long = reasons-measured c.args.edges c.args.rules.now c.args.steps.now c.requires c.length_of.ensures in
    (c.requires, omega (arith, long.measured, c.if-text-length.false))

pub returns : goal.returns
returns c =
    let long = reasons-measured c.args.edges c.args.rules.now c.args.steps.now c.requires c.length_of.ensures in
    let f = fits (answer _) c.args.text.now _ refl (omega (arith, long.counted, c.if-text-length.false)) in
    (ap answer long.counted ∙ f.0, c.put_reasons.ensures ∙ f.1)
