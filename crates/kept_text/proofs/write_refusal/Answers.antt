-- `kept_text::write_refusal` meets its contract.
use mathlib.Core.Path.{refl, sym, ◌∙◌, ap}
use native.Mathlib.Omega.{arith}
use Rattle.base.specs.Answer.{answer}
use Rattle.base.proofs.Answers.{short, fits}
use Rattle.kept_text.specs.Text.{refusal_text}
use Rattle.kept_text.proofs.Texts.{length-refusal}
use Rattle.kept_text.proofs.write_refusal.Goals as goal

pub returns-then-text-length_of : goal.returns-then-text-length_of
returns-then-text-length_of c =
    let long = length-refusal c.args.number in
    short (answer _) c.args.text.now _ refl (omega (arith, long, c.length_of.ensures, c.if-text-length_of.true))

pub returns : goal.returns
unfolding refusal_text
returns c =
    let long = length-refusal c.args.number in
    let f = fits (answer (refusal_text c.args.number)) c.args.text.now _ refl
    (omega (arith, long, c.length_of.ensures, c.if-text-length_of.false)) in (
      ap answer (c.put_line.ensures.0 ∙ sym long) ∙ f.0,
      rw c.fields.ensures at c.put_line.ensures.1 ∙ f.1,
    )
