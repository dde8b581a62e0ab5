-- `kept_text::put_costs` meets its contract.
use mathlib.Core.Path.{sym, ◌∙◌}
use native.Mathlib.Omega.{arith}
use mir.Facts.{to_z-of_z}
use Rattle.kept_text.specs.Text.{costs_text}
use Rattle.kept_text.proofs.Texts.{length-costs}
use Rattle.kept_text.proofs.put_costs.Goals as goal

pub put_line-requires : goal.put_line-requires
put_line-requires c = omega (arith, c.requires, length-costs c.args.kept c.args.unreserved)

pub returns : goal.returns
unfolding costs_text
returns c =
    let e = simp (c.fields.ensures, to_z-of_z c.ranges.kept, to_z-of_z c.ranges.unreserved)
    at c.put_line.ensures.1 in
    (c.put_line.ensures.0 ∙ sym (length-costs c.args.kept c.args.unreserved), e)
