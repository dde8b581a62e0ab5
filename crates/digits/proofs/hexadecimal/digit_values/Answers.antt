-- `digits::hexadecimal::digit_values` meets its contract. The loop's invariant: the digits below `value` are filled in.
-- Assumes nothing.
use mathlib.Core.Path.{◌∙◌}
use borrow.Author.Rules.{rules}
use Rattle.digits.proofs.Values.{values-none, values-more, values-all}
use Rattle.digits.proofs.hexadecimal.digit_values.Goals as goal

pub loop-value-init : goal.loop-value-init
loop-value-init c = values-none

pub loop-value-preserved : goal.loop-value-preserved
loop-value-preserved c =
    let l = c.loop-value in
    rw (l.invariant, c.digit_of.ensures) (values-more l.value (search rules))

pub returns : goal.returns
returns c =
    let l = c.loop-value in
    l.invariant ∙ values-all l.value (search rules) (search rules)
