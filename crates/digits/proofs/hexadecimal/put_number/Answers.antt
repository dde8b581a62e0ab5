-- `digits::hexadecimal::put_number` meets its contract. The loop's invariant: what is left of the number,
-- spelt in front of the digits that are written, is the whole number spelt.
-- Assumes nothing.
use mathlib.Core.Path.{sym, ◌∙◌}
use borrow.Author.Rules.{rules}
use Rattle.digits.proofs.Spelling.{spell-step, spell-end}
use Rattle.digits.proofs.hexadecimal.put_number.Goals as goal

pub loop-i-preserved : goal.loop-i-preserved
loop-i-preserved c =
    rw c.digit_of.ensures (spell-step _ _ _ (search rules) (search rules) ∙ c.loop-i.invariant)

pub returns : goal.returns
returns c = sym (spell-end _ _ _ (search rules)) ∙ c.loop-i.invariant
