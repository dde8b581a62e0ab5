-- `rules::others::other_than` meets its contract.
use borrow.Author.Tests.{eq-eqb, ne_eqb}
use Rattle.rules.proofs.others.other_than.Goals as goal

-- src/others.rt:34:1
pub returns-then-low-y : goal.returns-then-low-y
returns-then-low-y c = rw (eq-eqb _ _ c.if-low-y.true)

-- src/others.rt:34:1
pub returns-else-low-y : goal.returns-else-low-y
returns-else-low-y c = rw (ne_eqb _ _ c.if-low-y.false)
