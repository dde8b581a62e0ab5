-- `rules::others::others_than` meets its contract.
use borrow.Author.Tests.{eq-eqb, ne_eqb}
use Rattle.rules.proofs.others.others_than.Goals as goal

pub returns-then-x-partners : goal.returns-then-x-partners
returns-then-x-partners c = rw (eq-eqb _ _ c.if-x-partners.true)

pub returns-then-x-partners-2 : goal.returns-then-x-partners-2
returns-then-x-partners-2 c = rw (ne_eqb _ _ c.if-x-partners.false, eq-eqb _ _ c.if-x-partners-2.true)

pub returns-then-x-partners-3 : goal.returns-then-x-partners-3
returns-then-x-partners-3 c = rw (ne_eqb _ _ c.if-x-partners.false, ne_eqb _ _ c.if-x-partners-2.false, eq-eqb _ _ c.if-x-partners-3.true)

pub returns : goal.returns
returns c = rw (ne_eqb _ _ c.if-x-partners.false, ne_eqb _ _ c.if-x-partners-2.false, ne_eqb _ _ c.if-x-partners-3.false)
