-- `digits::hexadecimal::digit_of` meets its contract.
-- Assumes nothing.
use borrow.Author.Tests.{le-ltb, lt-ltb}
use Rattle.digits.specs.Hexadecimal.{digit_of}
use Rattle.digits.proofs.hexadecimal.digit_of.Goals as goal

pub returns-then-value-lt10 : goal.returns-then-value-lt10
unfolding digit_of
returns-then-value-lt10 c = simp (lt-ltb _ _ c.if-value-lt10.true)

pub returns-else-value-lt10 : goal.returns-else-value-lt10
unfolding digit_of
returns-else-value-lt10 c = simp (le-ltb _ _ c.if-value-lt10.false)
