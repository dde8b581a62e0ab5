-- `decimal::put_digits` meets its contract. The loop's invariant is `Written`.
use native.Mathlib.Omega.{arith}
use borrow.Author.Rules.{rules}
use Rattle.decimal.proofs.Digits.{any-digit, written_none, another-place, written-more, written_all}
use Rattle.decimal.proofs.put_digits.Goals as goal

pub overflow_sub-at : goal.overflow_sub-at
overflow_sub-at c = omega (arith, c.requires, any-digit c.args.number)

pub loop-left-init : goal.loop-left-init
loop-left-init c = written_none _ _ (omega (arith, c.requires, any-digit c.args.number))

pub overflow_sub-at-in-loop-left : goal.overflow_sub-at-in-loop-left
overflow_sub-at-in-loop-left c = another-place c.loop-left.invariant c.requires (search rules)

pub loop-left-preserved : goal.loop-left-preserved
loop-left-preserved c = written-more c.loop-left.invariant (search rules) (overflow_sub-at-in-loop-left c)

pub returns : goal.returns
returns c = written_all c.loop-left.invariant (search rules)
