-- What the loops of `decimal::put_digits` keep, and that they end.
use Rattle.decimal.proofs.Digits.{Written}
use Rattle.decimal.proofs.put_digits.Given as goal

abbrev pub invariant-loop-left : goal.invariant-loop-left
invariant-loop-left l = Written l.number l.initial.out l.out l.at l.left

abbrev pub decreases-loop-left : goal.decreases-loop-left
decreases-loop-left l = l.left
