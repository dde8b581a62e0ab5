-- What the loop of `digits::hexadecimal::digit_values` keeps.
use mathlib.Core.Path.{◌≡◌}
use Rattle.digits.proofs.Values.{values_below}
use Rattle.digits.proofs.hexadecimal.digit_values.Given as goal

abbrev pub invariant-loop-value : goal.invariant-loop-value
invariant-loop-value l = l.values ≡ values_below l.value
