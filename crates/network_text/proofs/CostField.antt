-- The field of a cost has room for every cost within its limits.
-- Assumes nothing.
use mathlib.Core.Path.{◌≡◌}
use mathlib.Core.Bool.{true}
use Prim.Native.Nat.{◌*◌, ◌^◌, ◌<◌}
use native.Mathlib.Omega.{arith}
use lib.IntN.{ℤ}
use lib.Signed.{mag}
use Rattle.base.specs.Limits.{cost_ok}
use Rattle.base.proofs.Integers.{mag-within}
use Rattle.base.proofs.LimitLaws.{cost-within}
use Rattle.frame.specs.Table.{padded, bytes_of, digits_of}
use Rattle.frame.specs.Kinds.{cost_digits}

pub cost-spelt : (c : ℤ) → cost_ok c ≡ true → 2 * mag c < 16 ^ cost_digits
unfolding cost_digits digits_of bytes_of padded
cost-spelt c e = omega (arith, mag-within c, cost-within c e)
