-- `digits::sign::unsigned_of` meets its contract.
-- Assumes nothing.
use mathlib.Core.Path.{◌∙◌, ap}
use native.Mathlib.Omega.{arith}
use lib.IntN.{nat_abs}
use Rattle.digits.proofs.Signs.{positive-is, positive, below-fits, below-is, negative, cast-pos}
use Rattle.digits.proofs.sign.unsigned_of.Goals as goal

pub overflow_sub-below : goal.overflow_sub-below
overflow_sub-below c = below-fits c.args.signed c.ranges.signed c.if-signed-lt0.true

pub overflow_cast-below : goal.overflow_cast-below
overflow_cast-below c =
    cast-pos _ _ (below-is c.args.signed c.ranges.signed c.if-signed-lt0.true)
    (omega (arith, c.ranges.signed.sfits))

pub overflow_sub-result-then-signed-lt0 : goal.overflow_sub-result-then-signed-lt0
overflow_sub-result-then-signed-lt0 c = omega (arith, ap nat_abs (below-is c.args.signed c.ranges.signed c.if-signed-lt0.true), c.requires.2)

pub overflow_cast-result : goal.overflow_cast-result
overflow_cast-result c =
    cast-pos _ _ (positive-is c.args.signed c.ranges.signed c.if-signed-lt0.false)
    (omega (arith, c.ranges.signed.sfits))

pub returns-then-signed-lt0 : goal.returns-then-signed-lt0
returns-then-signed-lt0 c =
    let e = c.if-signed-lt0.true in
    omega (
      arith,
      ap nat_abs (below-is c.args.signed c.ranges.signed e),
      negative c.args.signed c.ranges.signed e c.args.digits,
      c.requires.2,
    )

pub returns-else-signed-lt0 : goal.returns-else-signed-lt0
returns-else-signed-lt0 c =
    let e = c.if-signed-lt0.false in
    ap nat_abs (positive-is c.args.signed c.ranges.signed e)
    ∙ positive c.args.signed c.ranges.signed e c.args.digits
