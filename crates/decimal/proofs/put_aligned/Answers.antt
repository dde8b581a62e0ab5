-- `decimal::put_aligned` meets its contract: digits that are written over the last spaces stand behind the others.
use mathlib.Core.Path.{◌≡◌, ◌∙◌, ap}
use Prim.Native.Nat.{◌-◌, ◌<◌}
use native.Mathlib.Omega.{arith}
use lib.IntN.{nat_abs}
use lib.ListN.{length, set}
use mir.Facts.{to_z-of_z}
use Rattle.decimal.specs.BaseTen.{minus, digits, aligned}
use Rattle.decimal.proofs.Printing.{digits-fit, written-aligned}
use Rattle.decimal.proofs.put_aligned.Goals as goal

pub put_digits-first-requires : goal.put_digits-first-requires
put_digits-first-requires c =
    let size = c.unsigned_abs.ensures.value ∙ ap nat_abs (to_z-of_z c.ranges.number) in
    omega (arith, ap (λ v. length (digits v)) size, digits-fit c.args.number _ c.requires, c.put_spaces.auto.out)

-- a minus has a place, and completes the text there
minus-aligned : (c : goal.Then-number-lt0)
    → let first = c.put_digits-first.result in let w = length c.args.out.now in
    (0 < first) × (set c.put_digits-first.new.out (first - 1) minus ≡ aligned w c.args.number)
minus-aligned c =
    (written-aligned _ c.requires (to_z-of_z c.ranges.number) c.unsigned_abs.ensures.value c.put_spaces.ensures _ c.put_digits-first.ensures).0
    c.if-number-lt0.true

pub overflow_sub-out : goal.overflow_sub-out
overflow_sub-out c = omega (arith, (minus-aligned c).0)

pub bounds-out-first : goal.bounds-out-first
bounds-out-first c = omega (arith, (minus-aligned c).0, c.put_digits-first.ensures.0, c.put_digits-first.auto.out)

pub returns-then-number-lt0 : goal.returns-then-number-lt0
returns-then-number-lt0 c = (minus-aligned c).1

pub returns-else-number-lt0 : goal.returns-else-number-lt0
returns-else-number-lt0 c =
    (written-aligned _ c.requires (to_z-of_z c.ranges.number) c.unsigned_abs.ensures.value c.put_spaces.ensures _ c.put_digits-first.ensures).1
    c.if-number-lt0.false
