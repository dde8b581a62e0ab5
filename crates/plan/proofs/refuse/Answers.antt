-- `plan::refuse` meets its contract.
use native.Mathlib.Omega.{arith}
use lib.Seq.{length-take-le}
use mathlib.Core.Path.{sym}
use Rattle.base.proofs.Answers.{done-fits}
use Rattle.plan.proofs.refuse.Goals as goal

pub slice_bounds-line-end : goal.slice_bounds-line-end
slice_bounds-line-end o c = omega (arith, done-fits _ _ _ c.in-Ok.ensures.0)

pub slice_bounds-write_all-end : goal.slice_bounds-write_all-end
slice_bounds-write_all-end o c =
    sym (length-take-le _ c.write_refusal.new.text (omega (arith, done-fits _ _ _ c.in-Ok.ensures.0)))
