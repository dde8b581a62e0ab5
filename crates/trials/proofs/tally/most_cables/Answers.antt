-- `trials::tally::most_cables` meets its contract.
use mathlib.Core.Path.{sym}
use native.Mathlib.Omega.{arith}
use lib.Seq.{length-take-le}
use Rattle.base.proofs.Answers.{done-fits}
use Rattle.trials.proofs.tally.most_cables.Goals as goal

pub slice_bounds-text-end : goal.slice_bounds-text-end
slice_bounds-text-end o c = omega (arith, done-fits _ _ _ c.in-Ok.ensures.0)

pub slice_bounds-tallied-end : goal.slice_bounds-tallied-end
slice_bounds-tallied-end o c =
    sym (length-take-le _ c.write_network.new.text (omega (arith, done-fits _ _ _ c.in-Ok.ensures.0)))
