-- `forest_trials::tests::pentagram` meets its contract.
use mathlib.Core.Bool.{true}
use native.Mathlib.Omega.{arith}
use lib.ListN.{length-replicate}
use Rattle.base.specs.Limits.{vertex_limit}
use Rattle.forest_trials.proofs.Ends.{ends-zeros, ends-set, end-below}
use Rattle.forest_trials.proofs.tests.pentagram.Goals as goal

pub loop-e-init : goal.loop-e-init
loop-e-init c = (ends-zeros, ends-zeros)

pub loop-e-preserved : goal.loop-e-preserved
loop-e-preserved c =
    let ends = c.loop-e.invariant in
    (ends-set ends.0 _ _ (omega arith), ends-set ends.1 _ _ (omega arith))

pub returns : goal.returns
returns c =
    let ends = c.loop-e.invariant in
    record {
      low_room = omega (arith, ends.0.long);
      high_room = omega (arith, ends.1.long);
      present_room = omega (arith, length-replicate vertex_limit true);
      some = omega arith;
      low_below = end-below ends.0;
      high_below = end-below ends.1;
    }
