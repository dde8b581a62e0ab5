-- `base::column::copy` meets its contract.
use mathlib.Core.Path.{◌≡◌}
use native.Mathlib.Omega.{arith}
use lib.ListN.{length, take, length-take}
use Rattle.base.specs.Answer.{over}
use Rattle.base.proofs.column.copy.Goals as goal

pub returns : goal.returns
unfolding over
returns g c =
    let n : length (take c.args.count c.args.from.now) ≡ c.args.count = simp length-take (omega (arith, c.requires.0)) in
    rw (n, c.copy_from_slice.ensures.after)
