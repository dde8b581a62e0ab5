-- `costs::all_but_reserved` meets its contract.
use mathlib.Core.Path.{◌∙◌, ap}
use native.Mathlib.Omega.{arith}
use mathlib.Core.Bool.{true, false}
use lib.ListN.{set, replicate}
use lib.IntN.{nat_abs}
use Rattle.base.specs.Limits.{edge_limit}
use Rattle.base.proofs.Integers.{read_back}
use Rattle.costs.proofs.Totals.{kept_small, all-marks}
use Rattle.costs.proofs.all_but_reserved.Goals as goal

pub returns : goal.returns
returns c =
    let g = c.args.network in
    let e = c.kept_cost.ensures in
    read_back c.kept_cost.result
    (omega (arith, ap nat_abs e, kept_small g c.requires.0 (set (replicate edge_limit true) g.reserved false))) ∙ e
    ∙ all-marks edge_limit g c.requires.1 c.requires.2
