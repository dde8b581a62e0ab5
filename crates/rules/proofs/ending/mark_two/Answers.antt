-- `rules::ending::mark_two` meets its contract.
use mathlib.Core.Bool.{true}
use mathlib.Core.Path.{◌∙◌, ap}
use lib.ListN.{set}
use Rattle.base.specs.Limits.{edge_limit}
use Rattle.rules.proofs.Ends.{two-marks}
use Rattle.rules.proofs.ending.mark_two.Goals as goal

pub returns : goal.returns
returns c =
    let a = c.args in
    ap (λ l. set (set l a.low true) a.high true) c.requires.0
    ∙ two-marks edge_limit a.low a.high c.requires.1 c.requires.2
