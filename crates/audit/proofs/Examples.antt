-- The audits of document 01's networks, which it does not mark, as document 02 counts.
use mathlib.Core.Path.{◌≡◌, refl}
use mathlib.Core.Bool.{Bool, true, ◌&&◌, beq}
use lib.Dec.{eqb}
use Rattle.base.specs.Fold.{fold, only, among, tabulate}
use Rattle.graph.specs.Network.{touches, far}
use Rattle.graph.specs.Chain.{marks}
use Rattle.graph.specs.Districts.{every}
use Rattle.graph.proofs.Examples.{network_of}
use Rattle.connection.specs.Connection.{leads, grown, within, reached, joined, connected, reached_count}
use Rattle.bridges.specs.Bridge.{bridge, bridge_count}
use Rattle.audit.specs.Audits.{Audit, audits}

unfoldable pub audit_holds : Audit → Bool
audit_holds row =
    let g = network_of row.0 in
    let K = marks g row.1 in
    beq (connected g K) row.2 && eqb (reached_count g K 0) row.3 && eqb (bridge_count g K) row.4

pub audited : every audit_holds audits ≡ true
unfolding every network_of audit_holds fold only among tabulate touches far marks leads grown within reached joined
    connected reached_count bridge bridge_count
audited = refl
