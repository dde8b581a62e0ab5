-- `connection::connected` meets its contract.
use mathlib.Core.Path.{sym, ◌∙◌, ap}
use lib.Dec.{eqb}
use Rattle.connection.proofs.Reaching.{connected-count}
use Rattle.connection.proofs.connected.Goals as goal

pub returns : goal.returns
returns c =
    let vertices = c.args.network.vertices in
    ap (λ n. eqb n vertices) c.reached_count.ensures ∙ sym (connected-count _ _)
