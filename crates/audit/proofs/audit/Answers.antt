-- `audit::audit` meets its contract.
use mathlib.Core.Path.{◌≡◌, refl, sym, ◌∙◌, ap}
use lib.Dec.{eqb}
use borrow.Author.Rules.{rules}
use Rattle.connection.specs.Connection.{reached_count}
use Rattle.connection.proofs.Reaching.{connected-count}
use Rattle.audit.proofs.Answering.{audited-by}
use Rattle.audit.proofs.audit.Goals as goal

pub returns : goal.returns
returns c =
    let reached : c.count_reached-reached.result ≡ reached_count c.args.network c.args.listed 0 =
    c.count_reached-reached.ensures c.args.network c.requires refl refl refl (search rules) c.requires.some in
    let whole = ap (λ n. eqb n c.args.network.vertices) reached ∙ sym (connected-count _ _) in
    audited-by _ _ whole reached c.bridge_count-bridges.ensures
