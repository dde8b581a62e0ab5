-- `audit::service::audit_list` meets its contract.
use mathlib.Core.Path.{◌≡◌}
use borrow.Author.Rules.{rules}
use Rattle.std.proofs.Common.{Err, Ok}
use Rattle.base.specs.Answer.{answer}
use Rattle.loading.specs.ListLoading.{load_list}
use Rattle.loading.proofs.ListReading.{list-answered, list-refusal, list-known}
use Rattle.connection.proofs.Reaching.{formed-searchable}
use Rattle.audit.proofs.Answering.{text-refused, text-answered}
use Rattle.audit.proofs.service.audit_list.Goals as goal
use Rattle.audit.proofs.service.audit_list.Goals.{In_ok-loaded}

-- the network and the marks that the texts give
texts : (c : In_ok-loaded) → let a = c.args in
    load_list a.network.now a.list.now ≡ answer (c.in_ok-loaded.loaded.network, c.in_ok-loaded.loaded.listed)
texts c =
    let answered : c.load_list-answer.result ≡ Ok c.in_ok-loaded.loaded = search rules in
    list-answered _ (rw answered at c.load_list-answer.ensures)

pub returns-in_err-loaded : goal.returns-in_err-loaded
returns-in_err-loaded c =
    let a = c.args in
    let answered : c.load_list-answer.result ≡ Err c.in_err-loaded.field-0.0 = search rules in
    let e : c.from_residual.result ≡ Err c.in_err-loaded.field-0.0 = search rules in
    rw e (text-refused a.network.now a.list.now (list-refusal _ (rw answered at c.load_list-answer.ensures)))

pub audit-requires : goal.audit-requires
audit-requires c =
    let a = c.args in
    let t = texts (goal.at.audit-requires c).In_ok-loaded in
    formed-searchable _ (list-known a.network.now a.list.now _ _ t).fresh.formed

pub returns : goal.returns
returns c =
    let a = c.args in
    text-answered a.network.now a.list.now _ _ c.audit.result (texts (goal.at.returns c).In_ok-loaded) c.audit.ensures
