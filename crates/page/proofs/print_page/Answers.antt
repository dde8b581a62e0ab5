-- `page::print_page` meets its contract.
use mathlib.Core.Path.{◌≡◌, sym, ◌∙◌, ap}
use native.Mathlib.Omega.{arith}
use borrow.Author.Rules.{rules}
use Rattle.std.proofs.Common.{Err, Ok}
use Rattle.base.specs.Answer.{answer}
use Rattle.base.proofs.Answers.{refuses, short, fits}
use Rattle.page.proofs.Answering.{Loads, loads, loading-refused}
use Rattle.page.proofs.print_page.Goals as goal
use Rattle.page.proofs.print_page.Goals.{In_ok-loaded}

-- the network and the marks that the texts give
loaded : (c : In_ok-loaded) → Loads c.args.network.now c.args.list.now c.in_ok-loaded.loaded
loaded c =
    let answered : c.load_list-answer.result ≡ Ok c.in_ok-loaded.loaded = search rules in
    loads c.args.network.now c.args.list.now (rw answered at c.load_list-answer.ensures)

pub returns-in_err-loaded : goal.returns-in_err-loaded
returns-in_err-loaded c =
    let a = c.args in
    let answered : c.load_list-answer.result ≡ Err c.in_err-loaded.field-0.0 = search rules in
    let e : c.from_residual.result ≡ Err c.in_err-loaded.field-0.0 = search rules in
    let refusal = loading-refused a.network.now a.list.now (rw answered at c.load_list-answer.ensures) in
    let r = refuses _ a.page.now _ refusal in
    record { reply = rw e r.0; page = r.1 }

pub page_length-length-requires : goal.page_length-length-requires
page_length-length-requires c =
    let x = loaded (goal.at.page_length-length-requires c).In_ok-loaded in
    (omega (arith, x.marks, x.known.edge_room), x.known.edge_room)

pub returns-then-page-length : goal.returns-then-page-length
returns-then-page-length c =
    let x = loaded (goal.at.returns-then-page-length c).In_ok-loaded in
    let less = c.if-page-length.true in
    let r = short _ c.args.page.now _ x.page (omega (arith, c.page_length-length.ensures, x.long, less)) in
    record { reply = r.0; page = r.1 }

pub put_page-requires : goal.put_page-requires
put_page-requires c =
    let x = loaded (goal.at.put_page-requires c).In_ok-loaded in
    record { known = x.known; long = omega (arith, c.page_length-length.ensures, x.long, c.if-page-length.false) }

pub returns : goal.returns
returns c =
    let x = loaded (goal.at.returns c).In_ok-loaded in
    let measured = c.page_length-length.ensures ∙ sym x.long in
    let f = fits _ c.args.page.now _ x.page (omega (arith, measured, c.if-page-length.false)) in
    record { reply = ap answer measured ∙ f.0; page = c.put_page.ensures ∙ f.1 }
