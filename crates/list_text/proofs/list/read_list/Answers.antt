-- `list_text::list::read_list` meets its contract.
use mathlib.Core.Path.{◌≡◌, sym, ◌∙◌, ap}
use native.Mathlib.Omega.{arith}
use borrow.Author.Rules.{rules}
use Rattle.std.proofs.Common.{Err}
use Rattle.base.specs.Answer.{answer, over}
use Rattle.base.proofs.Answers.{refuses, short, fits}
use Rattle.list_text.proofs.Reading.{stored, read-refused}
use Rattle.list_text.proofs.list.read_list.Goals as goal

pub returns-in_err-count : goal.returns-in_err-count
returns-in_err-count c =
    let e : c.from_residual.result ≡ Err c.in_err-count.field-0.0 = search rules in
    rw e (refuses _ c.args.edges.now _ (read-refused c.in_err-count.ensures))

pub returns-then-edges-count : goal.returns-then-edges-count
returns-then-edges-count c =
    let x = stored c.in_ok-count.ensures in
    short _ _ x.meaning x.is (omega (arith, x.starts.count, c.if-edges-count.true))

pub copy-requires : goal.copy-requires
copy-requires c =
    let x = stored c.in_ok-count.ensures in
    (omega (arith, x.starts.within), omega (arith, c.if-edges-count.false))

pub returns : goal.returns
returns c =
    let x = stored c.in_ok-count.ensures in
    let old = c.args.edges.now in
    let y = fits _ old x.meaning x.is (omega (arith, x.starts.count, c.if-edges-count.false)) in (
      ap answer (sym x.starts.count) ∙ y.0,
      c.copy.ensures ∙ ap (λ es. over es old) x.starts.first ∙ y.1,
    )
