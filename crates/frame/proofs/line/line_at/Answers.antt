-- `frame::line::line_at` meets its contract.
-- Assumes nothing.
use mathlib.Core.Path.{◌≡◌, sym, ◌∙◌}
use Rattle.std.proofs.Common.{Err}
use native.Mathlib.Omega.{arith}
use borrow.Author.Rules.{rules}
use lib.ListN.{length-take}
use Rattle.frame.specs.Table.{row_of}
use Rattle.frame.proofs.Judging.{line-short, line-no-feed, line-no-number, line-no-kind, line-fields}
use Rattle.frame.proofs.Judging.{number-read, number_refused}
use Rattle.frame.proofs.Rows.{start-end}
use Rattle.frame.proofs.line.line_at.Goals as goal

pub returns-then-line-end : goal.returns-then-line-end
returns-then-line-end c =
    line-short (row_of c.args.kind) c.args.line.now c.args.next _ c.start_of-end.ensures c.if-line-end.true

pub returns-then-line-end-ne-LINE_FEED : goal.returns-then-line-end-ne-LINE_FEED
returns-then-line-end-ne-LINE_FEED c =
    line-no-feed (row_of c.args.kind) c.args.line.now c.args.next _ c.start_of-end.ensures
    c.if-line-end-ne-LINE_FEED.true

pub slice_bounds-read_number-end : goal.slice_bounds-read_number-end
slice_bounds-read_number-end c =
    omega (arith, start-end (row_of c.args.kind), c.start_of-end.ensures, length-take 2 c.args.line.now)

pub returns-in_err-number : goal.returns-in_err-number
returns-in_err-number c =
    let number = number_refused c.read_number.result c.in_err-number.ensures.value in
    let e : c.from_residual.result ≡ Err c.in_err-number.field-0.0 = search rules in
    rw (e, number.1)
    (line-no-number (row_of c.args.kind) c.args.line.now c.args.next (number.0 ∙ c.read_number.ensures))

pub returns-then-number-number_of : goal.returns-then-number-number_of
returns-then-number-number_of c =
    let number = number-read c.read_number.result c.in_ok-number.ensures.value in
    line-no-kind (row_of c.args.kind) c.args.line.now c.args.next c.in_ok-number.number (number ∙ c.read_number.ensures)
    (λ x. c.if-number-number_of.true (x ∙ sym c.number_of.ensures))

pub returns : goal.returns
returns c =
    let number = number-read c.read_number.result c.in_ok-number.ensures.value in
    c.read_fields.ensures
    ∙ line-fields (row_of c.args.kind) c.args.line.now c.args.next c.in_ok-number.number (number ∙ c.read_number.ensures) _
    c.start_of-end.ensures c.if-line-end.false c.if-line-end-ne-LINE_FEED.false
    (c.if-number-number_of.false ∙ c.number_of.ensures)
