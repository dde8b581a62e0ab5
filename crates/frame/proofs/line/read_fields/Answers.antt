-- `frame::line::read_fields` meets its contract. The loop's invariant is `ReadTo`.
-- Assumes nothing.
use mathlib.Core.Path.{◌≡◌, ◌∙◌}
use Rattle.std.proofs.Common.{Err}
use borrow.Author.Rules.{rules}
use Rattle.frame.specs.Table.{row_of}
use Rattle.frame.proofs.Judging.{number-read, number_refused}
use Rattle.frame.proofs.Passes.{read_none, read-stop, read_more, read_all}
use Rattle.frame.proofs.Rows.{row-listed}
use Rattle.frame.proofs.line.read_fields.Goals as goal

pub loop-field-init : goal.loop-field-init
loop-field-init c = read_none (row_of c.args.kind) c.args.line.now

pub read_field-requires : goal.read_field-requires
read_field-requires c = (
  record {
    row = row_of c.args.kind;
    listed = row-listed c.args.kind;
    entries_are = c.entries_of-entries.ensures;
    long = c.requires.0;
  },
  c.loop-field-test.true,
  c.requires.1,
)

pub returns-in_err-number : goal.returns-in_err-number
returns-in_err-number c =
    let row = row_of c.args.kind in
    let number = number_refused c.read_field.result c.in_err-number.ensures.value in
    let field = c.read_field.ensures row (row-listed c.args.kind) c.entries_of-entries.ensures in
    let e : c.from_residual.result ≡ Err c.in_err-number.field-0.0 = search rules in
    rw (e, number.1)
    (read-stop row c.args.line.now c.loop-field.number-items c.loop-field.field c.loop-field.invariant
    c.loop-field-test.true c.args.next (number.0 ∙ field))

pub loop-field-preserved : goal.loop-field-preserved
loop-field-preserved c =
    let row = row_of c.args.kind in
    let number = number-read c.read_field.result c.in_ok-number.ensures.value in
    let field = c.read_field.ensures row (row-listed c.args.kind) c.entries_of-entries.ensures in
    read_more row c.args.line.now c.loop-field.number-items c.loop-field.field c.loop-field.invariant
    c.loop-field-test.true c.in_ok-number.field-0 (number ∙ field)

pub returns : goal.returns
returns c =
    rw c.of.ensures
    (read_all (row_of c.args.kind) c.args.line.now c.loop-field.number-items c.loop-field.field c.loop-field.invariant
    c.args.next (search rules))
