-- `frame::line::put_line` meets its contract. The loop's invariant is `PutTo`.
-- Assumes nothing.
use mathlib.Core.Path.{sym, ap}
use native.Mathlib.Omega.{arith}
use lib.ListN.{length, length-set}
use lib.Seq.{length-take-le}
use borrow.Author.Rules.{rules}
use Rattle.frame.specs.Table.{row_of, line_length}
use Rattle.frame.proofs.Passes.{put-none, put-more, put_all}
use Rattle.frame.proofs.Rows.{row-listed, start-end}
use Rattle.frame.proofs.line.put_line.Goals as goal

pub bounds-out-end : goal.bounds-out-end
unfolding line_length
bounds-out-end c = omega arith

pub loop-field-init : goal.loop-field-init
unfolding line_length
loop-field-init c =
    put-none (row_of c.args.kind) c.numbers-numbers.result _
    (simp length-set (omega arith))

pub put_field-requires : goal.put_field-requires
unfolding line_length
put_field-requires c = (
  record {
    row = row_of c.args.kind;
    listed = row-listed c.args.kind;
    entries_are = c.entries_of-entries.ensures;
    long = omega (arith, simp length-set at c.loop-field.invariant.size, c.requires);
  },
  search rules,
)

pub loop-field-preserved : goal.loop-field-preserved
loop-field-preserved c =
    let l = c.loop-field in
    put-more (row_of c.args.kind) _ _ l.out l.field l.invariant (ap length c.numbers-numbers.ensures) (search rules) _
    c.put_field.auto.out (c.put_field.ensures (row_of c.args.kind) (row-listed c.args.kind) c.entries_of-entries.ensures)

pub slice_bounds-put_number-end : goal.slice_bounds-put_number-end
slice_bounds-put_number-end c = omega (arith, start-end (row_of c.args.kind))

pub slice_bounds-put_number-end-2 : goal.slice_bounds-put_number-end-2
slice_bounds-put_number-end-2 c =
    sym (length-take-le 2 c.loop-field.out
    (omega (arith, start-end (row_of c.args.kind))))

pub returns : goal.returns
unfolding line_length
returns c =
    let a = c.args in
    let l = c.loop-field in
    let e = c.start_of-end.ensures in (
      omega (arith, e),
      put_all (row_of a.kind) a.f _ a.out.now l.out _ _ l.field c.numbers-numbers.ensures e
          (omega (arith, e, c.requires)) l.invariant (search rules)
          (rw c.number_of.ensures at c.put_number.ensures),
    )
