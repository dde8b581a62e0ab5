-- `frame::table::length_of` meets its contract.
-- Assumes nothing.
use native.Mathlib.Omega.{arith}
use Rattle.frame.specs.Table.{fields, row_of, line_length}
use Rattle.frame.proofs.Rows.{row-listed, start_small}
use Rattle.frame.proofs.table.length_of.Goals as goal

pub overflow_add-result : goal.overflow_add-result
overflow_add-result c =
    omega (arith, start_small (row_of c.args.kind) (row-listed c.args.kind) fields (omega arith))

pub returns : goal.returns
unfolding line_length
returns c = omega arith
