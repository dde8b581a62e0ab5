-- `frame::table::digits_of` meets its contract.
-- Assumes nothing.
use native.Mathlib.Omega.{arith}
use Rattle.frame.specs.Table.{row_of}
use Rattle.frame.proofs.Rows.{start-next}
use Rattle.frame.proofs.table.digits_of.Goals as goal

pub overflow_sub-result : goal.overflow_sub-result
overflow_sub-result c = omega (arith, start-next (row_of c.args.kind) c.args.field)

pub returns : goal.returns
returns c = omega (arith, start-next (row_of c.args.kind) c.args.field)
