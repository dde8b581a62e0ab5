-- `frame::table::start_in` meets its contract.
-- Assumes nothing.
use native.Mathlib.Omega.{arith}
use Rattle.frame.proofs.Rows.{start-entry}
use Rattle.frame.proofs.table.start_in.Goals as goal

pub overflow_mul-result : goal.overflow_mul-result
overflow_mul-result c = omega (arith, c.entry_in.ensures.0)

pub returns : goal.returns
returns c = λ row l e. omega (arith, c.entry_in.ensures.1 row l e, start-entry row c.args.field)
