-- `frame::table::entry_in` meets its contract.
-- Assumes nothing.
use native.Mathlib.Omega.{arith}
use Rattle.frame.proofs.Rows.{entry_found}
use Rattle.frame.proofs.table.entry_in.Goals as goal

pub returns : goal.returns
returns c = (omega arith, λ row l e. rw e (entry_found row c.args.column l c.requires))
