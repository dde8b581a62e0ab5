-- `frame::table::entries_of` meets its contract.
-- Assumes nothing.
use Rattle.frame.specs.Table.{row_of}
use Rattle.frame.proofs.Rows.{laid_out, laid-row, row-listed}
use Rattle.frame.proofs.table.entries_of.Goals as goal

pub returns : goal.returns
unfolding laid_out
returns c = rw c.row.ensures (laid-row (row_of c.args.kind) (row-listed c.args.kind))
