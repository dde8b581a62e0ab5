-- `frame::table::start_of` meets its contract.
-- Assumes nothing.
use Rattle.frame.specs.Table.{row_of}
use Rattle.frame.proofs.Rows.{row-listed}
use Rattle.frame.proofs.table.start_of.Goals as goal

pub returns : goal.returns
returns c = c.start_in.ensures (row_of c.args.kind) (row-listed c.args.kind) c.entries_of.ensures
