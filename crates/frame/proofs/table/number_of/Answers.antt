-- `frame::table::number_of` meets its contract.
-- Assumes nothing.
use Rattle.frame.specs.Table.{row_of, entry_of}
use Rattle.frame.proofs.Rows.{row-listed}
use Rattle.frame.proofs.table.number_of.Goals as goal

pub returns : goal.returns
unfolding entry_of
returns c = c.entry_in.ensures.1 (row_of c.args.kind) (row-listed c.args.kind) c.entries_of.ensures
