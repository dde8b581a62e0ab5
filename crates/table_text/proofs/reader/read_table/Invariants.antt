-- What the loop of `table_text::reader::read_table` keeps.
use Rattle.table_text.proofs.Reading.{Reading}
use Rattle.table_text.proofs.reader.read_table.Given as goal

abbrev pub invariant-loop : goal.invariant-loop
invariant-loop l =
    Reading l.text l.vertices l.reserved l.end l.initial.low l.initial.high l.initial.cost l.low l.high l.cost l.at l.counter l.edges l.lower l.higher
