-- What the loop of `network_text::network::read_columns` keeps.
use Rattle.network_text.proofs.Reading.{Reading}
use Rattle.network_text.proofs.network.read_columns.Given as goal

abbrev pub invariant-loop-i : goal.invariant-loop-i
invariant-loop-i l =
    Reading l.text l.vertices l.reserved l.initial.low l.initial.high l.initial.cost l.low l.high l.cost l.at l.i
