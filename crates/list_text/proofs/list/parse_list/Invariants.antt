-- What the loops of `list_text::list::parse_list` keep, and that they end.
use Prim.Native.Nat.{◌-◌}
use lib.ListN.{length}
use Rattle.list_text.proofs.Reading.{Reading}
use Rattle.list_text.proofs.list.parse_list.Given as goal

abbrev pub invariant-loop-at : goal.invariant-loop-at
invariant-loop-at l = Reading l.vertices l.text l.initial.edges l.edges l.at l.least l.count

abbrev pub decreases-loop-at : goal.decreases-loop-at
decreases-loop-at l = length l.text - l.at
