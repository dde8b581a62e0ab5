-- What the loop of `departures::mark_kept` keeps: the edges below `edge` are marked by their rules, and no others.
use Rattle.departures.proofs.Columns.{Marked}
use Rattle.departures.proofs.mark_kept.Given as goal

abbrev pub invariant-loop-edge : goal.invariant-loop-edge
invariant-loop-edge l = Marked l.rules l.edges l.edge l.marks
