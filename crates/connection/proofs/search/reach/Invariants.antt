-- What the loops of `connection::search::reach` keep, and that they end.
use Rattle.connection.proofs.Searching.{Searching, work}
use Rattle.connection.proofs.search.reach.Given as goal

abbrev pub invariant-loop-v : goal.invariant-loop-v
invariant-loop-v l = Searching l.edges l.start l.search l.v

abbrev pub decreases-loop-v : goal.decreases-loop-v
decreases-loop-v l = work l.search
