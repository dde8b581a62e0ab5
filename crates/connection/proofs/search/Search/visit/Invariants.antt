-- What the loop of `connection::search::Search::visit` keeps: only edges of the list are passed. The ends behind the
-- present one become fewer.
use Prim.Native.Nat.{◌-◌}
use lib.ListN.{length}
use Rattle.connection.specs.Search.{Passes}
use Rattle.connection.proofs.search.Search.visit.Given as goal

abbrev pub invariant-loop-end : goal.invariant-loop-end
invariant-loop-end l = Passes l.edges l.initial.self l.self

abbrev pub decreases-loop-end : goal.decreases-loop-end
decreases-loop-end l = length l.next - l.end
