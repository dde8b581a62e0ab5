-- What the loop of `connection::search::Search::sweep` keeps: the edges below e are left to pass.
use mathlib.Core.Path.{◌≡◌}
use Rattle.connection.specs.Search.{swept}
use Rattle.connection.proofs.search.Search.sweep.Given as goal

abbrev pub invariant-loop-e : goal.invariant-loop-e
invariant-loop-e l = swept l.edges l.e l.self ≡ swept l.edges l.edges.count l.initial.self
