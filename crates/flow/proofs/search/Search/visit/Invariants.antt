-- What the loop of `flow::search::Search::visit` keeps.
use Rattle.flow.specs.Search.{Grown}
use Rattle.flow.proofs.search.Search.visit.Given as goal

abbrev pub invariant-loop-arc : goal.invariant-loop-arc
invariant-loop-arc l = Grown l.ends l.residual l.initial.self l.self
