-- What the loop of `flow::search::Search::sweep` keeps.
use Rattle.flow.specs.Search.{Swept}
use Rattle.flow.proofs.search.Search.sweep.Given as goal

abbrev pub invariant-loop-arc : goal.invariant-loop-arc
invariant-loop-arc l = Swept l.ends l.residual l.arc l.initial.self l.self
