-- `connection::search::Search::visit` meets its contract.
use Rattle.connection.specs.Search.{Passes, none, more}
use Rattle.connection.proofs.search.Search.visit.Goals as goal
use Rattle.connection.proofs.search.Search.visit.Goals.{Joined-e-edges, then-e-edges, else-e-edges}

pub loop-end-init : goal.loop-end-init
loop-end-init c = none

-- with the edge passed, or none
passes-now : (c : Joined-e-edges) → let a = c.args in
    Passes a.edges.now a.self.now c.if-e-edges.self
passes-now c = elim c.if-e-edges.branch [
  | then-e-edges w ↦ rw (w.self-is, w.pass.ensures) (more c.loop-end.invariant w.if-e-edges.true)
  | else-e-edges w ↦ rw (w.self-is) c.loop-end.invariant
]

pub returns-then-later-end : goal.returns-then-later-end
returns-then-later-end c = passes-now (goal.at.returns-then-later-end c).Joined-e-edges

pub loop-end-preserved : goal.loop-end-preserved
loop-end-preserved c = passes-now (goal.at.loop-end-preserved c).Joined-e-edges
