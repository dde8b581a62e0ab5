-- What the loop of `lay` keeps.
use Rattle.flow.specs.Arcs.{LaidTo}
use Rattle.flow.proofs.arcs.lay.Given as goal

abbrev pub invariant-loop-edge : goal.invariant-loop-edge
invariant-loop-edge l = LaidTo l.network l.edge l.ends
