-- What the loop of `flow::arcs::gather` keeps.
use Rattle.flow.specs.Arcs.{MovedTo}
use Rattle.flow.proofs.arcs.gather.Given as goal

abbrev pub invariant-loop-edge : goal.invariant-loop-edge
invariant-loop-edge l = MovedTo l.from l.to l.edge l.initial.ends l.ends
