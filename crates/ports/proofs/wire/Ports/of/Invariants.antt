-- What the loop of `ports::wire::Ports::of` keeps: the edges passed are plugged in.
use Rattle.ports.proofs.Wiring.{PluggedTo}
use Rattle.ports.proofs.wire.Ports.of.Given as goal

abbrev pub invariant-loop-e : goal.invariant-loop-e
invariant-loop-e l = PluggedTo l.network l.e l.mate l.edge l.used
