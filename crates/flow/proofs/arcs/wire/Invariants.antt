-- What the loop of `wire` keeps.
use mathlib.Core.Path.{◌≡◌}
use Rattle.flow.specs.Ports.{wiring, wired}
use Rattle.flow.proofs.arcs.wire.Given as goal

abbrev pub invariant-loop-arc : goal.invariant-loop-arc
invariant-loop-arc l = wiring l.ports l.used ≡ wired l.ends l.arc
