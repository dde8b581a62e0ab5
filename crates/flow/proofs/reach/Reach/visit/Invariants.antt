-- What the loop of `flow::reach::Reach::visit` keeps.
use Prim.Native.Nat.{◌≤◌, ◌<◌}
use Rattle.flow.specs.Reach.{WentOn}
use Rattle.flow.proofs.reach.Reach.visit.Given as goal

abbrev pub invariant-loop-port : goal.invariant-loop-port
invariant-loop-port l =
    WentOn l.mate l.residual (λ p. (l.first ≤ p) × (p < l.port)) l.initial.self l.other l.self
