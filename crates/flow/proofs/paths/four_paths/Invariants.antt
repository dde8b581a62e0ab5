-- What the loop of `four_paths` keeps.
use Rattle.flow.proofs.Rounds.{Level}
use Rattle.flow.proofs.paths.four_paths.Given as goal

abbrev pub invariant-loop : goal.invariant-loop
invariant-loop l = Level l.ends l.sources l.sinks l.residual l.counter
