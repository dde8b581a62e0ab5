-- What the loop of `examples::ports::degrees_of` keeps: the tally has the degrees among the edges passed.
use mathlib.Core.Path.{◌≡◌}
use Rattle.incidence.specs.Degrees.{degrees_among}
use Rattle.examples.proofs.ports.degrees_of.Given as goal

abbrev pub invariant-loop-e : goal.invariant-loop-e
invariant-loop-e l = l.tally ≡ degrees_among l.g l.e
