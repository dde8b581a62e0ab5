-- What the loop of `forest_trials::tests::pentagram` keeps: all ends are vertices.
use Rattle.forest_trials.proofs.Ends.{Ends}
use Rattle.forest_trials.proofs.tests.pentagram.Given as goal

abbrev pub invariant-loop-e : goal.invariant-loop-e
invariant-loop-e l = Ends l.low × Ends l.high
