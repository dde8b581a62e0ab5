-- What the loop of `costs::kept_cost` keeps: the sum so far is the cost of the marked edges passed.
use mathlib.Core.Path.{◌≡◌}
use Rattle.costs.proofs.Totals.{cost_among}
use Rattle.costs.proofs.kept_cost.Given as goal

abbrev pub invariant-loop-e : goal.invariant-loop-e
invariant-loop-e l = l.sum ≡ cost_among l.network l.kept.marks l.e
