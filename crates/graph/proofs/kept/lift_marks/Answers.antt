-- `graph::kept::lift_marks` meets its contract.
use mathlib.Core.Path.{refl}
use Rattle.graph.specs.Chain.{lift}
use Rattle.graph.proofs.kept.lift_marks.Goals as goal

pub returns : goal.returns
unfolding lift
returns c = refl
