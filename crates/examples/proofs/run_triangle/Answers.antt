-- `examples::run_triangle` meets its contract.
use Rattle.examples.proofs.Steps.{triangle-step}
use Rattle.examples.proofs.run_triangle.Goals as goal

pub split-last-requires : goal.split-last-requires
split-last-requires o c = rw c.triangle-g.ensures triangle-step
