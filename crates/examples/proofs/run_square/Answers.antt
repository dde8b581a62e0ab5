-- `examples::run_square` meets its contract.
use mathlib.Core.Path.{ap, ◌∙◌}
use Rattle.graph.specs.Split.{split}
use Rattle.examples.proofs.Steps.{square-step, square-next}
use Rattle.examples.proofs.run_square.Goals as goal

pub split-next-requires : goal.split-next-requires
split-next-requires o c = rw c.square-g.ensures square-step

pub split-last-requires : goal.split-last-requires
split-last-requires o c = rw (c.split-next.ensures ∙ ap (λ g. split g 2 3 2 7) c.square-g.ensures) square-next
