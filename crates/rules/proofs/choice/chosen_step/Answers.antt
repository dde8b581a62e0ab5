-- `rules::choice::chosen_step` meets its contract.
use mathlib.Core.Path.{◌∙◌, ap}
use Rattle.rules.specs.Pairs.{ordered_with}
use Rattle.rules.proofs.Choices.{pair-ordered, pair-costed}
use Rattle.rules.proofs.choice.chosen_step.Goals as goal

pub ordered-requires : goal.ordered-requires
ordered-requires c = rw c.chosen_pair-pair.ensures (pair-costed c.requires)

pub returns : goal.returns
returns c =
    let g = c.args.network in
    c.ordered.ensures ∙ ap (λ p. ordered_with g p.v p.low p.high p.z) c.chosen_pair-pair.ensures
    ∙ pair-ordered g
