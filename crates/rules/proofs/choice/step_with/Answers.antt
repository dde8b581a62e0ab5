-- `rules::choice::step_with` meets its contract.
use mir.Facts.{to_z-of_z}
use Rattle.graph.proofs.Differences.{difference-small}
use Rattle.rules.proofs.choice.step_with.Goals as goal

pub returns : goal.returns
returns c =
    rw (
      c.cost_after-cost.ensures,
      to_z-of_z (difference-small c.args.network c.requires.light _ _ c.requires.j_edge c.requires.i_edge),
    )
