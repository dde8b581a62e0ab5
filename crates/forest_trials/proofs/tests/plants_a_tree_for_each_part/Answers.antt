-- `forest_trials::tests::plants_a_tree_for_each_part` meets its contract.
use borrow.Author.Rules.{rules}
use Rattle.forest.proofs.Growing.{search-opened}
use Rattle.forest_trials.proofs.tests.plants_a_tree_for_each_part.Goals as goal

pub plant_all-requires-clause-progress : goal.plant_all-requires-clause-progress
plant_all-requires-clause-progress c = λ w. (_, _, _, search-opened w.pentagram-network.ensures (search rules) w.of-table.ensures)
