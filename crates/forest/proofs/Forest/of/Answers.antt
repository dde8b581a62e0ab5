-- `forest::Forest::of` meets its contract.
use borrow.Author.Rules.{rules}
use Rattle.forest.proofs.Growing.{search-opened, search-ended}
use Rattle.forest.proofs.Forest.of.Goals as goal

pub plant_all-requires-clause-progress : goal.plant_all-requires-clause-progress
plant_all-requires-clause-progress c = (_, _, _, search-opened c.requires.searchable (search rules) c.requires.table_value.1)

pub returns : goal.returns
returns c K is =
    let planted = c.plant_all.ensures in
    search-ended c.requires.searchable (search rules) is planted.grown planted.by_index
