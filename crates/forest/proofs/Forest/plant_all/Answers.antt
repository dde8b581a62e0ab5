-- `forest::Forest::plant_all` meets its contract.
use Rattle.forest.proofs.Growing.{progress-on}
use Rattle.forest.proofs.Forest.plant_all.Goals as goal

pub plant-requires-clause-progress : goal.plant-requires-clause-progress
plant-requires-clause-progress c = progress-on c.loop-v.invariant.grown c.requires.progress
