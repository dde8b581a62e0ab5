-- `rules::choice::chosen_vertex` meets its contract.
use native.Mathlib.Omega.{arith}
use Rattle.graph.specs.Plan.{chosen_vertex}
use Rattle.rules.proofs.choice.chosen_vertex.Goals as goal

pub bounds-network-reserved : goal.bounds-network-reserved
bounds-network-reserved c = omega (arith, c.requires.sound.formed.reserved_below, c.requires.edge_room)

pub bounds-network-reserved-2 : goal.bounds-network-reserved-2
bounds-network-reserved-2 c = omega (arith, c.requires.sound.formed.reserved_below, c.requires.edge_room)

pub returns-then-low-high : goal.returns-then-low-high
unfolding chosen_vertex
returns-then-low-high c = omega arith

pub returns-else-low-high : goal.returns-else-low-high
unfolding chosen_vertex
returns-else-low-high c = omega arith
