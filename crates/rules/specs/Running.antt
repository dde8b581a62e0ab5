-- What is known of the network on which a step is chosen or judged.
use Rattle.std.specs.Prelude.{◌≡◌, ℕ, ◌≤◌, ◌<◌, Bool, List, length}
use Rattle.graph.specs.Sound.{Sound, Light}
use Rattle.base.specs.Limits.{edge_limit, vertex_limit}
use Rattle.graph.specs.declared.Network.{Network}

-- a sound network with small costs that fits its columns
pub record Running (g : Network) : Type 0 where
  pub sound : Sound g
  pub light : Light g
  pub left : 2 ≤ g.remaining
  pub edge_room : g.edges ≤ edge_limit
  pub vertex_room : g.vertices ≤ vertex_limit
  pub long : length g.low ≡ edge_limit

-- a running network of which two vertices are left
pub record Last (g : Network) : Type 0 where
  pub run : Running g
  pub two : g.remaining ≡ 2

-- edges whose costs can be compared
pub record Costed (g : Network) (i j : ℕ) : Type 0 where
  pub light : Light g
  pub room : g.edges ≤ edge_limit
  pub i_edge : i < g.edges
  pub j_edge : j < g.edges

-- marks of edges whose costs can be summed
pub record Keeping (g : Network) (K : List Bool) : Type 0 where
  pub light : Light g
  pub edge_room : g.edges ≤ edge_limit
  pub reserved_room : g.reserved < edge_limit
  pub long : length K ≡ edge_limit
