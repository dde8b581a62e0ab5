-- What the code over a network asks for, and marks of its edges.
use Rattle.std.specs.Prelude.{Bool, false, List, ℕ, ◌≤◌, ◌<◌, replicate}
use Rattle.base.specs.Limits.{edge_limit}
use Rattle.graph.specs.Sound.{Light}
use Rattle.graph.specs.declared.Network.{Network}

-- what splitting with x, y and z needs: a vertex to take off, edges of the network, and costs whose difference fits
pub record Splittable (g : Network) (x y z : ℕ) : Type 0 where
  pub left : 0 < g.remaining
  pub room : g.edges ≤ edge_limit
  pub reserved_edge : g.reserved < g.edges
  pub x_edge : x < g.edges
  pub y_edge : y < g.edges
  pub z_edge : z < g.edges
  pub light : Light g

-- marks of no edge
abbrev pub no_marks : List Bool
no_marks = replicate edge_limit false
