-- What is known of a network that is loaded, from whatever text.
use Rattle.std.specs.Prelude.{◌≡◌, ℕ, ◌≤◌, ◌<◌, length, nat_abs}
use Rattle.graph.specs.Network.{cost_of}
use Rattle.graph.specs.Sound.{Fresh}
use Rattle.base.specs.Limits.{fewest_vertices, edge_limit, vertex_limit, cost_limit}
use Rattle.graph.specs.declared.Network.{Network}

pub record Known (g : Network) : Type 0 where
  -- its ends are vertices, and every vertex is present
  pub fresh : Fresh g
  -- each of its costs is within the limit
  pub within : (e : ℕ) → e < g.edges → nat_abs (cost_of g e) ≤ cost_limit
  -- it has at least as many vertices as a network has
  pub several : fewest_vertices ≤ g.vertices
  -- the state has room for its vertices
  pub vertex_room : g.vertices ≤ vertex_limit
  -- and for its edges
  pub edge_room : g.edges ≤ edge_limit
  -- its column of lower ends is as long as the state's
  pub long : length g.low ≡ edge_limit
