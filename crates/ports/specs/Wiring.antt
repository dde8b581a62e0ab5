-- What plugging in the edges of a network needs: vertices of degree 4.
use Rattle.std.specs.Prelude.{◌≡◌, ℕ, ◌≤◌, ◌<◌}
use Rattle.base.specs.Limits.{vertex_limit, edge_limit}
use Rattle.graph.specs.Network.{degree}
use Rattle.graph.specs.Sound.{Formed}
use Rattle.graph.specs.declared.Network.{Network}
use Rattle.ports.specs.Ports.{ports_each}

pub record Pluggable (g : Network) : Type 0 where
  pub formed : Formed g
  pub room : g.vertices ≤ vertex_limit
  pub edge_room : g.edges ≤ edge_limit
  pub degrees : (v : ℕ) → v < g.vertices → degree g v ≡ ports_each
