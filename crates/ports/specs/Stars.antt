-- A port and the three others of its vertex.
use Rattle.std.specs.Prelude.{List, ◌≢◌, ◌≡◌, ℕ, ◌≤◌, ◌<◌}
use Rattle.base.specs.Columns.{at}
use Rattle.ports.specs.Ports.{port_limit, vertex_of}
use Rattle.ports.specs.declared.star.Star.{Star}

-- port r, and the three others of its vertex
pub record Trio (r a b c : ℕ) : Type 0 where
  pub r_below : r < port_limit
  pub a_at : vertex_of a ≡ vertex_of r
  pub b_at : vertex_of b ≡ vertex_of r
  pub c_at : vertex_of c ≡ vertex_of r
  pub ra : r ≢ a
  pub rb : r ≢ b
  pub rc : r ≢ c
  pub ab : a ≢ b
  pub ac : a ≢ c
  pub bc : b ≢ c

-- a port's star: the three others, by edges that don't fall
pub record Around (edge : List ℕ) (s : Star) : Type 0 where
  pub trio : Trio s.reserved s.first s.second s.third
  pub lower : at edge s.first ≤ at edge s.second
  pub upper : at edge s.second ≤ at edge s.third

-- an edge is plugged in at a port of a vertex
abbrev pub HasEdge : List ℕ → ℕ → ℕ → Type 0
HasEdge edge v e = (p : ℕ) × (vertex_of p ≡ v) × (at edge p ≡ e)
