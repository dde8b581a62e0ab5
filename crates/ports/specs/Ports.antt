-- The ports of a network's vertices (document 01: four ports, all wired). Port p is at vertex p / 4. A list `mate` has
-- for each port the one where the other end of its edge is plugged in, and a list `edge` has that edge.
use Rattle.std.specs.Prelude.{List, ◌≢◌, ◌⊎◌, ◌≡◌, ℕ, ◌*◌, ◌/◌, ◌≤◌, ◌<◌, length, set}
use Rattle.base.specs.Columns.{at}
use Rattle.base.specs.Fold.{tabulate}
use Rattle.base.specs.Limits.{vertex_limit}
use Rattle.graph.specs.Network.{low_end, high_end}
use Rattle.graph.specs.declared.Network.{Network}

-- how many ports a vertex has, and all vertices
abbrev pub ports_each : ℕ
ports_each = 4

abbrev pub port_limit : ℕ
port_limit = ports_each * vertex_limit

-- the vertex of a port, and the vertex at the other end of its edge
abbrev pub vertex_of : ℕ → ℕ
vertex_of p = p / ports_each

abbrev pub far_vertex : List ℕ → ℕ → ℕ
far_vertex mate p = vertex_of (at mate p)

-- nothing is plugged in: every port is its own mate
abbrev pub unwired : List ℕ
unwired = tabulate port_limit (λ p. p)

-- two ports as each other's mates, and their edge
abbrev pub plugged : List ℕ → ℕ → ℕ → List ℕ
plugged mate a b = set (set mate a b) b a

abbrev pub labelled : List ℕ → ℕ → ℕ → ℕ → List ℕ
labelled edge a b e = set (set edge a e) b e

-- every port has a mate, whose mate it is
pub record Mated (mate : List ℕ) : Type 0 where
  pub long : length mate ≡ port_limit
  pub below : (p : ℕ) → p < port_limit → at mate p < port_limit
  pub back : (p : ℕ) → p < port_limit → at mate (at mate p) ≡ p

-- So many edges, with a low and a high end each at one of so many vertices, are plugged in: the low end of an edge has a
-- port, whose mate is the port of its high end. The vertices' ports are all taken, and the others are not.
pub record Wired (edges vertices : ℕ) (low high : ℕ → ℕ) (mate edge : List ℕ) : Type 0 where
  pub mated : Mated mate
  pub long : length edge ≡ port_limit
  pub room : vertices ≤ vertex_limit
  pub port : ℕ → ℕ
  pub port_below : (e : ℕ) → e < edges → port e < port_limit
  pub low_at : (e : ℕ) → e < edges → vertex_of (port e) ≡ low e
  pub high_at : (e : ℕ) → e < edges → far_vertex mate (port e) ≡ high e
  pub named : (e : ℕ) → e < edges → at edge (port e) ≡ e
  pub far_named : (e : ℕ) → e < edges → at edge (at mate (port e)) ≡ e
  pub apart : (e : ℕ) → e < edges → at mate (port e) ≢ port e
  pub taken : (p : ℕ) → vertex_of p < vertices
      → (at edge p < edges) × ((p ≡ port (at edge p)) ⊎ (at mate p ≡ port (at edge p)))
  pub free : (p : ℕ) → vertices ≤ vertex_of p → p < port_limit → at mate p ≡ p

-- a network's edges are plugged in
abbrev pub WiredAs : Network → List ℕ → List ℕ → Type 0
WiredAs g mate edge = Wired g.edges g.vertices (low_end g) (high_end g) mate edge
