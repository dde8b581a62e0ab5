-- What a search asks of a network.
use Rattle.std.specs.Prelude.{ℕ, ◌≤◌, ◌<◌, length}
use Rattle.graph.specs.Network.{low_end, high_end}
use Rattle.graph.specs.declared.Network.{Network}

-- the columns have room for the edges and vertices, and ends are vertices; degrees and cuts are free
pub record Searchable (g : Network) : Type 0 where
  pub low_room : g.edges ≤ length g.low
  pub high_room : g.edges ≤ length g.high
  pub present_room : g.vertices ≤ length g.present
  pub some : 0 < g.vertices
  pub low_below : (e : ℕ) → e < g.edges → low_end g e < g.vertices
  pub high_below : (e : ℕ) → e < g.edges → high_end g e < g.vertices
