-- Bridges of a list of edges (document 02: critical cables).
use Rattle.std.specs.Prelude.{Bool, true, false, not, ◌&&◌, List, ◌↔◌, ◌≡◌, ℕ, ◌<◌, set}
use Rattle.base.specs.Fold.{sum, bit}
use Rattle.graph.specs.Network.{low_end, high_end, kept}
use Rattle.graph.specs.declared.Network.{Network}
use Rattle.connection.specs.Connection.{joined, connected}
use Rattle.connection.specs.Searchable.{Searchable}
use Rattle.connection.specs.Walk.{Walk}

-- the list without an edge
abbrev pub without : List Bool → ℕ → List Bool
without K e = set K e false

-- whether a list joins the ends of an edge
abbrev pub ends_joined : Network → List Bool → ℕ → Bool
ends_joined g K e = joined g K (low_end g e) (high_end g e)

-- a listed edge is a bridge if its ends are joined by the list and not by the list without it
unfoldable pub bridge : Network → List Bool → ℕ → Bool
bridge g K e = kept K e && ends_joined g K e && not (ends_joined g (without K e) e)

-- how many listed edges are bridges
unfoldable pub bridge_count : Network → List Bool → ℕ
bridge_count g K = sum g.edges (λ e. bit (bridge g K e))

-- what is claimed of bridges
pub record BridgeClaim : Type 0 where
  -- an edge is a bridge exactly if it is listed, a walk over listed edges leads from end to end, and none without it
  pub by_walks : (g : Network) (K : List Bool) (e : ℕ) → Searchable g → e < g.edges
      → (bridge g K e ≡ true) ↔
      ((kept K e ≡ true) × Walk g K (low_end g e) (high_end g e) × (Walk g (without K e) (low_end g e) (high_end g e) → ⊥))
  -- where the list joins all vertices, the bridges are as many as the edges without which it does not
  pub as_before : (g : Network) (K : List Bool) → Searchable g → connected g K ≡ true
      → bridge_count g K ≡ sum g.edges (λ e. bit (kept K e && not (connected g (without K e))))
