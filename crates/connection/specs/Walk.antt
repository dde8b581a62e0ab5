-- Walks over listed edges: what it means that listed cables join two cabinets.
use Rattle.std.specs.Prelude.{Bool, true, List, ◌⊎◌, ◌↔◌, ◌≡◌, ℕ, ◌<◌, get_or}
use Rattle.graph.specs.Network.{kept}
use Rattle.graph.specs.declared.Network.{Network}
use Rattle.connection.specs.Connection.{joined}
use Rattle.connection.specs.Searchable.{Searchable}

-- by the columns of ends, edge e joins v and w, either way round
abbrev pub Joins : List ℕ → List ℕ → ℕ → ℕ → ℕ → Type 0
Joins low high e v w =
    ((get_or low e 0 ≡ v) × (get_or high e 0 ≡ w)) ⊎ ((get_or high e 0 ≡ v) × (get_or low e 0 ≡ w))

-- a listed edge joins them
pub record Link (g : Network) (K : List Bool) (e v w : ℕ) : Type 0 where
  pub number : e < g.edges
  pub listed : kept K e ≡ true
  pub ends : Joins g.low g.high e v w

-- a walk over listed edges leads from v to w; the empty walk stays
pub data Walk (g : Network) (K : List Bool) : ℕ → ℕ → Type 0 where
  stays : {v : ℕ} → Walk g K v v
  goes : {e u v w : ℕ} → Walk g K u v → Link g K e v w → Walk g K u w

-- the claim: the listed edges join v to the start vertex exactly if a walk over them leads there
abbrev pub JoinedByWalks : Type 0
JoinedByWalks =
    (g : Network) (K : List Bool) (start v : ℕ) → Searchable g → start < g.vertices
    → (joined g K start v ≡ true) ↔ Walk g K start v
