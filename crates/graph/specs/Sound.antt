-- What is known of a network while a chain runs over it.
use Rattle.std.specs.Prelude.{◌⊎◌, true, false, ◌≡◌, ℕ, ◌≤◌, ◌<◌, ◌^◌, length, pos, nat_abs}
use Rattle.base.specs.Fold.{sum, bit}
use Rattle.graph.specs.Network.{low_end, high_end, cost_of, here, degree}
use Rattle.graph.specs.Cut.{EveryCut}
use Rattle.graph.specs.declared.Network.{Network}

-- the columns have room for the edges and vertices, ends are vertices, and the present vertices are counted
pub record Formed (g : Network) : Type 0 where
  pub low_room : g.edges ≤ length g.low
  pub high_room : g.edges ≤ length g.high
  pub cost_room : g.edges ≤ length g.cost
  pub present_room : g.vertices ≤ length g.present
  pub low_below : (e : ℕ) → e < g.edges → low_end g e < g.vertices
  pub high_below : (e : ℕ) → e < g.edges → high_end g e < g.vertices
  pub here_below : (v : ℕ) → here g v ≡ true → v < g.vertices
  pub counted : sum g.vertices (λ v. bit (here g v)) ≡ g.remaining
  pub reserved_below : g.reserved < g.edges

-- an edge that is not retired joins present vertices; a retired one is a loop
abbrev pub Joins : Network → ℕ → Type 0
Joins g e = ((here g (low_end g e) ≡ true) × (here g (high_end g e) ≡ true)) ⊎ (low_end g e ≡ high_end g e)

-- a network over which every rule works: degree 4, every cut crossed by at least four, and retired edges at no cost
pub record Sound (g : Network) : Type 0 where
  pub formed : Formed g
  pub joins : (e : ℕ) → e < g.edges → Joins g e
  pub degrees : (v : ℕ) → here g v ≡ true → degree g v ≡ 4
  pub cuts : EveryCut 4 g
  pub held : here g (low_end g g.reserved) ≡ true
  pub free : (e : ℕ) → e < g.edges → here g (low_end g e) ≡ false → cost_of g e ≡ pos 0

-- a network as it is read: every vertex is present
pub record Fresh (g : Network) : Type 0 where
  pub formed : Formed g
  pub all_here : (v : ℕ) → v < g.vertices → here g v ≡ true

-- the sum of the costs' sizes, which no step raises
unfoldable pub weight : Network → ℕ
weight g = sum g.edges (λ e. nat_abs (cost_of g e))

-- working costs are so small that their differences fit into 64 bits
abbrev pub Light : Network → Type 0
Light g = weight g < 2 ^ 62
