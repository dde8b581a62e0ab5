-- Connection by a set of edges (document 01: joined): what listed edges join to a start vertex.
use Rattle.std.specs.Prelude.{Bool, ◌&&◌, ◌||◌, List, ℕ, zero, suc, eqb}
use Rattle.base.specs.Fold.{sum, each, any, bit, tabulate}
use Rattle.graph.specs.Network.{low_end, high_end, kept}
use Rattle.graph.specs.Cut.{Side, side_of}
use Rattle.graph.specs.declared.Network.{Network}

-- an edge joins v to a vertex of R
unfoldable pub leads : Network → Side → ℕ → ℕ → Bool
leads g R v e = eqb (low_end g e) v && R (high_end g e) || eqb (high_end g e) v && R (low_end g e)

-- R, and what a listed edge joins to it
unfoldable pub grown : Network → List Bool → Side → Side
grown g K R v = R v || any g.edges (λ e. kept K e && leads g R v e)

-- the vertices that at most k listed edges in a row join to the start vertex
unfoldable pub within : Network → List Bool → ℕ → ℕ → List Bool
within g K start zero = tabulate g.vertices (λ v. eqb v start)
within g K start (suc k) = tabulate g.vertices (grown g K (side_of (within g K start k)))

-- the vertices that the listed edges join to the start vertex, itself included
unfoldable pub reached : Network → List Bool → ℕ → List Bool
reached g K start = within g K start g.vertices

-- whether the listed edges join a vertex to the start vertex
unfoldable pub joined : Network → List Bool → ℕ → ℕ → Bool
joined g K start = side_of (reached g K start)

-- how many vertices they join to it
unfoldable pub reached_count : Network → List Bool → ℕ → ℕ
reached_count g K start = sum g.vertices (λ v. bit (joined g K start v))

-- the listed edges join all vertices: each is joined to vertex 0
unfoldable pub connected : Network → List Bool → Bool
connected g K = each g.vertices (joined g K 0)
