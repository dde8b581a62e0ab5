-- A network (document 01: cabinets and cables): ends, costs, degrees, and the costs of a set of edges.
use Rattle.std.specs.Prelude.{Bool, false, not, cond, ◌&&◌, ◌||◌, List, ℕ, ◌+◌, eqb, get_or, ℤ, pos}
use Rattle.std.specs.Int.Signed.{le_z}
use Rattle.base.specs.Fold.{sum, sumℤ, bit}
use Rattle.graph.specs.declared.Network.{Network}

-- the ends of an edge (a cable's ends)
abbrev pub low_end : Network → ℕ → ℕ
low_end g e = get_or g.low e 0

abbrev pub high_end : Network → ℕ → ℕ
high_end g e = get_or g.high e 0

-- the working cost of an edge
abbrev pub cost_of : Network → ℕ → ℤ
cost_of g e = get_or g.cost e (pos 0)

-- whether two costs are one
unfoldable pub same_cost : ℤ → ℤ → Bool
same_cost a b = le_z a b && le_z b a

-- whether a vertex is present (a cabinet of the network, which has not left)
abbrev pub here : Network → ℕ → Bool
here g v = get_or g.present v false

-- how many ends an edge has at a vertex; a loop has two
unfoldable pub ends_at : Network → ℕ → ℕ → ℕ
ends_at g v e = bit (eqb (low_end g e) v) + bit (eqb (high_end g e) v)

-- the degree of a vertex (ports that are wired)
unfoldable pub degree : Network → ℕ → ℕ
degree g v = sum g.edges (ends_at g v)

-- whether an edge ends at a vertex
unfoldable pub touches : Network → ℕ → ℕ → Bool
touches g v e = eqb (low_end g e) v || eqb (high_end g e) v

-- the far end of an edge at v
unfoldable pub far : Network → ℕ → ℕ → ℕ
far g v e = cond (eqb (low_end g e) v) (high_end g e) (low_end g e)

-- the cost of the edges of a set
unfoldable pub cost_over : Network → (ℕ → Bool) → ℤ
cost_over g K = sumℤ g.edges (λ e. cond (K e) (cost_of g e) (pos 0))

-- whether a list of marks has an edge
abbrev pub kept : List Bool → ℕ → Bool
kept K e = get_or K e false

-- every edge but the reserved one
abbrev pub unreserved : Network → ℕ → Bool
unreserved g e = not (eqb e g.reserved)

-- kept cost, and the cost of all edges but the reserved one
abbrev pub kept_cost : Network → List Bool → ℤ
kept_cost g K = cost_over g (kept K)

abbrev pub all_but_reserved : Network → ℤ
all_but_reserved g = cost_over g (unreserved g)
