-- The table of the listed edges' ends at each vertex, which makes a search fast.
-- Edge e has end 2 e at its low vertex and end 2 e + 1 at its high one.
use Rattle.std.specs.Prelude.{Bool, true, cond, List, ◌≡◌, ℕ, zero, suc, ◌+◌, ◌*◌, ◌/◌, ◌%◌, ◌<◌, eqb, get_or, set, replicate}
use Rattle.graph.specs.Network.{kept}
use Rattle.base.specs.Limits.{vertex_limit, edge_limit}
use Rattle.graph.specs.declared.Network.{Network}
use Rattle.connection.specs.declared.ends.Incidence.{Incidence}

-- how many ends there are
abbrev pub end_limit : ℕ
end_limit = 2 * edge_limit

abbrev pub table : List ℕ → List ℕ → Incidence
table first next = record { first = first; next = next }

-- the table of no end: the limit stands for none
unfoldable pub no_ends : Incidence
no_ends = table (replicate vertex_limit end_limit) (replicate end_limit end_limit)

-- the ends at vertex v begin with this one
unfoldable pub hooked : Incidence → ℕ → ℕ → Incidence
hooked t v end = table (set t.first v end) (set t.next end (get_or t.first v 0))

-- both ends of an edge are hooked if it is listed
unfoldable pub noted : List ℕ → List ℕ → List Bool → Incidence → ℕ → Incidence
noted low high K t e =
    cond (kept K e) (hooked (hooked t (get_or high e 0) (2 * e + 1)) (get_or low e 0) (2 * e)) t

-- so are those of the first m edges, the last first
unfoldable pub chained : List ℕ → List ℕ → List Bool → ℕ → Incidence → Incidence
chained low high K zero t = t
chained low high K (suc m) t = chained low high K m (noted low high K t m)

-- the table of a list of a network's edges
unfoldable pub incidence : Network → List Bool → Incidence
incidence g K = chained g.low g.high K g.edges no_ends

-- ── what a table of all listed ends says ──

-- the vertex at which an end is, and the one at which its edge's other end is
unfoldable pub vertex_of : List ℕ → List ℕ → ℕ → ℕ
vertex_of low high end = cond (eqb (end % 2) 0) (get_or low (end / 2) 0) (get_or high (end / 2) 0)

unfoldable pub far_vertex_of : List ℕ → List ℕ → ℕ → ℕ
far_vertex_of low high end = cond (eqb (end % 2) 0) (get_or high (end / 2) 0) (get_or low (end / 2) 0)

-- an end of one of the first m edges, which is listed
pub record ListedEnd (K : List Bool) (m end : ℕ) : Type 0 where
  pub number : end / 2 < m
  pub listed : kept K (end / 2) ≡ true

-- an end stands in the chain that begins with another
pub data Chained (next : List ℕ) : ℕ → ℕ → Type 0 where
  first : {end : ℕ} → end < end_limit → Chained next end end
  behind : {from end : ℕ} → from < end_limit → Chained next (get_or next from 0) end → Chained next from end

-- chains rise; in a vertex's chain are listed ends at the vertex, and all of them
pub record Chains (low high : List ℕ) (K : List Bool) (m : ℕ) (t : Incidence) : Type 0 where
  pub rises : (end : ℕ) → end < end_limit → end < get_or t.next end 0
  pub sound : (v end : ℕ) → v < vertex_limit → Chained t.next (get_or t.first v 0) end
      → ListedEnd K m end × (vertex_of low high end ≡ v)
  pub whole : (end : ℕ) → ListedEnd K m end → Chained t.next (get_or t.first (vertex_of low high end) 0) end
