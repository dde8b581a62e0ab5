-- A depth-first forest of the listed edges: trees that span what the list joins, such that each listed edge joins a
-- vertex to one of its ancestors or descendants. Vertices have places, in the order in which the search meets them; the
-- subtree at a place is the row of places from there up to its last one.
use Rattle.std.specs.Prelude.{Bool, true, List, ◌≡◌, ℕ, ◌≤◌, ◌<◌}
use Rattle.base.specs.Columns.{at}
use Rattle.base.specs.Limits.{vertex_limit}
use Rattle.graph.specs.Network.{kept}
use Rattle.connection.specs.Walk.{Joins}
use Rattle.forest.specs.declared.Forest.{Forest}

-- no place, which a vertex has before the search meets it and a root has for its parent
abbrev pub no_place : ℕ
no_place = vertex_limit

-- the edge that leads to place i is listed, and joins its vertex to the one at its parent, an earlier place
pub record TreeEdge (low high : List ℕ) (K : List Bool) (m : ℕ) (t : Forest) (i : ℕ) : Type 0 where
  pub earlier : at t.parent i < i
  pub number : at t.edge i < m
  pub listed : kept K (at t.edge i) ≡ true
  pub joins : Joins low high (at t.edge i) (at t.order (at t.parent i)) (at t.order i)

-- trees over the first m edges; the subtree at place i has the places from i on that are below `end i`
pub record Trees (low high : List ℕ) (K : List Bool) (m : ℕ) (t : Forest) (end : ℕ → ℕ) : Type 0 where
  -- no two vertices have one place
  pub placed : (v : ℕ) → v < vertex_limit → at t.number v < no_place
      → (at t.number v < t.count) × (at t.order (at t.number v) ≡ v)
  pub holds : (i : ℕ) → i < t.count → (at t.order i < vertex_limit) × (at t.number (at t.order i) ≡ i)
  -- a place has a tree edge unless it is a root
  pub tree : (i : ℕ) → i < t.count → at t.parent i < no_place → TreeEdge low high K m t i
  pub root : (i : ℕ) → i < t.count → no_place ≤ at t.parent i → m ≤ at t.edge i
  -- a subtree holds its place, and with a place its parent, or that is where it begins
  pub own : (i : ℕ) → i < t.count → i < end i
  pub parents : (i k : ℕ) → i < k → k < t.count → k < end i → (at t.parent k < no_place) × (i ≤ at t.parent k)
  -- and with a place its children, and their subtrees
  pub children : (k : ℕ) → k < t.count → at t.parent k < no_place → k < end (at t.parent k)
  pub nested : (i k : ℕ) → i ≤ k → k < t.count → k < end i → end k ≤ end i

-- of two places, the later one is in the subtree at the other
abbrev pub Related : (ℕ → ℕ) → ℕ → ℕ → Type 0
Related end i k = (i < end k) × (k < end i)

-- the trees span the first n vertices, and the ends of each listed edge are related
pub record DepthFirst (low high : List ℕ) (K : List Bool) (m n : ℕ) (t : Forest) : Type 0 where
  pub end : ℕ → ℕ
  pub trees : Trees low high K m t end
  pub few : t.count ≤ vertex_limit
  pub all : (v : ℕ) → v < n → at t.number v < t.count
  pub related : (e : ℕ) → e < m → kept K e ≡ true
      → Related end (at t.number (at low e)) (at t.number (at high e))
