-- The search for the vertices that listed edges join to a start vertex. What is looked for is said of columns of ends, the
-- marks of the listed edges and the number of edges, each by itself; how, of the same put together (`Edges`). Neither
-- knows a network.
use Rattle.std.specs.Prelude.{Bool, true, cond, List, ◌≡◌, ℕ, zero, suc, ◌<◌, ltb, get_or}
use Rattle.graph.specs.Network.{kept}
use Rattle.graph.specs.Cut.{Side}
use Rattle.base.specs.Limits.{vertex_limit}
use Rattle.connection.specs.Words.{has, empty, added, removed, lowest}
use Rattle.connection.specs.declared.edges.Edges.{Edges}
use Rattle.connection.specs.declared.words.VertexSet.{VertexSet}
use Rattle.connection.specs.declared.search.Search.{Search}

-- ── what is looked for ──

-- no listed edge leaves the set
abbrev pub Closed : List ℕ → List ℕ → List Bool → ℕ → Side → Type 0
Closed low high K m S = (e : ℕ) → e < m → kept K e ≡ true → S (get_or low e 0) ≡ S (get_or high e 0)

-- the least such set that holds the start vertex
pub record Least (low high : List ℕ) (K : List Bool) (m start : ℕ) (S : Side) : Type 0 where
  pub holds_start : S start ≡ true
  pub closed : Closed low high K m S
  pub inside : (T : Side) → T start ≡ true → Closed low high K m T → (v : ℕ) → S v ≡ true → T v ≡ true

-- ── how ──

-- a search by the vertices reached so far, and those of them that still wait for their visit
abbrev pub state : VertexSet → VertexSet → Search
state R W = record { reached = R; waiting = W }

-- a vertex is reached, and waits for its visit
unfoldable pub entered : Search → ℕ → Search
entered s v = state (added s.reached v) (added s.waiting v)

-- the search at its beginning: the start vertex is reached, and waits
unfoldable pub begun : ℕ → Search
begun start = entered (state empty empty) start

-- a waiting vertex has its visit
unfoldable pub taken : Search → ℕ → Search
taken s v = state s.reached (removed s.waiting v)

-- an edge between a and b is followed: what reaches one end reaches the other
unfoldable pub followed : Search → ℕ → ℕ → Search
followed s a b =
    cond (has s.reached a) (cond (has s.reached b) s (entered s b)) (cond (has s.reached b) (entered s a) s)

-- an edge is passed: it is followed if it is listed
unfoldable pub passed : Edges → Search → ℕ → Search
passed E s e = cond (kept E.listed.now e) (followed s (get_or E.low.now e 0) (get_or E.high.now e 0)) s

-- the first m edges are passed in turn, the last first
unfoldable pub swept : Edges → ℕ → Search → Search
swept E zero s = s
swept E (suc m) s = swept E m (passed E s m)

-- where nothing waits, all edges are passed once more
unfoldable pub settled : Edges → Search → Search
settled E s = let more = swept E E.count s in cond (ltb (lowest s.waiting.words) vertex_limit) s more

-- some of the edges are passed, in any order and any number of times
pub data Passes (E : Edges) (s : Search) : Search → Type 0 where
  none : Passes E s s
  more : {t : Search} {e : ℕ} → Passes E s t → e < E.count → Passes E s (passed E t e)
