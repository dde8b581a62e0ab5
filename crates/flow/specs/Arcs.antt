-- The arcs of a network and what they can still carry. Edge e has two arcs: arc e from
-- its low end to its high end, and arc e + edge_limit back. A list `ends` has the vertex
-- where each arc starts, and a list `residual` what each can still carry.
use Rattle.std.specs.Prelude.{Bool, true, false, cond, List, ◌≡◌, ℕ, ◌+◌, ◌*◌, ◌%◌, ◌≤◌, ◌<◌, eqb, length}
use Rattle.base.specs.Columns.{at}
use Rattle.base.specs.Fold.{sum}
use Rattle.graph.specs.Network.{low_end, high_end}
use Rattle.graph.specs.Cut.{Side}
use Rattle.base.specs.Limits.{edge_limit}
use Rattle.graph.specs.declared.Network.{Network}

-- how many arcs there are at most
abbrev pub arc_limit : ℕ
arc_limit = 2 * edge_limit

-- the arc of the same edge that runs the other way
abbrev pub reverse : ℕ → ℕ
reverse p = (p + edge_limit) % arc_limit

-- where an arc starts, and where it ends
abbrev pub tail : List ℕ → ℕ → ℕ
tail ends p = at ends p

abbrev pub head : List ℕ → ℕ → ℕ
head ends p = at ends (reverse p)

-- `ends` has the ends of a network's first edges; past them it has loops, which cross nothing
pub record LaidTo (g : Network) (count : ℕ) (ends : List ℕ) : Type 0 where
  pub long : length ends ≡ arc_limit
  pub room : count ≤ edge_limit
  pub low : (e : ℕ) → e < count → at ends e ≡ low_end g e
  pub high : (e : ℕ) → e < count → at ends (e + edge_limit) ≡ high_end g e
  pub spare : (e : ℕ) → count ≤ e → e < edge_limit → at ends e ≡ at ends (e + edge_limit)

-- .. of all its edges
abbrev pub Laid : Network → List ℕ → Type 0
Laid g ends = LaidTo g g.edges ends

-- what an arc of a capacity carries out of a part: all of it, if it starts inside and ends outside
unfoldable pub leaving : Bool → Bool → ℕ → ℕ
leaving true true c = 0
leaving true false c = c
leaving false outside c = 0

abbrev pub carried : List ℕ → Side → ℕ → ℕ → ℕ
carried ends S p c = leaving (S (tail ends p)) (S (head ends p)) c

-- what all arcs together can carry out of a side
unfoldable pub capacity : List ℕ → List ℕ → Side → ℕ
capacity ends residual S = sum arc_limit (λ p. carried ends S p (at residual p))

-- a capacity for each arc: the two arcs of an edge carry two units between them
pub record Balanced (residual : List ℕ) : Type 0 where
  pub long : length residual ≡ arc_limit
  pub paired : (p : ℕ) → p < arc_limit → at residual p + at residual (reverse p) ≡ 2

-- vertex u once what is at one vertex is moved to another
unfoldable pub moved : ℕ → ℕ → ℕ → ℕ
moved from to u = cond (eqb u from) to u

-- the ends of the first edges are moved so, and the others are as they were
pub record MovedTo (from to count : ℕ) (ends₀ ends : List ℕ) : Type 0 where
  pub size : length ends ≡ length ends₀
  pub low : (e : ℕ) → e < count → at ends e ≡ moved from to (at ends₀ e)
  pub high : (e : ℕ) → e < count → at ends (e + edge_limit) ≡ moved from to (at ends₀ (e + edge_limit))
  pub low_left : (e : ℕ) → count ≤ e → e < edge_limit → at ends e ≡ at ends₀ e
  pub high_left : (e : ℕ) → count ≤ e → e < edge_limit → at ends (e + edge_limit) ≡ at ends₀ (e + edge_limit)
