-- Low points of a depth-first forest: how far up the edges lead that leave a subtree.
use Rattle.std.specs.Prelude.{Bool, true, cond, ◌&&◌, List, ◌≢◌, ◌≡◌, ℕ, ◌≤◌, ◌<◌, eqb, ltb, length, set}
use Rattle.base.specs.Limits.{vertex_limit}
use Rattle.graph.specs.Network.{kept}
use Rattle.base.specs.Columns.{at}
use Rattle.forest.specs.Forest.{no_place, DepthFirst}
use Rattle.forest.specs.declared.Forest.{Forest}

-- the places of an edge's ends: the earlier one, and the later one
unfoldable pub upper : List ℕ → List ℕ → List ℕ → ℕ → ℕ
upper low high number e =
    cond (ltb (at number (at low e)) (at number (at high e))) (at number (at low e)) (at number (at high e))

unfoldable pub lower : List ℕ → List ℕ → List ℕ → ℕ → ℕ
lower low high number e =
    cond (ltb (at number (at low e)) (at number (at high e))) (at number (at high e)) (at number (at low e))

-- the ends of edge e have places
pub record Placed (low high number : List ℕ) (e : ℕ) : Type 0 where
  pub low_room : e < length low
  pub high_room : e < length high
  pub long : length number ≡ vertex_limit
  pub low_placed : at number (at low e) < no_place
  pub high_placed : at number (at high e) < no_place

-- each place is its own point
pub record Own (points : List ℕ) : Type 0 where
  pub long : length points ≡ vertex_limit
  pub own : (i : ℕ) → i < vertex_limit → at points i ≡ i

-- the point of place i falls to p, if that is less
unfoldable pub fallen : List ℕ → ℕ → ℕ → List ℕ
fallen points i p = cond (ltb p (at points i)) (set points i p) points

-- an edge is noted at its later place, with the earlier one, unless it is the tree edge that leads there
unfoldable pub noted : List ℕ → List ℕ → List ℕ → List ℕ → List ℕ → ℕ → List ℕ
noted low high number edge points e =
    let k = lower low high number e in
    cond (eqb (at edge k) e) points (fallen points k (upper low high number e))

-- what is noted at a place is noted at its parent
unfoldable pub raised : List ℕ → List ℕ → ℕ → List ℕ
raised parent points k =
    let i = at parent k in
    cond (ltb i no_place) (fallen points i (at points k)) points

-- an edge is found to be a bridge: it leads to its later place, and no other one leads from the subtree there as far up
unfoldable pub found : List ℕ → List ℕ → List ℕ → List ℕ → List ℕ → ℕ → Bool
found low high number edge points e =
    let k = lower low high number e in
    eqb (at edge k) e && ltb (upper low high number e) (at points k)

-- a listed edge that leads to no place
pub record BackEdge (low high : List ℕ) (K : List Bool) (m : ℕ) (t : Forest) (e : ℕ) : Type 0 where
  pub number : e < m
  pub listed : kept K e ≡ true
  pub back : at t.edge (lower low high t.number e) ≢ e

-- a back edge comes from the subtree at place i
pub record From (low high : List ℕ) (K : List Bool) (m n : ℕ) (t : Forest) (f : DepthFirst low high K m n t) (i e : ℕ) :
    Type 0 where
  pub edge : BackEdge low high K m t e
  pub start : i ≤ lower low high t.number e
  pub inside : lower low high t.number e < f.end i

-- the points after the first `done` edges are noted and the places from `left` on are raised
pub record Points (low high : List ℕ) (K : List Bool) (m n : ℕ) (t : Forest) (f : DepthFirst low high K m n t)
    (done left : ℕ) (points : List ℕ) : Type 0 where
  pub long : length points ≡ vertex_limit
  pub own : (i : ℕ) → i < vertex_limit → at points i ≤ i
  -- a point is the earlier place of an edge from the subtree
  pub real : (i : ℕ) → i < t.count → at points i < i
      → (e : ℕ) × From low high K m n t f i e × (upper low high t.number e ≡ at points i)
  pub reaches : (e : ℕ) → e < done → BackEdge low high K m t e
      → at points (lower low high t.number e) ≤ upper low high t.number e
  pub passes_up : (k e : ℕ) → left ≤ k → k < t.count → at t.parent k < no_place → From low high K m n t f k e
      → at points (at t.parent k) ≤ upper low high t.number e

-- the points of each depth-first forest with these columns, after the first `done` edges are noted
abbrev pub Noted : List ℕ → List ℕ → List Bool → ℕ → List ℕ → List ℕ → ℕ → List ℕ → Type 0
Noted low high K m number edge done points =
    (n : ℕ) (t : Forest) (f : DepthFirst low high K m n t) → t.number ≡ number → t.edge ≡ edge
    → Points low high K m n t f done t.count points

-- the points of each depth-first forest with these parents and so many places, once those from `left` on are raised
abbrev pub Raised : List ℕ → ℕ → List ℕ → ℕ → List ℕ → Type 0
Raised parent count points left points' =
    (low high : List ℕ) (K : List Bool) (m n : ℕ) (t : Forest) (f : DepthFirst low high K m n t)
    → t.parent ≡ parent → t.count ≡ count → ((e : ℕ) → e < m → (at low e < n) × (at high e < n))
    → Points low high K m n t f m t.count points → Points low high K m n t f m left points'
