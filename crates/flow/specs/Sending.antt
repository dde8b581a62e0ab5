-- Sending units along the trails that searches find.
use Rattle.std.specs.Prelude.{Bool, true, false, List, ◌≢◌, ◌≡◌, ℕ, ◌+◌, ◌≤◌, ◌<◌, replicate}
use Rattle.base.specs.Columns.{at}
use Rattle.base.specs.Fold.{bit}
use Rattle.base.specs.Limits.{vertex_limit}
use Rattle.graph.specs.Cut.{Side}
use Rattle.ports.specs.Ports.{port_limit, vertex_of, far_vertex}
use Rattle.flow.specs.Capacity.{capacity, Balanced}
use Rattle.flow.specs.Reach.{Tree}
use Rattle.flow.specs.declared.Pair.{Pair}
use Rattle.flow.specs.declared.reach.Reach.{Reach}

-- a unit went from one vertex to another: a side can pass one unit less if it has the first in and the second out. This
-- is said of all sides at once, so nothing need be said of conservation at a vertex
abbrev pub Passed : List ℕ → List ℕ → List ℕ → ℕ → ℕ → Type 0
Passed mate residual residual' from to =
    (S : Side) → capacity mate residual' S + bit (S from) ≡ capacity mate residual S + bit (S to)

-- a unit went from a root to vertex v, or from v to the root where the search goes back
abbrev pub Went : List ℕ → Bool → List ℕ → List ℕ → ℕ → ℕ → Type 0
Went mate false residual residual' root v = Passed mate residual residual' root v
Went mate true residual residual' root v = Passed mate residual residual' v root

-- the trail leads back from vertex v
pub record Sendable (mate residual : List ℕ) (s : Reach) (v : ℕ) : Type 0 where
  pub vertex : v < vertex_limit
  pub is_reached : 1 ≤ at s.order v
  pub tree : Tree mate residual s

-- a unit was sent between vertex v and a root, and only ports of vertices that are reached can carry less than before
pub record Sent (mate : List ℕ) (s : Reach) (v : ℕ) (residual residual' : List ℕ) : Type 0 where
  pub balanced : Balanced mate residual'
  pub root : ℕ
  pub is_root : at s.order root ≡ 1
  pub went : Went mate s.back residual residual' root v
  pub only : (p : ℕ) → p < port_limit → at residual' p < at residual p
      → (1 ≤ at s.order (vertex_of p)) × (1 ≤ at s.order (far_vertex mate p))

-- a side with both sources in and both sinks out
pub record Between (sources sinks : Pair) (S : Side) : Type 0 where
  pub first_in : S sources.first ≡ true
  pub second_in : S sources.second ≡ true
  pub first_out : S sinks.first ≡ false
  pub second_out : S sinks.second ≡ false

-- no source is a sink
pub record Distinct (sources sinks : Pair) : Type 0 where
  pub first_first : sources.first ≢ sinks.first
  pub first_second : sources.first ≢ sinks.second
  pub second_first : sources.second ≢ sinks.first
  pub second_second : sources.second ≢ sinks.second

-- a side with a vertex in and all marked ones out
pub record Leaving (source : ℕ) (marks : List ℕ) (S : Side) : Type 0 where
  pub source_in : S source ≡ true
  pub marks_out : (v : ℕ) → 1 ≤ at marks v → S v ≡ false

-- one round, for the sides that the terminals divide: either a unit was sent, or such a side can pass nothing more
pub record Rounded (mate : List ℕ) (Divides : Side → Type 0) (residual residual' : List ℕ) (sent : Bool) : Type 0 where
  pub balanced : Balanced mate residual'
  pub more : sent ≡ true → (S : Side) → Divides S → capacity mate residual' S + 1 ≡ capacity mate residual S
  pub full : sent ≡ false → (S : Side) × Divides S × (capacity mate residual S ≡ 0)

-- every such side can pass three units
abbrev pub PassThree : List ℕ → (Side → Type 0) → List ℕ → Type 0
PassThree mate Divides residual = (S : Side) → Divides S → 3 ≤ capacity mate residual S

-- every port can carry one unit
abbrev pub ones : List ℕ
ones = replicate port_limit 1
