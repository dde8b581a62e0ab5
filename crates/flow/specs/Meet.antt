-- Searches that visit the vertices in the order in which they are reached. The ports that lead to the roots stand in the
-- trail before the number 2: one at 1, or two at 0 and 1.
use Rattle.std.specs.Prelude.{Bool, List, ◌≢◌, ◌⊎◌, ◌≡◌, ℕ, ◌+◌, ◌*◌, ◌≤◌, ◌<◌, set, replicate, Option, Some, None}
use Rattle.base.specs.Columns.{at}
use Rattle.base.specs.Limits.{vertex_limit}
use Rattle.ports.specs.Ports.{ports_each, port_limit, vertex_of, far_vertex}
use Rattle.flow.specs.Reach.{Tree, Grown, Shut, Apart, Encounter}
use Rattle.flow.specs.declared.Pair.{Pair}
use Rattle.flow.specs.declared.reach.Reach.{Reach}

-- a search before it has roots: no vertex is reached, and the trail is what it was
abbrev pub unreached : Bool → List ℕ → Reach
unreached back trail = record { back = back; order = replicate vertex_limit 0; trail = trail; clock = 1 }

-- a vertex is made a root: its number is 1, and a port that leads to it stands in the trail
abbrev pub rooted : List ℕ → Reach → ℕ → ℕ → Reach
rooted mate s place v = record {
  back = s.back;
  order = set s.order v 1;
  trail = set s.trail place (at mate (ports_each * v));
  clock = s.clock;
}

-- two vertices are made roots, perhaps the same one
abbrev pub rooted_pair : List ℕ → Reach → Pair → Reach
rooted_pair mate s roots = rooted mate (rooted mate s 0 roots.first) 1 roots.second

-- the vertices of the numbers from `first` up to `next` were visited
pub record Searching (mate residual : List ℕ) (first : ℕ) (s : Reach) (next : ℕ) : Type 0 where
  pub tree : Tree mate residual s
  pub first-low : first ≤ 1
  pub begun : first ≤ next
  pub next-most : next ≤ vertex_limit + 1
  pub root-port : (k : ℕ) → first ≤ k → k ≤ 1 → at s.trail k < port_limit
  pub root-reached : (k : ℕ) → first ≤ k → k ≤ 1 → at s.order (far_vertex mate (at s.trail k)) ≡ 1
  pub root-found : (v : ℕ) → at s.order v ≡ 1 → (k : ℕ) × (first ≤ k) × (k ≤ 1) × (far_vertex mate (at s.trail k) ≡ v)
  pub visited : (k : ℕ) → first ≤ k → k < next
      → (p : ℕ) → p < port_limit → vertex_of p ≡ far_vertex mate (at s.trail k) → Shut mate residual s p

-- no port leads on from a vertex that is reached
abbrev pub Closed : List ℕ → List ℕ → Reach → Type 0
Closed mate residual s = (p : ℕ) → p < port_limit → 1 ≤ at s.order (vertex_of p) → Shut mate residual s p

-- one search, over, has met no vertex that is marked
pub record Over (mate residual : List ℕ) (s : Reach) (marks : List ℕ) (s' : Reach) : Type 0 where
  pub grown : Grown mate residual s s'
  pub apart : Apart s'.order marks
  pub closed : Closed mate residual s'

-- how a search ends that looks for a marked vertex
unfoldable pub Finds : List ℕ → List ℕ → Reach → List ℕ → Reach → Option ℕ → Type 0
Finds mate residual s marks s' (Some m) = Encounter mate residual s marks s' m
Finds mate residual s marks s' None = Over mate residual s marks s'

-- two searches, s from the sources and t back from the sinks, have met at one vertex
pub record Meeting (mate residual : List ℕ) (s t s' t' : Reach) (m : ℕ) : Type 0 where
  pub grown : Grown mate residual s s'
  pub grown_back : Grown mate residual t t'
  pub vertex : m < vertex_limit
  pub reaches : 1 ≤ at s'.order m
  pub reaches_back : 1 ≤ at t'.order m
  pub only : (v : ℕ) → v ≢ m → (at s'.order v ≡ 0) ⊎ (at t'.order v ≡ 0)

-- .. have not met, and one of them is over
pub record Parted (mate residual : List ℕ) (s t s' t' : Reach) : Type 0 where
  pub grown : Grown mate residual s s'
  pub grown_back : Grown mate residual t t'
  pub apart : Apart s'.order t'.order
  pub closed : Closed mate residual s' ⊎ Closed mate residual t'

unfoldable pub Meets : List ℕ → List ℕ → Reach → Reach → Reach → Reach → Option ℕ → Type 0
Meets mate residual s t s' t' (Some m) = Meeting mate residual s t s' t' m
Meets mate residual s t s' t' None = Parted mate residual s t s' t'
