-- A search over ports that can still carry something. `order` numbers the vertices as they are reached, the roots by 1
-- and the others from 2 on, and has 0 for a vertex that is not reached; `trail` has for each number from 2 on the port by
-- which its vertex was reached. A search goes the way that units go, from sources, or back the way that they come, from
-- sinks.
use Rattle.std.specs.Prelude.{Bool, true, false, List, ◌≢◌, ◌⊎◌, ◌≡◌, ℕ, zero, suc, ◌+◌, ◌≤◌, ◌<◌, length}
use Rattle.base.specs.Columns.{at}
use Rattle.base.specs.Fold.{sum, bit}
use Rattle.base.specs.Limits.{vertex_limit}
use Rattle.graph.specs.Cut.{Side}
use Rattle.ports.specs.Ports.{port_limit, vertex_of, far_vertex, Mated}
use Rattle.flow.specs.Capacity.{Balanced}
use Rattle.flow.specs.declared.reach.Reach.{Reach}
use Rattle.std.specs.declared.ops.ControlFlow.{ControlFlow}
use Rattle.std.specs.declared.ops.ControlFlow.TheVariants.{Continue, Break}

abbrev pub positive : ℕ → Bool
positive zero = false
positive (suc n) = true

-- the vertices that are reached, and how many they are
abbrev pub reached : List ℕ → Side
reached order v = positive (at order v)

unfoldable pub reached_count : List ℕ → ℕ
reached_count order = sum vertex_limit (λ v. bit (reached order v))

-- the port by which a unit leaves where the search passes port p: p, or its mate where the search goes back
abbrev pub gate : List ℕ → Bool → ℕ → ℕ
gate mate false p = p
gate mate true p = at mate p

-- a vertex was reached by port p, which can carry something, from a vertex that was reached before it
pub record Link (mate residual : List ℕ) (back : Bool) (order : List ℕ) (p v : ℕ) : Type 0 where
  pub port : p < port_limit
  pub arrives : far_vertex mate p ≡ v
  pub from : 1 ≤ at order (vertex_of p)
  pub earlier : at order (vertex_of p) < at order v
  pub carries : 1 ≤ at residual (gate mate back p)

-- what a search has found so far: `clock` is the last number given, and the trail leads back to a root from every vertex
-- that is reached
pub record Tree (mate residual : List ℕ) (s : Reach) : Type 0 where
  pub mated : Mated mate
  pub balanced : Balanced mate residual
  pub long_order : length s.order ≡ vertex_limit
  pub long_trail : length s.trail ≡ vertex_limit + 1
  pub begun : 1 ≤ s.clock
  pub counted : s.clock ≤ reached_count s.order
  pub numbered : (v : ℕ) → at s.order v ≤ s.clock
  pub named : (k : ℕ) → 2 ≤ k → k ≤ s.clock
      → (at s.trail k < port_limit) × (at s.order (far_vertex mate (at s.trail k)) ≡ k)
  pub link : (v : ℕ) → 2 ≤ at s.order v → Link mate residual s.back s.order (at s.trail (at s.order v)) v

-- a search goes on, the same way: numbers that were given stay, and no root is added
pub record Grown (mate residual : List ℕ) (s s' : Reach) : Type 0 where
  pub tree : Tree mate residual s'
  pub way : s'.back ≡ s.back
  pub rises : s.clock ≤ s'.clock
  pub kept : (v : ℕ) → 1 ≤ at s.order v → at s'.order v ≡ at s.order v
  pub root : (v : ℕ) → at s'.order v ≡ 1 → at s.order v ≡ 1
  pub stays : (k : ℕ) → k ≤ s.clock → at s'.trail k ≡ at s.trail k

-- port p leads to no vertex that is not reached
abbrev pub Shut : List ℕ → List ℕ → Reach → ℕ → Type 0
Shut mate residual s p = 1 ≤ at residual (gate mate s.back p) → 1 ≤ at s.order (far_vertex mate p)

-- no vertex is reached by two searches
abbrev pub Apart : List ℕ → List ℕ → Type 0
Apart order other = (v : ℕ) → (at order v ≡ 0) ⊎ (at other v ≡ 0)

-- ports were tried, those of which `Tried` holds, and no vertex was reached that another search has reached
pub record WentOn (mate residual : List ℕ) (Tried : ℕ → Type 0) (s : Reach) (other : List ℕ)
    (s' : Reach) : Type 0 where
  pub grown : Grown mate residual s s'
  pub shut : (p : ℕ) → p < port_limit → Tried p → Shut mate residual s' p
  pub apart : Apart s'.order other

-- a vertex was reached that another search has reached, and no other such
pub record Encounter (mate residual : List ℕ) (s : Reach) (other : List ℕ) (s' : Reach)
    (m : ℕ) : Type 0 where
  pub grown : Grown mate residual s s'
  pub vertex : m < vertex_limit
  pub reaches : 1 ≤ at s'.order m
  pub reached_before : 1 ≤ at other m
  pub only : (v : ℕ) → v ≢ m → (at s'.order v ≡ 0) ⊎ (at other v ≡ 0)

-- what trying ports comes to: it goes on, or breaks off where searches meet
unfoldable pub Comes : List ℕ → List ℕ → (ℕ → Type 0) → Reach → List ℕ → Reach
    → ControlFlow ℕ (Unit {0}) → Type 0
Comes mate residual Tried s other s' (Continue _) = WentOn mate residual Tried s other s'
Comes mate residual Tried s other s' (Break m) = Encounter mate residual s other s' m
