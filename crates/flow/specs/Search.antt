-- A search along arcs that can still carry something. `order` numbers the vertices as
-- they are reached, the sources by 1 and the others from 2 on, and has 0 for a vertex
-- that is not reached; `trail` has the arc by which each number was reached.
use Rattle.std.specs.Prelude.{Bool, true, false, List, ◌⊎◌, ◌≡◌, ℕ, zero, suc, ◌+◌, ◌≤◌, ◌<◌, length, Option, Some, None}
use Rattle.base.specs.Fold.{sum, bit}
use Rattle.graph.specs.Cut.{Side}
use Rattle.base.specs.Limits.{vertex_limit}
use Rattle.base.specs.Columns.{at}
use Rattle.flow.specs.Arcs.{arc_limit, tail, head}
use Rattle.flow.specs.declared.Pair.{Pair}
use Rattle.flow.specs.declared.search.Search.{Search}

abbrev pub positive : ℕ → Bool
positive zero = false
positive (suc n) = true

-- the vertices that are reached, and how many they are
abbrev pub reached : List ℕ → Side
reached order v = positive (at order v)

unfoldable pub reached_count : List ℕ → ℕ
reached_count order = sum vertex_limit (λ v. bit (reached order v))

-- arc p can carry something to v from a vertex that was reached before v
pub record Link (ends residual order : List ℕ) (p v : ℕ) : Type 0 where
  pub arc : p < arc_limit
  pub arrives : head ends p ≡ v
  pub from : 1 ≤ at order (tail ends p)
  pub earlier : at order (tail ends p) < at order v
  pub carries : 1 ≤ at residual p

-- what a search has found so far: `clock` is the last number given, and the
-- trail leads back to a source from every vertex that is reached
pub record Tree (ends residual : List ℕ) (s : Search) : Type 0 where
  pub long_order : length s.order ≡ vertex_limit
  pub long_trail : length s.trail ≡ vertex_limit + 1
  pub begun : 1 ≤ s.clock
  pub counted : s.clock ≤ reached_count s.order
  pub numbered : (v : ℕ) → at s.order v ≤ s.clock
  pub link : (v : ℕ) → 2 ≤ at s.order v → Link ends residual s.order (at s.trail (at s.order v)) v

-- a search goes on: what was reached stays so, no source is added, and while the clock stands still nothing changes
pub record Grown (ends residual : List ℕ) (s s' : Search) : Type 0 where
  pub tree : Tree ends residual s'
  pub rises : s.clock ≤ s'.clock
  pub still : s'.clock ≡ s.clock → s'.order ≡ s.order
  pub kept : (v : ℕ) → 1 ≤ at s.order v → 1 ≤ at s'.order v
  pub root : (v : ℕ) → at s'.order v ≡ 1 → at s.order v ≡ 1

-- arc p leads from no vertex that is reached to one that is not
abbrev pub Shut : List ℕ → List ℕ → List ℕ → ℕ → Type 0
Shut ends residual order p = 1 ≤ at residual p → 1 ≤ at order (tail ends p) → 1 ≤ at order (head ends p)

-- arc p was tried
pub record Relaxed (ends residual : List ℕ) (p : ℕ) (s s' : Search) : Type 0 where
  pub grown : Grown ends residual s s'
  pub shut : Shut ends residual s'.order p

-- the arcs below m were tried in turn: where the clock stands still, none of them leads on
pub record Swept (ends residual : List ℕ) (m : ℕ) (s s' : Search) : Type 0 where
  pub grown : Grown ends residual s s'
  pub shut : s'.clock ≡ s.clock → (p : ℕ) → p < m → Shut ends residual s'.order p

-- no sink is reached, and no arc leads on
pub record Stuck (ends residual : List ℕ) (sinks : Pair) (order : List ℕ) : Type 0 where
  pub first_missed : at order sinks.first ≡ 0
  pub second_missed : at order sinks.second ≡ 0
  pub shut : (p : ℕ) → p < arc_limit → Shut ends residual order p

-- v is a sink, and is reached
pub record Arrived (sinks : Pair) (order : List ℕ) (v : ℕ) : Type 0 where
  pub vertex : v < vertex_limit
  pub is_reached : 1 ≤ at order v
  pub is_sink : (v ≡ sinks.first) ⊎ (v ≡ sinks.second)

-- how a search ends
unfoldable pub Ends : List ℕ → List ℕ → Pair → List ℕ → Option ℕ → Type 0
Ends ends residual sinks order (Some v) = Arrived sinks order v
Ends ends residual sinks order None = Stuck ends residual sinks order

pub record Searched (ends residual : List ℕ) (sinks : Pair) (s s' : Search) (found : Option ℕ) : Type 0 where
  pub grown : Grown ends residual s s'
  pub ending : Ends ends residual sinks s'.order found
