-- Sending units from the sources to the sinks, along the trails that searches find.
use Rattle.std.specs.Prelude.{Bool, true, false, List, ◌≡◌, ℕ, ◌+◌, ◌-◌, ◌≤◌, ◌<◌, set}
use Rattle.base.specs.Fold.{bit}
use Rattle.graph.specs.Cut.{Side}
use Rattle.base.specs.Limits.{vertex_limit}
use Rattle.flow.specs.Apart.{Between}
use Rattle.base.specs.Columns.{at}
use Rattle.flow.specs.Arcs.{reverse, capacity, Balanced}
use Rattle.flow.specs.Search.{Tree}
use Rattle.flow.specs.declared.Pair.{Pair}
use Rattle.flow.specs.declared.search.Search.{Search}

-- the capacities once a unit has gone along arc p: it can carry one less, and its reverse one more
unfoldable pub pushed : List ℕ → ℕ → List ℕ
pushed residual p = set (set residual p (at residual p - 1)) (reverse p) (at residual (reverse p) + 1)

-- a unit can be sent to v: it is reached, and the trail leads back from it
pub record Sendable (ends residual : List ℕ) (s : Search) (v : ℕ) : Type 0 where
  pub vertex : v < vertex_limit
  pub is_reached : 1 ≤ at s.order v
  pub balanced : Balanced residual
  pub tree : Tree ends residual s

-- a unit was sent from a source to v: a side with the sources in can pass one unit less, unless v is in too
pub record Sent (ends order : List ℕ) (v : ℕ) (residual residual' : List ℕ) : Type 0 where
  pub balanced : Balanced residual'
  pub spent : (S : Side) → ((u : ℕ) → at order u ≡ 1 → S u ≡ true)
      → capacity ends residual' S + 1 ≡ capacity ends residual S + bit (S v)

-- one round: either a unit was sent, or a side between the terminals is found that nothing more can pass
pub record Rounded (ends : List ℕ) (sources sinks : Pair) (residual residual' : List ℕ) (sent : Bool) : Type 0 where
  pub balanced : Balanced residual'
  pub more : sent ≡ true → (S : Side) → Between sources sinks S
      → capacity ends residual' S + 1 ≡ capacity ends residual S
  pub full : sent ≡ false → (S : Side) × Between sources sinks S × (capacity ends residual S ≡ 0)
