-- The edges that an ending keeps, and the planner's ending.
use Rattle.std.specs.Prelude.{Bool, List, [], ◌∷◌, ℕ, get_or}
use Rattle.base.specs.Fold.{without, among, tabulate}
use Rattle.graph.specs.Chain.{last_edges}
use Rattle.graph.specs.Plan.{chosen_drop}
use Rattle.base.specs.Limits.{edge_limit}
use Rattle.graph.specs.declared.Network.{Network}
use Rattle.rules.specs.declared.ending.Drop.{Drop}

-- the edges of the last three that are not d
abbrev pub kept_with : Network → ℕ → List ℕ
kept_with g d = without d (last_edges g)

-- dropping d, with the two edges that are kept
abbrev pub dropping : ℕ → List ℕ → Drop
dropping d is = record { dropped = d; low = get_or is 0 0; high = get_or is 1 0 }

unfoldable pub chosen_ending : Network → Drop
chosen_ending g = dropping (chosen_drop g) (kept_with g (chosen_drop g))

-- marks of two edges
abbrev pub two_marked : ℕ → ℕ → List Bool
two_marked low high = tabulate edge_limit (λ e. among e (low ∷ high ∷ []))
