-- The planner's choices, and the plan.
use Rattle.std.specs.Prelude.{Bool, cond, List, [], ◌∷◌, ℕ, zero, suc, max, get_or}
use Rattle.std.specs.Int.Signed.{le_z, lt_z}
use Rattle.base.specs.Fold.{only}
use Rattle.graph.specs.Network.{low_end, high_end, cost_of}
use Rattle.graph.specs.Split.{partners, admissible, step_given, after}
use Rattle.graph.specs.Chain.{last_edges, end_kept, lift}
use Rattle.graph.specs.declared.Network.{Network}
use Rattle.graph.specs.declared.Step.{Step}

-- v is the higher-numbered end of the reserved edge
unfoldable pub chosen_vertex : Network → ℕ
chosen_vertex g = max (low_end g g.reserved) (high_end g g.reserved)

-- of two partners the dearer is x, and of equal costs the lower number, which is the first
unfoldable pub ordered : Network → ℕ → ℕ → ℕ → Step
ordered g v i j = cond (lt_z (cost_of g i) (cost_of g j)) (step_given g v j i) (step_given g v i j)

-- the two lowest-numbered admissible partners at the chosen vertex, the lower number first
unfoldable pub chosen_pair : Network → ℕ × ℕ
chosen_pair g =
    let v = chosen_vertex g in
    let usable = only (admissible g v) (partners g v) in
    (get_or usable 0 0, get_or usable 1 0)

-- the step with these two, ordered by cost
unfoldable pub chosen_step : Network → Step
chosen_step g = ordered g (chosen_vertex g) (chosen_pair g).0 (chosen_pair g).1

-- the dearest of d and a list's edges; of equally dear ones the last
unfoldable pub dearest_of : Network → ℕ → List ℕ → ℕ
dearest_of g d [] = d
dearest_of g d (i ∷ is) = dearest_of g (cond (le_z (cost_of g d) (cost_of g i)) i d) is

-- the ending drops the highest number among the dearest
unfoldable pub chosen_drop : Network → ℕ
chosen_drop g = let is = last_edges g in dearest_of g (get_or is 0 0) is

-- the plan's chain: n steps, and the edge dropped after them
unfoldable pub plan_steps : ℕ → Network → List Step
plan_steps zero g = []
plan_steps (suc n) g = let t = chosen_step g in t ∷ plan_steps n (after g t)

unfoldable pub plan_drop : ℕ → Network → ℕ
plan_drop zero g = chosen_drop g
plan_drop (suc n) g = plan_drop n (after g (chosen_step g))

-- and the edges that it keeps
unfoldable pub plan_kept : ℕ → Network → List Bool
plan_kept zero g = end_kept g (chosen_drop g)
plan_kept (suc n) g = let t = chosen_step g in lift t.x t.y t.z (plan_kept n (after g t))
