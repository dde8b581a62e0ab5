-- The chosen pair of partners with the third, and the step with them.
use Rattle.std.specs.Prelude.{cond, ℕ}
use Rattle.std.specs.Int.Signed.{lt_z}
use Rattle.graph.specs.Network.{cost_of}
use Rattle.graph.specs.Split.{third, step_with}
use Rattle.graph.specs.Plan.{chosen_vertex}
use Rattle.graph.specs.declared.Network.{Network}
use Rattle.graph.specs.declared.Step.{Step}
use Rattle.rules.specs.declared.choice.Pair.{Pair}

-- a pair of partners at the chosen vertex, with the partner that is not of it
abbrev pub pair_of : Network → ℕ × ℕ → Pair
pair_of g p =
    let v = chosen_vertex g in
    record { v = v; low = p.0; high = p.1; z = third g v p.0 p.1 }

-- the step with two partners, ordered by cost, and the third
abbrev pub ordered_with : Network → ℕ → ℕ → ℕ → ℕ → Step
ordered_with g v i j z = cond (lt_z (cost_of g i) (cost_of g j)) (step_with g v j i z) (step_with g v i j z)
