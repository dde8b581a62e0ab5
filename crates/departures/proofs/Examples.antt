-- How the edges of document 01's districts leave: of T in the printed chain, of T where the ending drops edge 1, so that
-- x is kept, and of the four vertices with both their steps.
use mathlib.Core.Path.{◌≡◌, refl}
use mathlib.Core.Bool.{Bool, true, ◌&&◌}
use mathlib.Core.List.{List, [], ◌∷◌, map}
use Prim.Native.Nat.{ℕ}
use lib.IntN.{pos, negsuc}
use Rattle.base.specs.Fold.{tabulate}
use Rattle.graph.specs.Districts.{District, T, square, Numbers, every}
use Rattle.graph.specs.Split.{split, after}
use Rattle.graph.proofs.Examples.{network_of, step_of, same_numbers}
use Rattle.departures.specs.Departures.{keeps, departure_from, departure}

-- a chain over a district, and the rule and the step of each edge
record Row : Type 0 where
  district : District
  steps : List Numbers
  dropped : ℕ
  rules : List ℕ
  numbers : List ℕ

table : List Row
table =
    record {
      district = T;
      steps = (1, 4, 5, 1, negsuc 1) ∷ [];
      dropped = 3;
      rules = 0 ∷ 4 ∷ 4 ∷ 5 ∷ 3 ∷ 1 ∷ [];
      numbers = 0 ∷ 0 ∷ 0 ∷ 0 ∷ 1 ∷ 1 ∷ [];
    }
    ∷ record {
      district = T;
      steps = (1, 4, 5, 1, negsuc 1) ∷ [];
      dropped = 1;
      rules = 0 ∷ 5 ∷ 4 ∷ 4 ∷ 2 ∷ 1 ∷ [];
      numbers = 0 ∷ 0 ∷ 0 ∷ 0 ∷ 1 ∷ 1 ∷ [];
    }
    ∷ record {
      district = square;
      steps = (2, 3, 2, 7, negsuc 1) ∷ (3, 5, 7, 6, pos 3) ∷ [];
      dropped = 1;
      rules = 4 ∷ 5 ∷ 1 ∷ 3 ∷ 0 ∷ 3 ∷ 4 ∷ 1 ∷ [];
      numbers = 0 ∷ 0 ∷ 1 ∷ 1 ∷ 0 ∷ 2 ∷ 0 ∷ 2 ∷ [];
    }
    ∷ []

holds : Row → Bool
holds r =
    let g = network_of r.district in
    let how = departure g (map step_of r.steps) r.dropped in
    same_numbers (tabulate g.edges (λ e. (how e).rule)) r.rules
    && same_numbers (tabulate g.edges (λ e. (how e).step)) r.numbers

examples : every holds table ≡ true
unfolding every holds table network_of step_of same_numbers tabulate split after keeps departure_from
examples = refl
