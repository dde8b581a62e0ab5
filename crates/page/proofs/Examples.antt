-- Pages, computed: the plan of document 01's printed network, no edges, and costs whose sum is negative.
use mathlib.Core.Path.{◌≡◌, refl}
use mathlib.Core.List.{List, [], ◌∷◌, ◌++◌}
use Prim.Native.Nat.{ℕ}
use lib.IntN.{pos, negsuc}
use lib.ListN.{replicate}
use Rattle.base.specs.Fold.{fold, tabulate}
use Rattle.decimal.specs.BaseTen.{digits_then, digits, in_base_ten, aligned}
use Rattle.graph.specs.Districts.{District, T}
use Rattle.graph.proofs.Examples.{network_of}
use Rattle.page.specs.Page.{edge_line, edge_lines, sum_line, cost_sum, page_of}

-- so many spaces, a character, and then rest
abbrev behind : ℕ → ℕ → List ℕ → List ℕ
behind spaces c rest = replicate spaces 32 ++ (c ∷ rest)

-- the plan keeps edges 1, 2 and 5, at 4, 1 and 3
plan-printed : page_of (network_of T) (1 ∷ 2 ∷ 5 ∷ [])
    ≡ behind 5 49 (behind 5 48 (behind 5 49 (behind 17 52 (10 ∷
    behind 5 50 (behind 5 48 (behind 5 50 (behind 17 49 (10 ∷
    behind 5 53 (behind 5 49 (behind 5 50 (behind 17 51 (10 ∷
    behind 35 56 (10 ∷ [])))))))))))))
unfolding page_of edge_lines edge_line sum_line cost_sum network_of fold tabulate aligned in_base_ten digits digits_then
plan-printed = refl

-- 35 spaces and 0
none-printed : page_of (network_of T) [] ≡ behind 35 48 (10 ∷ [])
unfolding page_of edge_lines sum_line cost_sum network_of fold tabulate aligned in_base_ten digits digits_then
none-printed = refl

-- costs -12 and 7
abbrev debts : District
debts =
    record { vertices = 2; reserved = 0; ends = replicate 4 (0, 1); costs = negsuc 11 ∷ pos 7 ∷ pos 0 ∷ pos 0 ∷ [] }

debts-printed : page_of (network_of debts) (0 ∷ 1 ∷ [])
    ≡ behind 5 48 (behind 5 48 (behind 5 49 (behind 15 45 (49 ∷ 50 ∷ 10 ∷
    behind 5 49 (behind 5 48 (behind 5 49 (behind 17 55 (10 ∷
    behind 34 45 (53 ∷ 10 ∷ [])))))))))
unfolding page_of edge_lines edge_line sum_line cost_sum network_of fold tabulate aligned in_base_ten digits digits_then
debts-printed = refl
