-- Document 01's district examples over meanings.
use mathlib.Core.Path.{◌≡◌, refl}
use mathlib.Core.Bool.{Bool, true, false, ◌&&◌}
use mathlib.Core.List.{List, [], ◌∷◌, map}
use Prim.Native.Nat.{ℕ}
use lib.Dec.{eqb}
use lib.IntN.{ℤ}
use lib.ListN.{length, replicate}
use Rattle.base.specs.Answer.{Answer, answer, refused, unless}
use Rattle.base.specs.Fold.{fold, pick, only, among, tabulate}
use Rattle.graph.specs.Network.{same_cost, ends_at, degree, touches, far, cost_over, kept_cost, all_but_reserved}
use Rattle.graph.specs.Network.{kept}
use Rattle.graph.specs.Cut.{differ, crosses, crossings_of, every_side, somewhere, crossed_by, every_cut_of, four_each}
use Rattle.graph.specs.Cut.{network_refusal}
use Rattle.graph.specs.Split.{is_partner, partners, split, split_with, admissible, third, after}
use Rattle.graph.specs.Chain.{step_refusal, last_edges, dearest, end_refusal, marks, end_kept, lift, lifted, check}
use Rattle.graph.specs.Plan.{chosen_vertex, ordered, chosen_pair, chosen_step, dearest_of, chosen_drop, plan_steps}
use Rattle.graph.specs.Plan.{plan_drop}
use Rattle.graph.specs.Districts.{District, T, Numbers, Case, plans, breaks, refuses, table, unmarked, every}
use Rattle.graph.specs.declared.Network.{Network}
use Rattle.graph.specs.declared.Step.{Step}
use Rattle.base.proofs.Bools.{and_left, and_right}

-- a district as a network whose vertices are all present
unfoldable pub network_of : District → Network
network_of d =
    record {
      low = map (λ e. e.0) d.ends;
      high = map (λ e. e.1) d.ends;
      cost = d.costs;
      present = replicate d.vertices true;
      reserved = d.reserved;
      edges = length d.ends;
      vertices = d.vertices;
      remaining = d.vertices;
    }

unfoldable pub step_of : Numbers → Step
step_of t = record { v = t.0; x = t.1; y = t.2; z = t.3; cost = t.4 }

unfoldable pub same_numbers : List ℕ → List ℕ → Bool
same_numbers [] [] = true
same_numbers [] (j ∷ js) = false
same_numbers (i ∷ is) [] = false
same_numbers (i ∷ is) (j ∷ js) = eqb i j && same_numbers is js

unfoldable pub same_steps : List Step → List Step → Bool
same_steps [] [] = true
same_steps [] (s ∷ ss) = false
same_steps (t ∷ ts) [] = false
same_steps (t ∷ ts) (s ∷ ss) =
    eqb t.v s.v && eqb t.x s.x && eqb t.y s.y && eqb t.z s.z && same_cost t.cost s.cost
    && same_steps ts ss

unfoldable pub keeps_just : Network → List ℕ → ℤ → ℤ → Answer (List Bool) → Bool
keeps_just g is c a (refused k) = false
keeps_just g is c a (answer K) =
    same_numbers (pick (length K) 0 (kept K)) is && same_cost (kept_cost g K) c && same_cost (all_but_reserved g) a

unfoldable pub refused_by : ℕ → Answer (List Bool) → Bool
refused_by k (refused j) = eqb k j
refused_by k (answer K) = false

unfoldable pub holds : Case → Bool
holds (plans p ts d is c a) =
    let g = network_of p in
    let n = length ts in
    eqb (network_refusal g) 0 && same_steps (plan_steps n g) (map step_of ts) && eqb (plan_drop n g) d
    && keeps_just g is c a (check g (plan_steps n g) (plan_drop n g))
holds (breaks t d k) = refused_by k (check (network_of T) (step_of t ∷ []) d)
holds (refuses p k) = eqb (network_refusal (network_of p)) k

-- each row of the table of marked examples
pub examples : every holds table ≡ true
unfolding every network_of step_of same_numbers same_cost same_steps keeps_just refused_by holds fold pick only among tabulate
    ends_at degree touches far cost_over differ crosses crossings_of every_side somewhere crossed_by every_cut_of four_each
    network_refusal is_partner partners split split_with admissible third after step_refusal last_edges dearest end_refusal
    marks end_kept lift lifted unless check chosen_vertex ordered chosen_pair chosen_step dearest_of chosen_drop plan_steps
    plan_drop
examples = refl

-- y is tested as x is, and z and its cost are tested behind them
pub all_tested : every holds unmarked ≡ true
unfolding every network_of step_of same_cost refused_by holds fold pick only among touches far differ crosses crossings_of
    every_side somewhere crossed_by every_cut_of is_partner partners split split_with admissible third step_refusal lifted
    unless check
all_tested = refl

-- two tests that hold of every row hold of it together
pub every-both : {A : Type 0} (p q : A → Bool) (rows : List A) → every p rows ≡ true → every q rows ≡ true
    → every (λ r. p r && q r) rows ≡ true
unfolding every
every-both p q [] h k = refl
every-both p q (r ∷ rows) h k =
    let later = every-both p q rows (and_right (p r) (every p rows) h) (and_right (q r) (every q rows) k) in
    rw (and_left (p r) (every p rows) h, and_left (q r) (every q rows) k, later)
