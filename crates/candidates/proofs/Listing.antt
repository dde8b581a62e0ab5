-- Candidates one after the other: whether all are edges, and the costs that are left to write.
use mathlib.Core.Path.{◌≡◌, refl, sym, ◌∙◌, ap}
use Rattle.std.specs.List.{list_all}
use mathlib.Core.Bool.{true, false, ◌&&◌}
use mathlib.Core.List.{List, [], ◌∷◌, ◌++◌}
use Prim.Native.Nat.{ℕ, zero, suc, ◌+◌, ◌*◌, ◌≤◌, ◌<◌}
use native.Mathlib.Omega.{arith}
use native.Mathlib.Decide.{dec_lt}
use native.Mathlib.Numerals.{add-one}
use lib.Dec.{ltb}
use lib.ListN.{length, take, drop, get_or, length-append, drop_of_length-le}
use lib.Seq.{drop_at, drop-cons, drop-drop, take_at}
use native.Mathlib.Nat.{zero-mul}
use borrow.Author.Tests.{ltb-true, lt-ltb}
use Rattle.base.specs.Columns.{at}
use Rattle.base.specs.Words.{AllBelow}
use Rattle.base.proofs.Bools.{never, and_left, and_right}
use Rattle.base.proofs.Writing.{Written}
use Rattle.frame.specs.Table.{COSTS, line_length}
use Rattle.graph.specs.declared.Network.{Network}
use Rattle.claim.specs.Condition.{reserving}
use Rattle.candidates.specs.Services.{plan_costs, candidates_costs, are_edges}
use Rattle.candidates.proofs.Reserving.{length-plan}

-- ── whether all are edges ──

pub edges-below : (n : ℕ) (rs : List ℕ) → are_edges n rs ≡ true → AllBelow n rs
unfolding are_edges
edges-below n [] h = tt
edges-below n (r ∷ rs) h =
    (ltb-true r n (and_left (ltb r n) (are_edges n rs) h), edges-below n rs (and_right (ltb r n) (are_edges n rs) h))

-- where not all are, one of them is none
pub edges-bad : (n : ℕ) (rs : List ℕ) → are_edges n rs ≡ false → (i : ℕ) × (i < length rs) × (n ≤ at rs i)
unfolding are_edges
edges-bad n [] h = never (sym h)
edges-bad n (r ∷ rs) h = elim (dec_lt r n) [
  | yes l ↦ let later = edges-bad n rs (rw (lt-ltb r n l) at h) in
      (suc later.0, omega (arith, later.1), later.2)
  | no l ↦ (zero, omega arith, omega arith)
]

-- the test of one after the other is that of the list
pub all-edges : (n : ℕ) (rs : List ℕ) → list_all (λ r. ltb r n) rs ≡ are_edges n rs
unfolding are_edges
all-edges n [] = refl
all-edges n (r ∷ rs) = ap (λ b. ltb r n && b) (all-edges n rs)

-- ── the costs of their plans ──
module _ (g : Network) (rs : List ℕ) (i : ℕ) where
  -- the line of the candidate at a place is left to write
  pub candidate-left : {whole old out : List ℕ} {at : ℕ} → Written whole (candidates_costs g (drop i rs)) old out at
      → i < length rs
      → Written whole (plan_costs (reserving (get_or rs i 0) g) ++ candidates_costs g (drop (i + 1) rs)) old out at
  unfolding candidates_costs
  candidate-left w h = rw (add-one) (rw (drop-cons rs i 0) at w)

  pub candidates-end : length rs ≤ i → length (candidates_costs g (drop i rs)) ≡ 0
  unfolding candidates_costs
  candidates-end h = rw (drop_of_length-le rs h)

pub length-candidates : (g : Network) (rs : List ℕ) → length (candidates_costs g rs) ≡ length rs * line_length COSTS
unfolding candidates_costs
length-candidates g [] = omega arith
length-candidates g (r ∷ rs) =
    length-append (plan_costs (reserving r g)) (candidates_costs g rs)
    ∙ omega (arith, length-plan (reserving r g), length-candidates g rs)

-- the i-th line is the i-th candidate's
pub line_at : (g : Network) (rs : List ℕ) (i : ℕ) → i < length rs
    → take (line_length COSTS) (drop (i * line_length COSTS) (candidates_costs g rs)) ≡ plan_costs (reserving (at rs i) g)
unfolding candidates_costs
line_at g [] i h = absurd (omega arith)
line_at g (r ∷ rs) zero h =
    let line = plan_costs (reserving r g) in
    rw zero-mul (take_at line (candidates_costs g rs) (line_length COSTS) (length-plan (reserving r g)))
line_at g (r ∷ rs) (suc i) h =
    let size = line_length COSTS in
    let line = plan_costs (reserving r g) in
    let whole = line ++ candidates_costs g rs in
    let place : suc i * size ≡ size + i * size = omega arith in
    ap (λ n. take size (drop n whole)) place
    ∙ ap (take size) (sym (drop-drop (i * size) size whole))
    ∙ ap (λ xs. take size (drop (i * size) xs)) (drop_at line (candidates_costs g rs) size (length-plan (reserving r g)))
    ∙ line_at g rs i (omega arith)
