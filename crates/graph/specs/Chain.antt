-- Chains: steps and the ending by rule, going back, and the check of a whole chain.
use Rattle.std.specs.Prelude.{Bool, true, false, not, cond, ◌&&◌, List, [], ◌∷◌, ◌⊎◌, ◌≢◌, ◌≡◌, ℕ, ◌<◌, eqb, ltb, length, get_or, set, ◌-ℤ◌, ◌≤ℤ◌}
use Rattle.std.specs.Int.Signed.{le_z, lt_z}
use Rattle.base.specs.Answer.{Answer, refused, answer, unless}
use Rattle.base.specs.Refusals.{FORM, NO_END, NO_PARTNER, NOT_ADMISSIBLE, CHEAPER, NOT_DEAREST, NOT_GIVEN}
use Rattle.base.specs.Limits.{fewest_vertices}
use Rattle.base.specs.Fold.{pick, among, tabulate}
use Rattle.graph.specs.Network.{low_end, high_end, cost_of, same_cost, here, touches}
use Rattle.graph.specs.Split.{partners, Admissible, admissible, step_given, after}
use Rattle.graph.specs.declared.Network.{Network}
use Rattle.graph.specs.declared.Step.{Step}

-- ── the check, which computes ──

-- the refusal of a step, 0 for none: 8 where v is no end of the reserved edge, 9 where x or y is no
-- partner or they are one, 10 where one of them is not admissible, 11 where x costs less than y,
-- 17 where z or its cost is not what the step gives
unfoldable pub step_refusal : Network → Step → ℕ
step_refusal g t =
    let ps = partners g t.v in
    let due = step_given g t.v t.x t.y in
    let seventeen : ℕ = cond (eqb t.z due.z && same_cost t.cost due.cost) 0 NOT_GIVEN in
    let eleven : ℕ = cond (lt_z (cost_of g t.x) (cost_of g t.y)) CHEAPER seventeen in
    let ten : ℕ = cond (admissible g t.v t.x && admissible g t.v t.y) eleven NOT_ADMISSIBLE in
    let nine : ℕ = cond (among t.x ps && among t.y ps && not (eqb t.x t.y)) ten NO_PARTNER in
    cond (touches g t.v g.reserved) nine NO_END

-- the edges that are neither retired nor reserved; with two vertices left, the last three
unfoldable pub last_edges : Network → List ℕ
last_edges g = pick g.edges 0 (λ e. here g (low_end g e) && not (eqb e g.reserved))

-- no edge of a list costs more than e
unfoldable pub dearest : Network → ℕ → List ℕ → Bool
dearest g e [] = true
dearest g e (i ∷ is) = le_z (cost_of g i) (cost_of g e) && dearest g e is

-- the refusal of the ending, 0 for none: 12 where the dropped edge is none of the last three, or cheaper than another
unfoldable pub end_refusal : Network → ℕ → ℕ
end_refusal g d = cond (among d (last_edges g) && dearest g d (last_edges g)) 0 NOT_DEAREST

-- a mark for each place of the network's columns: whether that edge stands in a list
unfoldable pub marks : Network → List ℕ → List Bool
marks g is = tabulate (length g.low) (λ e. among e is)

-- the ending keeps the last three but the dropped one
unfoldable pub end_kept : Network → ℕ → List Bool
end_kept g d = set (marks g (last_edges g)) d false

-- going back through a step: y is kept, and x exactly if z is not
unfoldable pub lift : ℕ → ℕ → ℕ → List Bool → List Bool
lift x y z K = set (set K y true) x (not (get_or K z false))

-- the same of what the check of a chain finds: a refusal, or the kept set
unfoldable pub lifted : ℕ → ℕ → ℕ → Answer (List Bool) → Answer (List Bool)
lifted x y z (refused k) = refused k
lifted x y z (answer K) = answer (lift x y z K)

-- the check of a chain: its steps, and the edge that the ending drops. A step too many or too few is 1 at its place
unfoldable pub check : Network → List Step → ℕ → Answer (List Bool)
check g [] d =
    let ending = unless (end_refusal g d) (answer (end_kept g d)) in
    cond (eqb g.remaining fewest_vertices) ending (refused FORM)
check g (t ∷ ts) d =
    let later = lifted t.x t.y t.z (check (after g t) ts d) in
    cond (ltb fewest_vertices g.remaining) (unless (step_refusal g t) later) (refused FORM)

-- ── the rules, as a relation ──

-- edge p is a partner at v
pub record Partner (g : Network) (v p : ℕ) : Type 0 where
  pub number : p < g.edges
  pub at_v : (low_end g p ≡ v) ⊎ (high_end g p ≡ v)
  pub not_reserved : p ≢ g.reserved

-- a step by rule: two different admissible partners at an end of the reserved edge, the first
-- no cheaper than the second, and with them the third partner and what it costs after the step
pub record StepByRule (g : Network) (t : Step) : Type 0 where
  pub at_end : (low_end g g.reserved ≡ t.v) ⊎ (high_end g g.reserved ≡ t.v)
  pub x_partner : Partner g t.v t.x
  pub y_partner : Partner g t.v t.y
  pub different : t.x ≢ t.y
  pub x_admissible : Admissible g t.v t.x
  pub y_admissible : Admissible g t.v t.y
  pub no_cheaper : cost_of g t.y ≤ℤ cost_of g t.x
  pub z_partner : Partner g t.v t.z
  pub z_not_x : t.z ≢ t.x
  pub z_not_y : t.z ≢ t.y
  pub z_cost : t.cost ≡ cost_of g t.z -ℤ cost_of g t.x

-- one of the last three edges: it is neither retired nor reserved
pub record LastEdge (g : Network) (e : ℕ) : Type 0 where
  pub number : e < g.edges
  pub not_retired : here g (low_end g e) ≡ true
  pub not_reserved : e ≢ g.reserved

-- an ending by rule: it drops a dearest of the last three
pub record EndingByRule (g : Network) (d : ℕ) : Type 0 where
  pub one : LastEdge g d
  pub no_dearer : (e : ℕ) → LastEdge g e → cost_of g e ≤ℤ cost_of g d

-- a chain by the rules: each step on the network that the steps before it left, until two vertices are left
pub data ByRules : Network → List Step → ℕ → Type 0 where
  ending : {g : Network} {d : ℕ} → g.remaining ≡ 2 → EndingByRule g d → ByRules g [] d
  step : {g : Network} {t : Step} {ts : List Step} {d : ℕ}
      → 2 < g.remaining → StepByRule g t → ByRules (after g t) ts d → ByRules g (t ∷ ts) d

-- a run of steps by rule leads from one network to another
pub data Leads : Network → List Step → Network → Type 0 where
  stays : {g : Network} → Leads g [] g
  goes : {g h : Network} {t : Step} {ts : List Step} → 2 < g.remaining → StepByRule g t → Leads (after g t) ts h
      → Leads g (t ∷ ts) h
