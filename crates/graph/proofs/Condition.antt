-- Condition 3 over meanings, for every accepted network; and the bound of the working costs over a whole chain.
use mathlib.Core.Path.{◌≡◌, refl, sym, ◌∙◌, ap}
use mathlib.Core.Logic.{inl}
use mathlib.Core.Bool.{Bool, true, false, cond}
use mathlib.Core.List.{List, ◌∷◌}
use Prim.Native.Nat.{ℕ, zero, suc, ◌+◌, ◌-◌, ◌≤◌, ◌<◌}
use native.Mathlib.Omega.{arith}
use lib.Dec.{eqb}
use lib.IntN.{nat_abs}
use borrow.Author.Tests.{eq-eqb, lt-ltb}
use Rattle.base.specs.Answer.{answer, unless}
use Rattle.base.specs.Fold.{bit}
use Rattle.graph.specs.Network.{low_end, high_end, cost_of, here, degree}
use Rattle.graph.specs.Cut.{every_cut, four_each, network_refusal}
use Rattle.graph.specs.Split.{split, after}
use Rattle.graph.specs.Chain.{lifted, check, Leads, stays, goes}
use Rattle.graph.specs.Plan.{chosen_step, plan_steps, plan_drop, plan_kept}
use Rattle.graph.specs.Sound.{Sound, Fresh, weight}
use Rattle.graph.specs.Condition.{Condition}
use Rattle.graph.specs.declared.Network.{Network}
use Rattle.graph.specs.declared.Step.{Step}
use Rattle.base.proofs.Bools.{never, eqb_is}
use Rattle.base.proofs.Sums.{sum-ext, sum_ones, term-le, each_at}
use Rattle.graph.proofs.EveryCut.{every-cut-sound}
use Rattle.graph.proofs.Lifting.{weight-after}
use Rattle.graph.proofs.Rules.{ruled_step, Stepped, stepped, sound-step, sound-either, cost-named}
use Rattle.graph.proofs.Checking.{passes-ruled, ruled-passes}
use Rattle.graph.proofs.Backs.{back-good, check-back, back_one, back-check}
use Rattle.graph.proofs.Plans.{chosen-ruled, chosen-drop-passes}

-- ── the planner's chain passes, and keeps what the plan keeps ──
-- each chosen step keeps the rules, so it is not refused, and leaves a sound network with a vertex less
pub plan-checked : (n : ℕ) {g : Network} → Sound g → g.remaining ≡ 2 + n
    → check g (plan_steps n g) (plan_drop n g) ≡ answer (plan_kept n g)
unfolding plan_steps plan_drop plan_kept check unless lifted
plan-checked zero {g} sound e = rw (eq-eqb g.remaining 2 e, chosen-drop-passes sound e)
plan-checked (suc n) {g} sound e =
    let t = chosen_step g in
    let two : 2 ≤ g.remaining = omega arith in
    let more : 2 < g.remaining = omega arith in
    let r = chosen-ruled sound two in
    rw (
      lt-ltb 2 g.remaining more,
      ruled_step sound two t r,
      plan-checked n (sound-step sound t (stepped sound two t r)) (fewer e),
    )
  where
    fewer : g.remaining ≡ 2 + suc n → (after g (chosen_step g)).remaining ≡ 2 + n
    fewer e = unfold after split in omega arith

-- ── accepted networks ──
refusal-zero : (a b : Bool) → cond {A = ℕ} a (cond b 0 7) 6 ≡ 0 → (a ≡ true) × (b ≡ true)
refusal-zero true true h = (refl, refl)
refusal-zero true false h = absurd (omega arith)
refusal-zero false b h = absurd (omega arith)

-- an accepted network is sound: all vertices are present, degrees are by refusal 6 and cuts by refusal 7
pub accepted-sound : {g : Network} → Fresh g → network_refusal g ≡ 0 → Sound g
unfolding network_refusal four_each
accepted-sound {g} fresh h =
    let f = fresh.formed in
    let w = refusal-zero (four_each g) (every_cut 4 g) h in
    record {
      formed = f;
      joins = λ e l. inl (
        fresh.all_here (low_end g e) (f.low_below e l),
        fresh.all_here (high_end g e) (f.high_below e l),
      );
      degrees = λ v k. eqb_is (each_at g.vertices (λ v. eqb (degree g v) 4) w.0 v (f.here_below v k));
      cuts = every-cut-sound 4 (λ e. true) f w.1;
      held = fresh.all_here (low_end g g.reserved) (f.low_below g.reserved f.reserved_below);
      free = λ e l k. never (sym k ∙ fresh.all_here (low_end g e) (f.low_below e l));
    }

pub fresh-remaining : {g : Network} → Fresh g → g.remaining ≡ g.vertices
fresh-remaining {g} fresh =
    sym fresh.formed.counted
    ∙ sum-ext g.vertices (λ v. bit (here g v)) (λ v. 1) (λ v l. ap bit (fresh.all_here v l))
    ∙ sum_ones g.vertices

-- a run of steps by rule leaves a sound network
pub leads-sound : {g h : Network} {ts : List Step} → Sound g → Leads g ts h → Sound h
leads-sound sound stays = sound
leads-sound {ts = t ∷ ts} sound (goes more r l) = leads-sound (sound-step sound t (stepped sound (omega arith) t r)) l

-- Condition 3 over meanings, whichever edge is reserved: check and rules agree, going back gives one good set, and the
-- planner's chain shows that there is one
pub condition : {g : Network} → Fresh g → 2 ≤ g.vertices → network_refusal g ≡ 0 → Condition g
condition {g} fresh two h =
    let sound = accepted-sound fresh h in
    let n = g.remaining - 2 in
    let passes = plan-checked n sound (omega (arith, fresh-remaining fresh)) in
    record {
      rules = λ ts d K. (
        λ h. let r = passes-ruled ts sound d K h in (r, check-back sound r h),
        λ p. back-check sound p.0 p.1,
      );
      one = λ ts d r. let w = ruled-passes sound r in let b =
          check-back sound r w.1 in (w.0, b, λ L c. back_one sound r c b);
      good = λ ts d K r b. back-good sound r b;
      exists = (plan_steps n g, plan_drop n g, passes-ruled (plan_steps n g) sound (plan_drop n g) (plan_kept n g) passes);
      either = λ ts h l more t r. sound-either (leads-sound sound l) (omega arith) t r;
      named = λ ts h l more t r. cost-named (leads-sound sound l) (omega arith) t r;
    }

-- ── working costs ──

-- no run of steps raises the weight
pub weight-falls : {g h : Network} {ts : List Step} → Sound g → Leads g ts h
    → (weight h ≤ weight g) × (h.edges ≡ g.edges)
weight-falls sound stays = (omega arith, refl)
weight-falls {g} {ts = t ∷ ts} sound (goes more r l) =
    let w = stepped sound (omega arith) t r in
    let later = weight-falls (sound-step sound t w) l in
    (omega (arith, later.0, once w), later.1 ∙ (unfold after split in refl))
  where
    once : Stepped g t → weight (after g t) ≤ weight g
    once w = unfold after in weight-after sound.formed w.at

-- so no working cost is further from 0 than the network's own costs are together
pub working-costs : {g h : Network} {ts : List Step} → Sound g → Leads g ts h → (e : ℕ) → e < h.edges
    → nat_abs (cost_of h e) ≤ weight g
unfolding weight
working-costs {h = h} sound l e k =
    omega (arith, (weight-falls sound l).0, term-le h.edges (λ e. nat_abs (cost_of h e)) e k)
