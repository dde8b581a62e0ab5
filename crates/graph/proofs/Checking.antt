-- The check of a chain: what a check that passes has passed, and that it agrees with the rules.
use mathlib.Core.Path.{◌≡◌, refl}
use mathlib.Core.Bool.{Bool}
use mathlib.Core.List.{List, [], ◌∷◌}
use Prim.Native.Nat.{ℕ, ◌≤◌, ◌<◌}
use native.Mathlib.Omega.{arith}
use lib.Dec.{eqb, ltb}
use borrow.Author.Tests.{eqb-true, ltb-true, eq-eqb, lt-ltb}
use Rattle.base.specs.Answer.{Answer, answer, refused, unless}
use Rattle.base.proofs.Bools.{no_answer}
use Rattle.base.proofs.Answers.{unless-answered, cond-answered}
use Rattle.graph.specs.Split.{after}
use Rattle.graph.specs.Chain.{step_refusal, end_refusal, end_kept, lift, lifted, check, ByRules, ending, step}
use Rattle.graph.specs.Sound.{Sound}
use Rattle.graph.specs.Condition.{Passes}
use Rattle.graph.specs.declared.Network.{Network}
use Rattle.graph.specs.declared.Step.{Step}
use Rattle.graph.proofs.Rules.{step-ruled, ruled_step, stepped, sound-step, ending-ruled, ruled-ending}

-- what was lifted was kept
pub lift-keeps : (t : Step) (w : Answer (List Bool)) (K : List Bool)
    → lifted t.x t.y t.z w ≡ answer K
    → (L : List Bool) × (w ≡ answer L) × (lift t.x t.y t.z L ≡ K)
unfolding lifted
lift-keeps t (refused k) K h = no_answer (cc)
lift-keeps t (answer L) K h = (L, refl, cc)

-- what a check that passes has passed
pub record Ended (g : Network) (d : ℕ) (K : List Bool) : Type 0 where
  pub two : g.remaining ≡ 2
  pub passed : end_refusal g d ≡ 0
  pub marks_are : end_kept g d ≡ K

pub check-ended : (g : Network) (d : ℕ) (K : List Bool) → check g [] d ≡ answer K → Ended g d K
unfolding check
check-ended g d K h =
    let c = cond-answered (eqb g.remaining 2) _ 1 K h in
    let u = unless-answered (end_refusal g d) (answer (end_kept g d)) K c.1 in
    record { two = eqb-true g.remaining 2 c.0; passed = u.0; marks_are = cc u.1 }

pub record Began (g : Network) (t : Step) (ts : List Step) (d : ℕ) (K : List Bool) : Type 0 where
  pub more : 2 < g.remaining
  pub passed : step_refusal g t ≡ 0
  pub later : List Bool
  pub later_keeps : check (after g t) ts d ≡ answer later
  pub marks_are : lift t.x t.y t.z later ≡ K

pub check-began : (g : Network) (t : Step) (ts : List Step) (d : ℕ) (K : List Bool) → check g (t ∷ ts) d ≡ answer K
    → Began g t ts d K
unfolding check
check-began g t ts d K h =
    let c = cond-answered (ltb 2 g.remaining) _ 1 K h in
    let u = unless-answered (step_refusal g t) (lifted t.x t.y t.z (check (after g t) ts d)) K c.1 in
    let l = lift-keeps t (check (after g t) ts d) K u.1 in
    record {
      more = ltb-true 2 g.remaining c.0;
      passed = u.0;
      later = l.0;
      later_keeps = l.1;
      marks_are =
          l.2;
    }

-- ── the check and the rules agree ──
-- step by step: what is not refused keeps the rules, and leaves a sound network for the next step
pub passes-ruled : (ts : List Step) {g : Network} → Sound g → (d : ℕ) (K : List Bool) → check g ts d ≡ answer K
    → ByRules g ts d
passes-ruled [] {g} sound d K h = let w = check-ended g d K h in ending w.two (ending-ruled g d w.passed)
passes-ruled (t ∷ ts) {g} sound d K h =
    let w = check-began g t ts d K h in
    let two : 2 ≤ g.remaining = omega (arith, w.more) in
    let r = step-ruled sound two t w.passed in
    step w.more r (passes-ruled ts (sound-step sound t (stepped sound two t r)) d w.later w.later_keeps)

-- and what keeps the rules is not refused
pub ruled-passes : {g : Network} {ts : List Step} {d : ℕ} → Sound g → ByRules g ts d → Passes g ts d
unfolding check unless lifted
ruled-passes {g} {d = d} sound (ending two r) = (end_kept g d, rw (eq-eqb g.remaining 2 two, ruled-ending g d r))
ruled-passes {g} {ts = t ∷ ts} {d = d} sound (step more r rest) =
    let two : 2 ≤ g.remaining = omega (arith, more) in
    let w = ruled-passes (sound-step sound t (stepped sound two t r)) rest in
    (lift t.x t.y t.z w.0, rw (lt-ltb 2 g.remaining more, ruled_step sound two t r, w.1))
