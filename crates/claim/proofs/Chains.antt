-- How the frames of a chain decide its verdict, one after the other.
use mathlib.Core.Path.{◌≡◌, refl, sym, ◌∙◌, ap}
use mathlib.Core.Bool.{Bool, true, false}
use mathlib.Core.List.{List, ◌∷◌}
use Prim.Native.Nat.{ℕ, zero, suc, ◌+◌, ◌-◌, ◌≤◌, ◌<◌}
use native.Mathlib.Omega.{arith}
use lib.ListN.{length, drop}
use lib.Seq.{drop-drop}
use borrow.Author.Tests.{le-leb, lt-leb}
use Rattle.std.proofs.Common.{Err}
use Rattle.base.specs.Answer.{Answer, answer, refused, told, number_of, unless, refusal_of, number_given}
use Rattle.base.specs.Refusals.{FORM}
use Rattle.base.specs.declared.refusals.Refusal.{Refusal}
use Rattle.base.proofs.Answers.{number-above}
use Rattle.frame.specs.Table.{STEP, DROPPED, line_length}
use Rattle.frame.specs.Line.{is_line}
use Rattle.base.specs.Limits.{edge_limit}
use Rattle.departures.specs.Columns.{all_last, no_steps, ending_noted, rules_back, steps_back}
use Rattle.departures.proofs.Columns.{rules-ended, steps-ended, rules-back, steps-back}
use Rattle.graph.specs.Split.{split, after}
use Rattle.graph.specs.Chain.{step_refusal, end_refusal, end_kept, lift, lifted}
use Rattle.graph.specs.declared.Network.{Network}
use Rattle.graph.specs.declared.Step.{Step}
use Rattle.claim.specs.Verdicts.{step_in, dropped_in, left_over, check_ending, check_chain, steps_in, drop_in}
use Rattle.claim.specs.Verdicts.{rules_in, numbers_in, column_after}

-- ── what a verdict leaves ──
module _ {w : Answer (List Bool)} where
  pub refused-leaves : {k : ℕ} → w ≡ refused k
      → (refusal_of {M = Unit} (refused k) ≡ refusal_of w) × ((due old : List ℕ) → old ≡ column_after w due old)
  unfolding refusal_of number_given
  refused-leaves e = (rw e, λ due old. rw e)

  pub kept_leaves : {K : List Bool} → w ≡ answer K
      → (refusal_of {M = Unit} (answer tt) ≡ refusal_of w) × ((due old : List ℕ) → due ≡ column_after w due old)
  unfolding refusal_of number_given
  kept_leaves e = (rw e, λ due old. rw e)

-- a column to which nothing else is due stays
pub same-column : (w : Answer (List Bool)) (column : List ℕ) → column ≡ column_after w column column
unfolding number_given
same-column (refused k) column = refl
same-column (answer K) column = refl

-- and the other way round
pub was-refused : (w : Answer (List Bool)) {k : ℕ} → k ≡ refusal_of w → 0 < k → w ≡ refused k
unfolding refusal_of
was-refused (refused j) e l = ap refused (sym e)
was-refused (answer K) e l = absurd (omega arith)

-- so by what a function tells that met a refusal
pub was-met : (w : Answer (List Bool)) (r : Refusal) → refusal_of {M = Unit} (told (Err r)) ≡ refusal_of w
    → w ≡ refused (number_of r)
was-met w r e = was-refused w (unfold refusal_of in e) (number-above r)

pub was-kept : (w : Answer (List Bool)) → ((j : ℕ) → w ≡ refused j → 0 < j)
    → refusal_of {M = Unit} (answer tt) ≡ refusal_of w → (K : List Bool) × (w ≡ answer K)
unfolding refusal_of
was-kept (refused j) numbered e = absurd (omega (arith, numbered j refl))
was-kept (answer K) numbered e = (K, refl)

-- going back through a step
module _ (t : Step) {w : Answer (List Bool)} where
  pub lifted-refused : {k : ℕ} → w ≡ refused k → lifted t.x t.y t.z w ≡ refused k
  unfolding lifted
  lifted-refused e = rw e

  pub lifted-kept : {K : List Bool} → w ≡ answer K
      → lifted t.x t.y t.z w ≡ answer (lift t.x t.y t.z K)
  unfolding lifted
  lifted-kept e = rw e

-- ── endings ──
module _ (g : Network) (t : List ℕ) where
  pub ending-broken : is_line DROPPED t ≡ false → check_ending g t ≡ refused FORM
  unfolding check_ending
  ending-broken h = rw h

  module _ (is : is_line DROPPED t ≡ true) where
    pub ending-refused : (k : ℕ) → 0 < k → end_refusal g (dropped_in t) ≡ k → check_ending g t ≡ refused k
    unfolding check_ending unless
    ending-refused zero l h = absurd (omega arith)
    ending-refused (suc k) l h = rw (is, h)

    pub ending-met : (r : Refusal) → refusal_of {M = Unit} (told (Err r)) ≡ end_refusal g (dropped_in t)
        → check_ending g t ≡ refused (number_of r)
    ending-met r e = ending-refused (number_of r) (number-above r) (sym (unfold refusal_of in e))

    pub ending-longer : end_refusal g (dropped_in t) ≡ 0 → line_length DROPPED < length t
        → check_ending g t ≡ refused left_over
    unfolding check_ending unless
    ending-longer h l = rw (is, h, lt-leb (length t) (line_length DROPPED) l)

    pub ending-kept : end_refusal g (dropped_in t) ≡ 0 → length t ≤ line_length DROPPED
        → check_ending g t ≡ answer (end_kept g (dropped_in t))
    unfolding check_ending unless
    ending-kept h l = rw (is, h, le-leb (length t) (line_length DROPPED) l)

-- ── steps ──
module _ (n : ℕ) (g : Network) (t : List ℕ) where
  pub chain-broken : is_line STEP t ≡ false → check_chain (suc n) g t ≡ refused FORM
  unfolding check_chain
  chain-broken h = rw h

  module _ (is : is_line STEP t ≡ true) where
    pub chain-refused : (k : ℕ) → 0 < k → step_refusal g (step_in t) ≡ k → check_chain (suc n) g t ≡ refused k
    unfolding check_chain unless
    chain-refused zero l h = absurd (omega arith)
    chain-refused (suc k) l h = rw (is, h)

    pub chain_more : step_refusal g (step_in t) ≡ 0
        → check_chain (suc n) g t
        ≡ lifted (step_in t).x (step_in t).y (step_in t).z
        (check_chain n (after g (step_in t)) (drop (line_length STEP) t))
    unfolding check_chain unless
    chain_more h = rw (is, h)

-- ── the same by the vertices that remain ──
module _ (g : Network) (text : List ℕ) (at : ℕ) where
  pub chain-end : g.remaining ≤ 2 → check_chain (g.remaining - 2) g (drop at text) ≡ check_ending g (drop at text)
  unfolding check_chain
  chain-end h = let e : g.remaining - 2 ≡ 0 = omega arith in rw e

  module _ (more : 2 < g.remaining) where
    one_more : suc (g.remaining - 1 - 2) ≡ g.remaining - 2
    one_more = omega arith

    pub chain-at-broken : is_line STEP (drop at text) ≡ false
        → check_chain (g.remaining - 2) g (drop at text) ≡ refused FORM
    chain-at-broken h = rw (← one_more) (chain-broken (g.remaining - 1 - 2) g (drop at text) h)

    -- t is the step that the frame names
    module _ (is : is_line STEP (drop at text) ≡ true) (t : Step) (named : t ≡ step_in (drop at text)) where
      pub chain-at-refused : (k : ℕ) → 0 < k → step_refusal g t ≡ k
          → check_chain (g.remaining - 2) g (drop at text) ≡ refused k
      chain-at-refused k l h =
          rw (← one_more)
          (chain-refused (g.remaining - 1 - 2) g (drop at text) is k l (ap (step_refusal g) (sym named) ∙ h))

      pub chain-at-met : (r : Refusal) → refusal_of {M = Unit} (told (Err r)) ≡ step_refusal g t
          → check_chain (g.remaining - 2) g (drop at text) ≡ refused (number_of r)
      chain-at-met r e = chain-at-refused (number_of r) (number-above r) (sym (unfold refusal_of in e))

      -- h is the network after the step, and next the place behind its line
      pub chain-at-more : (next : ℕ) (h : Network) → step_refusal g t ≡ 0 → h ≡ after g t → next ≡ at + line_length STEP
          → check_chain (g.remaining - 2) g (drop at text)
          ≡ lifted t.x t.y t.z (check_chain (h.remaining - 2) h (drop next text))
      chain-at-more next h p q b =
          let s = step_in (drop at text) in
          let later : check_chain (g.remaining - 1 - 2) (after g s) (drop (line_length STEP) (drop at text))
          ≡ check_chain (h.remaining - 2) h (drop next text) =
          rw (q, b, drop-drop (line_length STEP) at text, named) left in
          rw (← one_more) (chain_more (g.remaining - 1 - 2) g (drop at text) is (ap (step_refusal g) (sym named) ∙ p))
          ∙ ap (lifted s.x s.y s.z) later
          ∙ ap (λ s. lifted s.x s.y s.z (check_chain (h.remaining - 2) h (drop next text))) (sym named)
        where
          left : let k = after g (step_in (drop at text)) in
              check_chain (g.remaining - 1 - 2) k (drop (at + line_length STEP) text)
              ≡ check_chain (k.remaining - 2) k (drop (at + line_length STEP) text)
          left = unfold after split in refl

-- ── the columns, by the vertices that remain ──
module _ (k : ℕ) (g : Network) (text : List ℕ) (at : ℕ) where
  -- an ending's
  module _ (two : g.remaining ≤ 2) where
    pub rules-at-end : ending_noted g.reserved (dropped_in (drop at text)) all_last ≡ rules_in k g (drop at text)
    unfolding rules_in steps_in drop_in
    rules-at-end =
        let e : g.remaining - 2 ≡ 0 = omega arith in rw e (rules-ended k g (dropped_in (drop at text)))

    pub numbers-at-end : no_steps ≡ numbers_in k g (drop at text)
    unfolding numbers_in steps_in drop_in
    numbers-at-end =
        let e : g.remaining - 2 ≡ 0 = omega arith in rw e (steps-ended k g (dropped_in (drop at text)))

  -- a step's, where t is the step that the frame names, h the network after it, and next the place behind its line
  module _ (more : 2 < g.remaining) (t : Step) (named : t ≡ step_in (drop at text)) (next : ℕ) (h : Network)
      (after_is : h ≡ after g t) (place : next ≡ at + line_length STEP) where
    one-step : suc (h.remaining - 2) ≡ g.remaining - 2
    one-step = unfold after split in omega (arith, ap (λ h. h.remaining) after_is)

    behind : drop (line_length STEP) (drop at text) ≡ drop next text
    behind = drop-drop (line_length STEP) at text ∙ ap (λ n. drop n text) (sym place)

    steps-are : steps_in (g.remaining - 2) (drop at text) ≡ t ∷ steps_in (h.remaining - 2) (drop next text)
    unfolding steps_in
    steps-are = rw (← one-step, behind, named)

    drop-is : drop_in (g.remaining - 2) (drop at text) ≡ drop_in (h.remaining - 2) (drop next text)
    unfolding drop_in
    drop-is =
        ap (λ n. drop_in n (drop at text)) (sym one-step) ∙ ap (drop_in (h.remaining - 2)) behind

    pub rules-at-more : t.z < edge_limit
        → rules_back t.x t.y t.z (rules_in (suc k) h (drop next text)) ≡ rules_in k g (drop at text)
    unfolding rules_in
    rules-at-more l = rw (steps-are, drop-is, after_is) (rules-back k g t _ _ l)

    pub numbers-at-more : steps_back t.x t.y k (numbers_in (suc k) h (drop next text))
        ≡ numbers_in k g (drop at text)
    unfolding numbers_in
    numbers-at-more = rw (steps-are, drop-is, after_is) (steps-back k g t _ _)
