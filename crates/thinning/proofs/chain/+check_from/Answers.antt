-- `thinning::chain::check_from` meets its contract; the vertices that remain are fewer at each call.
use mathlib.Core.Path.{◌≡◌, sym, ◌∙◌, ap}
use mathlib.Core.Bool.{Bool}
use mathlib.Core.List.{List}
use Prim.Native.Nat.{ℕ, ◌≤◌, ◌-◌}
use native.Mathlib.Omega.{arith}
use native.Mathlib.Numerals.{add-one}
use lib.ListN.{drop}
use mir.Syntax.{w64}
use mir.Val.{to_z, of_z, SFits}
use mir.Facts.{to_z-of_z}
use borrow.Author.Rules.{rules}
use Rattle.std.proofs.Common.{Ok, Err}
use Rattle.base.specs.Answer.{Answer, refused, refusal_of}
use Rattle.departures.specs.Columns.{all_last, no_steps, ending_noted, rules_back, steps_back}
use Rattle.frame.specs.Table.{STEP}
use Rattle.frame.specs.Kinds.{step_of}
use Rattle.frame.specs.declared.kinds.Step as kinds
use Rattle.frame.specs.declared.line.Fields.{Fields}
use Rattle.frame.proofs.Runs.{Next, next-read, none_read}
use Rattle.graph.specs.Split.{split, after}
use Rattle.graph.specs.Chain.{step_refusal, lifted}
use Rattle.graph.specs.State.{Splittable}
use Rattle.graph.specs.declared.Network.{Network}
use Rattle.graph.specs.declared.Step.{Step}
use Rattle.rules.proofs.Steps.{step-splittable, running-after, v_below, fewer}
use Rattle.claim.specs.Verdicts.{step_in, dropped_in, check_ending, check_chain, rules_in, numbers_in, column_after}
use Rattle.claim.proofs.Chains.{refused-leaves, kept_leaves, was-met, was-kept, lifted-refused}
use Rattle.claim.proofs.Chains.{lifted-kept, chain-end, chain-at-broken, chain-at-met, chain-at-more}
use Rattle.claim.proofs.Chains.{same-column, rules-at-end, numbers-at-end, rules-at-more, numbers-at-more}
use Rattle.claim.proofs.Meets.{chain-numbered}
use Rattle.thinning.proofs.chain.+check_from.Goals as goal
use Rattle.thinning.proofs.chain.+check_from.Goals.{In_ok-judge_step, After-split-network}

-- the step that is judged, and that a line names
abbrev judged : kinds.Step → Step
judged s = record { v = s.v; x = s.x; y = s.y; z = s.z; cost = to_z w64 (of_z w64 s.cost) }

named : {at : ℕ} {text : List ℕ} {f : Fields} {next : ℕ} {s : kinds.Step} → Next STEP at text f next → s ≡ step_of f
    → SFits w64 s.cost → judged s ≡ step_in (drop at text)
named read e fits =
    rw (to_z-of_z fits) (ap (λ s. record { v = s.v; x = s.x; y = s.y; z = s.z; cost = s.cost }) (e ∙ ap step_of read.fields))

-- it is a step by rule, so that it can be carried out
by-rule : {t : ℕ} (c : In_ok-judge_step t) → step_refusal c.args.network (judged c.of-step.result) ≡ 0
unfolding refusal_of
by-rule c = sym c.in_ok-judge_step.ensures

splits : {t : ℕ} (c : In_ok-judge_step t) → let s = c.of-step.result in Splittable c.args.network s.x s.y s.z
splits c = step-splittable c.requires.0 c.if-remaining-le2.false (judged c.of-step.result) (by-rule c)

-- what is noted of an ending is what is due
module _ (k : ℕ) (g : Network) (text : List ℕ) (at : ℕ) (two : g.remaining ≤ 2) {old new : List ℕ} where
  rules-ended : old ≡ all_last
      → new ≡ column_after (check_ending g (drop at text)) (ending_noted g.reserved (dropped_in (drop at text)) old) old
      → new ≡ column_after (check_chain (g.remaining - 2) g (drop at text)) (rules_in k g (drop at text)) old
  rules-ended e noted =
      let due : ending_noted g.reserved (dropped_in (drop at text)) old ≡ rules_in k g (drop at text) =
      ap (ending_noted g.reserved (dropped_in (drop at text))) e ∙ rules-at-end k g text at two in
      rw (chain-end g text at two) (noted ∙ ap (λ due. column_after (check_ending g (drop at text)) due old) due)

  numbers-ended : old ≡ no_steps → new ≡ old
      → new ≡ column_after (check_chain (g.remaining - 2) g (drop at text)) (numbers_in k g (drop at text)) old
  numbers-ended e kept =
      let w = check_chain (g.remaining - 2) g (drop at text) in
      kept ∙ same-column w old ∙ ap (λ due. column_after w due old) (e ∙ numbers-at-end k g text at two)

-- a column stays as it was where the frames behind a step are refused, and so the step's too
stayed : {w v : Answer (List Bool)} {k : ℕ} → w ≡ refused k → v ≡ refused k → (later here old : List ℕ) {new : List ℕ}
    → new ≡ column_after w later old → new ≡ column_after v here old
stayed e f later here old p = p ∙ sym ((refused-leaves e).1 later old) ∙ (refused-leaves f).1 here old

-- the check of the frames from this one on, by that of the frames behind it
at-more : {t : ℕ} (c : After-split-network t)
    → let s = c.of-step.result in
    let h = c.split-network.result in
    check_chain (c.args.network.remaining - 2) c.args.network (drop c.args.at c.args.chain.now)
    ≡ lifted s.x s.y s.z (check_chain (h.remaining - 2) h (drop c.in-Ok.next c.args.chain.now))
unfolding after refusal_of
at-more c =
    let read = next-read _ _ _ _ _ c.in-Ok.ensures in
    let s = c.of-step.result in
    let fits : SFits w64 s.cost = record { sfits = omega arith } in
    chain-at-more c.args.network c.args.chain.now c.args.at c.if-remaining-le2.false read.is
    (judged s) (named read c.of-step.ensures fits) _ _ (sym c.in_ok-judge_step.ensures) c.split-network.ensures read.place

pub returns-then-remaining-le2 : goal.returns-then-remaining-le2
returns-then-remaining-le2 t c =
    let a = c.args in
    let ended = c.check_ending.ensures in
    let two = c.if-remaining-le2.true in record {
      refusal = ended.refusal ∙ ap refusal_of (sym (chain-end a.network a.chain.now a.at two));
      rules = rules-ended a.number a.network a.chain.now a.at two c.requires.1 ended.rules;
      steps = numbers-ended a.number a.network a.chain.now a.at two c.requires.2 ended.steps;
    }

pub returns-in_default : goal.returns-in_default
returns-in_default t c =
    let a = c.args in
    let none = none_read STEP a.at a.chain.now c.in_default.ensures in
    let left = refused-leaves (chain-at-broken a.network a.chain.now a.at c.if-remaining-le2.false none) in
    record { refusal = left.0; rules = left.1 _ a.noted.now.rules; steps = left.1 _ a.noted.now.steps }

pub of-step-requires : goal.of-step-requires
of-step-requires t c = (next-read _ _ _ _ _ c.in-Ok.ensures).fits

pub returns-in_err-judge_step : goal.returns-in_err-judge_step
returns-in_err-judge_step t c =
    let a = c.args in
    let read = next-read _ _ _ _ _ c.in-Ok.ensures in
    let s = c.of-step.result in
    let fits : SFits w64 s.cost = record { sfits = omega arith } in
    let e : c.from_residual.result ≡ Err c.in_err-judge_step.field-0.0 = search rules in
    let left =
    refused-leaves
    (chain-at-met a.network a.chain.now a.at c.if-remaining-le2.false read.is (judged s)
    (named read c.of-step.ensures fits) _ c.in_err-judge_step.ensures) in
    record { refusal = rw e left.0; rules = left.1 _ a.noted.now.rules; steps = left.1 _ a.noted.now.steps }

pub overflow_cast-v : goal.overflow_cast-v
overflow_cast-v t c =
    let run = c.requires.0 in
    let rule = by-rule (goal.at.overflow_cast-v t c).In_ok-judge_step in
    let below = v_below run c.if-remaining-le2.false (judged c.of-step.result) rule in
    record { fits = omega (arith, below, run.vertex_room) }

pub split-network-requires : goal.split-network-requires
split-network-requires t c = splits (goal.at.split-network-requires t c).In_ok-judge_step

pub check_from-later-requires : goal.check_from-later-requires
unfolding after split
check_from-later-requires t c =
    let at = goal.at.check_from-later-requires t c in
    let run = c.requires.0 in
    let more = c.if-remaining-le2.false in
    let judged = judged c.of-step.result in
    let after_is : c.split-network.result ≡ after c.args.network judged = c.split-network.ensures in
    let left_over : c.split-network.result.remaining ≡ c.args.network.remaining - 1 =
    ap (λ h. h.remaining) after_is in
    let pre = c.requires in (
      rw after_is (fewer c.args.network judged more c.decreases),
      (
        rw after_is (running-after run more judged (by-rule at.In_ok-judge_step)),
        pre.1,
        pre.2,
        omega (arith, pre.3, left_over, more),
      ),
    )

pub returns-in_err-later : goal.returns-in_err-later
returns-in_err-later t c =
    let at = goal.at.returns-in_err-later t c in
    let a = c.args in
    let e : c.from_residual-in_err-later.result ≡ Err c.in_err-later.field-0.0 = search rules in
    let refused : c.check_from-later.result ≡ Err c.in_err-later.field-0.0 = search rules in
    let later = was-met _ _ (rw refused at c.check_from-later.ensures.refusal) in
    let here = at-more at.After-split-network ∙ lifted-refused (judged c.of-step.result) later in record {
      refusal = rw e (refused-leaves here).0;
      rules = stayed later here _ _ _ c.check_from-later.ensures.rules;
      steps = stayed later here _ _ _ c.check_from-later.ensures.steps;
    }

pub note_step-requires : goal.note_step-requires
note_step-requires t c =
    let w = splits (goal.at.note_step-requires t c).In_ok-judge_step in
    (omega (arith, w.x_edge, w.room), omega (arith, w.y_edge, w.room), omega (arith, w.z_edge, w.room))

pub returns : goal.returns
unfolding after
returns t c =
    let at = goal.at.returns t c in
    let a = c.args in
    let h = c.split-network.result in
    let u = judged c.of-step.result in
    let w = splits at.In_ok-judge_step in
    let read = next-read _ _ _ _ _ c.in-Ok.ensures in
    let more = c.if-remaining-le2.false in
    let fits : SFits w64 c.of-step.result.cost = record { sfits = omega arith } in
    let named = named read c.of-step.ensures fits in
    let after_is : h ≡ after a.network u = c.split-network.ensures in
    let behind = drop c.in-Ok.next a.chain.now in
    let passed : c.check_from-later.result ≡ Ok c.in_ok-later.field-0 = search rules in
    let later = was-kept _ (chain-numbered (h.remaining - 2) h _) (rw passed at c.check_from-later.ensures.refusal) in
    let kept = kept_leaves later.1 in
    let left = kept_leaves (at-more at.After-split-network ∙ lifted-kept u later.1) in record {
      refusal = left.0;
      rules = c.note_step.ensures.rules
          ∙ ap (rules_back u.x u.y u.z)
          (c.check_from-later.ensures.rules ∙ sym (kept.1 _ a.noted.now.rules) ∙ ap (λ k. rules_in k h behind) (add-one a.number))
          ∙ rules-at-more a.number a.network a.chain.now a.at more u named _ h after_is read.place
          (omega (arith, w.z_edge, w.room))
          ∙ left.1 _ a.noted.now.rules;
      steps = c.note_step.ensures.steps
          ∙ ap (steps_back u.x u.y a.number)
          (c.check_from-later.ensures.steps ∙ sym (kept.1 _ a.noted.now.steps) ∙ ap (λ k. numbers_in k h behind) (add-one a.number))
          ∙ numbers-at-more a.number a.network a.chain.now a.at more u named _ h after_is read.place
          ∙ left.1 _ a.noted.now.steps;
    }
