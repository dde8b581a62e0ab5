-- The bytes of a chain and its meaning: what passes is the chain text
-- of steps and an ending that pass, and the other way round.
use mathlib.Core.Path.{◌≡◌, refl, sym, ◌∙◌, ap}
use mathlib.Core.Bool.{Bool, true}
use mathlib.Core.List.{List, [], ◌∷◌, ◌++◌, map, append-nil}
use Prim.Native.Nat.{ℕ, zero, suc, ◌+◌, ◌*◌, ◌-◌, ◌^◌, ◌≤◌, ◌<◌}
use native.Mathlib.Omega.{arith}
use lib.Dec.{leb, eqb}
use lib.ListN.{length, drop, drop_of_length-le}
use lib.Signed.{mag}
use borrow.Author.Tests.{leb-true, eq-eqb, lt-ltb}
use Rattle.base.specs.Answer.{answer, unless}
use Rattle.frame.specs.Table.{STEP, DROPPED, padded, bytes_of, digits_of, line_length}
use Rattle.frame.specs.Line.{is_line, fields_of, line_of}
use Rattle.frame.specs.Kinds.{step_cost_digits, step_of, of_step, dropped_of, of_dropped}
use Rattle.frame.proofs.Lines.{length-line, line-is, line-rest, fields-found, line-back, line-fits}
use Rattle.frame.proofs.Named.{step_back, step-found, dropped-back}
use Rattle.chain_text.specs.Text.{chain_text}
use Rattle.chain_text.proofs.Texts.{step_fits, dropped-fits}
use Rattle.graph.specs.Split.{split, after}
use Rattle.graph.specs.Chain.{step_refusal, end_refusal, end_kept, lift, lifted, check, StepByRule, EndingByRule, ByRules}
use Rattle.graph.specs.Chain.{Partner, ending, step}
use Rattle.graph.specs.declared.Network.{Network}
use Rattle.graph.specs.declared.Step.{Step}
use Rattle.graph.proofs.Differences.{difference-small}
use Rattle.graph.proofs.Rules.{ruled_step}
use Rattle.base.proofs.Answers.{unless-answered, cond-answered}
use Rattle.graph.proofs.Checking.{lift-keeps, check-began, passes-ruled}
use Rattle.rules.specs.Running.{Running}
use Rattle.claim.specs.Verdicts.{step_in, dropped_in, left_over, check_ending, check_chain, steps_in, drop_in}
use Rattle.claim.specs.Plans.{in_frame}
use Rattle.rules.proofs.Steps.{running-after, v_below}
use Rattle.claim.proofs.Chains.{ending-kept, chain-at-more}

-- ── the line of a step, and of an ending ──
step_line : (t : List ℕ) → is_line STEP t ≡ true
    → t ≡ line_of STEP (of_step (in_frame (step_in t))) ++ drop (line_length STEP) t
step_line t h =
    sym (line-back STEP t h)
    ∙ ap (λ f. line_of STEP f ++ drop (line_length STEP) t) (sym (step_back (fields_of STEP t) (line-fits STEP t h)))

ending-line : (t : List ℕ) → is_line DROPPED t ≡ true → length t ≤ line_length DROPPED
    → t ≡ line_of DROPPED (of_dropped (record { edge = dropped_in t }))
ending-line t h l =
    sym (line-back DROPPED t h)
    ∙ ap (λ r. line_of DROPPED (fields_of DROPPED t) ++ r) (drop_of_length-le t l)
    ∙ append-nil (line_of DROPPED (fields_of DROPPED t))
    ∙ ap (line_of DROPPED) (sym (dropped-back (fields_of DROPPED t) (line-fits DROPPED t h)))

-- ── bytes that pass are a chain text whose meaning passes ──
pub record Meant (n : ℕ) (g : Network) (t : List ℕ) (K : List Bool) : Type 0 where
  pub text_is : t ≡ chain_text (map in_frame (steps_in n t)) (drop_in n t)
  pub passes : check g (steps_in n t) (drop_in n t) ≡ answer K

ending-meant : (g : Network) (t : List ℕ) (K : List Bool) → g.remaining ≡ 2 → check_ending g t ≡ answer K
    → Meant 0 g t K
unfolding check_ending chain_text check unless steps_in drop_in
ending-meant g t K e h =
    let a = cond-answered (is_line DROPPED t) _ 1 K h in
    let b = unless-answered (end_refusal g (dropped_in t)) _ K a.1 in
    let c = cond-answered (leb (length t) (line_length DROPPED)) (answer (end_kept g (dropped_in t))) left_over K b.1 in
    record {
      text_is = ending-line t a.0 (leb-true (length t) (line_length DROPPED) c.0);
      passes = rw (eq-eqb g.remaining 2 e, b.0) c.1;
    }

pub bytes-meant : (n : ℕ) (g : Network) (t : List ℕ) (K : List Bool) → g.remaining ≡ 2 + n
    → check_chain n g t ≡ answer K
    → Meant n g t K
unfolding check_chain
bytes-meant zero g t K e h = ending-meant g t K e h
bytes-meant (suc n) g t K e h =
    let s = step_in t in
    let a = cond-answered (is_line STEP t) _ 1 K h in
    let b =
    unless-answered (step_refusal g s)
    (lifted s.x s.y s.z (check_chain n (after g s) (drop (line_length STEP) t))) K a.1 in
    let c = lift-keeps s (check_chain n (after g s) (drop (line_length STEP) t)) K b.1 in
    let m = bytes-meant n (after g s) (drop (line_length STEP) t) c.0 (fewer e) c.1 in
    record { text_is = step_line t a.0 ∙ text m; passes = more m b.0 c.2 }
  where
    fewer : g.remaining ≡ 2 + suc n → (after g (step_in t)).remaining ≡ 2 + n
    fewer e = unfold after split in omega arith

    text : {L : List Bool} → Meant n (after g (step_in t)) (drop (line_length STEP) t) L
        → line_of STEP (of_step (in_frame (step_in t))) ++ drop (line_length STEP) t
        ≡ chain_text (map in_frame (steps_in (suc n) t)) (drop_in (suc n) t)
    text m =
        unfold chain_text steps_in drop_in in ap (λ r. line_of STEP (of_step (in_frame (step_in t))) ++ r) m.text_is

    more : {L : List Bool} → Meant n (after g (step_in t)) (drop (line_length STEP) t) L → step_refusal g (step_in t) ≡ 0
        → lift (step_in t).x (step_in t).y (step_in t).z L ≡ K
        → check g (steps_in (suc n) t) (drop_in (suc n) t) ≡ answer K
    more m p q =
        unfold check unless lifted steps_in drop_in in
        rw (lt-ltb 2 g.remaining (omega arith), p, m.passes) (ap answer q)

-- ── and the text of a chain that passes passes ──

-- the edge that the line of an ending drops
ending-named : (d : ℕ) → d < 2 ^ 16 → dropped_in (line_of DROPPED (of_dropped (record { edge = d }))) ≡ d
ending-named d l =
    let f = of_dropped (record { edge = d }) in
    ap (λ f. (dropped_of f).edge)
    (ap (fields_of DROPPED) (sym (append-nil (line_of DROPPED f))) ∙ fields-found DROPPED f [] (dropped-fits d l))

ending-passes : (g : Network) (d : ℕ) (K : List Bool) → EndingByRule g d → d < 2 ^ 16 → check g [] d ≡ answer K
    → check_ending g (chain_text [] d) ≡ answer K
unfolding chain_text check
ending-passes g d K r l h =
    let f = of_dropped (record { edge = d }) in
    let text = line_of DROPPED f in
    let is : is_line DROPPED text ≡ true = ap (is_line DROPPED) (sym (append-nil text)) ∙ line-is DROPPED f [] in
    let named = ending-named d l in
    let k = cond-answered (eqb g.remaining 2) _ 1 K h in
    let u = unless-answered (end_refusal g d) (answer (end_kept g d)) K k.1 in
    ending-kept g text is (ap (end_refusal g) named ∙ u.0) (omega (arith, length-line DROPPED f))
    ∙ ap (λ i. answer (end_kept g i)) named
    ∙ u.1

-- z's new cost is one of 64 bits
cost-spelt : {g : Network} → Running g → 2 < g.remaining → (t : Step) → StepByRule g t
    → 2 * mag t.cost < 16 ^ step_cost_digits
unfolding step_cost_digits digits_of bytes_of padded
cost-spelt {g} run more t r =
    let small = difference-small g run.light t.z t.x r.z_partner.number r.x_partner.number in
    rw r.z_cost (omega (arith, small.sfits))

-- the step that the line of a step by rule names, in front of the rest of a chain
step-named : {g : Network} → Running g → (t : Step) (rest : List ℕ) → 2 < g.remaining → StepByRule g t
    → t ≡ step_in (line_of STEP (of_step (in_frame t)) ++ rest)
step-named {g} run t rest more r =
    let passed = ruled_step run.sound run.left t r in
    let below : (e : ℕ) → Partner g t.v e → e < 2 ^ 16 = λ e p. omega (arith, p.number, run.edge_room) in
    let spelt = cost-spelt run more t r in
    let fits =
    step_fits (in_frame t) (omega (arith, v_below run more t passed, run.vertex_room)) (below _ r.x_partner)
    (below _ r.y_partner) (below _ r.z_partner) spelt in
    ap (λ s. record { v = s.v; x = s.x; y = s.y; z = s.z; cost = s.cost })
    (sym (step-found (in_frame t) spelt) ∙ ap step_of (sym (fields-found STEP (of_step (in_frame t)) rest fits)))

step-passes : {g : Network} → Running g → (t : Step) (rest : List ℕ) (L : List Bool) → 2 < g.remaining → StepByRule g t
    → check_chain ((after g t).remaining - 2) (after g t) rest ≡ answer L
    → check_chain (g.remaining - 2) g (line_of STEP (of_step (in_frame t)) ++ rest)
    ≡ answer (lift t.x t.y t.z L)
unfolding lifted
step-passes {g} run t rest L more r h =
    let passed = ruled_step run.sound run.left t r in
    let text = line_of STEP (of_step (in_frame t)) ++ rest in
    chain-at-more g text 0 more (line-is STEP (of_step (in_frame t)) rest) t (step-named run t rest more r)
    (line_length STEP) (after g t) passed refl (omega arith)
    ∙ ap (λ l. lifted t.x t.y t.z (check_chain ((after g t).remaining - 2) (after g t) l))
    (line-rest STEP (of_step (in_frame t)) rest)
    ∙ ap (lifted t.x t.y t.z) h

pub meaning-passes : (ts : List Step) {g : Network} (d : ℕ) → Running g → (K : List Bool) → check g ts d ≡ answer K
    → check_chain (g.remaining - 2) g (chain_text (map in_frame ts) d) ≡ answer K
unfolding chain_text
meaning-passes [] {g} d run K h = go (passes-ruled [] run.sound d K h)
  where
    go : ByRules g [] d → check_chain (g.remaining - 2) g (chain_text [] d) ≡ answer K
    go (ending two r) = let e : g.remaining - 2 ≡ 0 = omega arith in
        rw e (unfold check_chain in ending-passes g d K r (omega (arith, r.one.number, run.edge_room)) h)
meaning-passes (t ∷ ts) {g} d run K h =
    go (passes-ruled (t ∷ ts) run.sound d K h) (λ run L. meaning-passes ts d run L)
  where
    go : ByRules g (t ∷ ts) d
        → (Running (after g t) → (L : List Bool) → check (after g t) ts d ≡ answer L
        → check_chain ((after g t).remaining - 2) (after g t) (chain_text (map in_frame ts) d) ≡ answer L)
        → check_chain (g.remaining - 2) g (line_of STEP (of_step (in_frame t)) ++ chain_text (map in_frame ts) d) ≡ answer K
    go (step more r rest) ih =
        let w = check-began g t ts d K h in
        step-passes run t (chain_text (map in_frame ts) d) w.later more r
        (ih (running-after run more t (ruled_step run.sound run.left t r)) w.later w.later_keeps) ∙ ap answer w.marks_are

-- ── the steps and the ending of a chain by the rules are found again in its text ──
pub record Found (g : Network) (ts : List Step) (d : ℕ) (text : List ℕ) : Type 0 where
  pub steps : steps_in (g.remaining - 2) text ≡ ts
  pub dropped : drop_in (g.remaining - 2) text ≡ d

pub steps-found : (ts : List Step) {g : Network} (d : ℕ) → Running g → ByRules g ts d
    → Found g ts d (chain_text (map in_frame ts) d)
unfolding chain_text steps_in drop_in
steps-found [] {g} d run (ending two r) =
    let e : g.remaining - 2 ≡ 0 = omega arith in
    record {
      steps = rw e refl;
      dropped = rw e (ending-named d (omega (arith, r.one.number, run.edge_room)));
    }
steps-found (t ∷ ts) {g} d run (step more r rest) =
    next (steps-found ts d (running-after run more t (ruled_step run.sound run.left t r)) rest)
  where
    fewer : g.remaining - 2 ≡ suc ((after g t).remaining - 2)
    fewer = unfold after split in omega (arith, more)

    behind : drop (line_length STEP) (line_of STEP (of_step (in_frame t)) ++ chain_text (map in_frame ts) d)
        ≡ chain_text (map in_frame ts) d
    behind = line-rest STEP (of_step (in_frame t)) (chain_text (map in_frame ts) d)

    next : Found (after g t) ts d (chain_text (map in_frame ts) d)
        → Found g (t ∷ ts) d (line_of STEP (of_step (in_frame t)) ++ chain_text (map in_frame ts) d)
    next f = record {
      steps = rw (fewer, behind, f.steps, ← step-named run t (chain_text (map in_frame ts) d) more r);
      dropped = rw fewer (ap (drop_in ((after g t).remaining - 2)) behind ∙ f.dropped);
    }
