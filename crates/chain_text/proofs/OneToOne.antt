-- Chain texts and their meanings, one to one: the argument for what is owed, `one_to_one`.
-- Assumes nothing.
use mathlib.Core.Path.{◌≡◌, refl, sym, ◌∙◌, ap}
use mathlib.Core.Bool.{Bool, true, false, cond, ◌&&◌}
use mathlib.Core.List.{List, [], ◌∷◌}
use Prim.Native.Nat.{ℕ, zero, suc, ◌+◌, ◌-◌, ◌*◌, ◌^◌, ◌<◌}
use native.Mathlib.Omega.{arith}
use native.Mathlib.Nat.{zero-mul, suc-mul}
use lib.Dec.{leb, eqb}
use lib.ListN.{length, drop, length-map, drop_of_length-le}
use lib.Seq.{drop-drop}
use borrow.Author.Tests.{eqb-true, eqb-false, le-leb, leb-true}
use Rattle.base.specs.Answer.{Answer, refused, answer, and_then}
use Rattle.base.specs.Limits.{fewest_vertices, vertices_ok}
use Rattle.base.specs.Refusals.{FORM, VERTICES}
use Rattle.base.proofs.Bools.{no_answer, and_left, and_right}
use Rattle.frame.specs.Table.{STEP, DROPPED, line_length}
use Rattle.frame.specs.Line.{is_line, fields_of}
use Rattle.frame.specs.Kinds.{step_of, dropped_of}
use Rattle.frame.specs.declared.kinds.Step.{Step}
use Rattle.frame.proofs.Named.{step-cost-spelt, step-found as step-named}
use Rattle.chain_text.specs.Columns.{Columns}
use Rattle.chain_text.specs.Text.{Meaning, in_columns, steps_in, ending_in, chain_in, read_chain, chain_text}
use Rattle.chain_text.specs.Text.{evenly, steps_across, write_chain}
use Rattle.chain_text.specs.OneToOne.{Spellable, ReadBack, OneToOne}
use Rattle.chain_text.proofs.Texts.{step_fits, step_is, step-found, step-rest, no-ending, ending-is}
use Rattle.chain_text.proofs.Texts.{ending-found, no_step, step-before, ending-alone}
use Rattle.chain_text.proofs.Parsing.{both}
use Rattle.chain_text.proofs.Lengths.{length-chain, length-ending}
use Rattle.chain_text.proofs.Columns.{even-columns, columns-back, length-steps, steps_back, steps-even}
use Rattle.chain_text.proofs.Columns.{write-limits, write-uneven, write-even}

-- ── a chain by its first frame ──

-- one step before those of a meaning
before : Step → Answer Meaning → Answer Meaning
before s a = and_then a (λ m. answer (record { steps = s ∷ m.steps; dropped = m.dropped }))

chain-ending : (t : List ℕ) → chain_in zero t ≡ and_then (ending_in t) (λ d. answer (record { steps = []; dropped = d }))
unfolding chain_in steps_in and_then
chain-ending t = rw zero-mul

chain_more : (k : ℕ) (t : List ℕ) → chain_in (suc k) t
    ≡ cond (is_line STEP t) (before (step_of (fields_of STEP t)) (chain_in k (drop (line_length STEP) t))) (refused FORM)
unfolding chain_in steps_in and_then before
chain_more k t =
    let later = drop (line_length STEP) t in
    let line = line_length STEP in
    let place : suc k * line ≡ line + k * line = omega (arith, suc-mul k line) in
    rw (place, ← drop-drop (k * line) line t) (go (is_line STEP t) (steps_in k later) (ending_in (drop (k * line) later)))
  where
    go : (b : Bool) (a : Answer (List Step)) (ending : Answer ℕ)
        → both (cond b (and_then a (λ ss. answer (step_of (fields_of STEP t) ∷ ss))) (refused FORM)) ending
        ≡ cond b (before (step_of (fields_of STEP t)) (both a ending)) (refused FORM)
    go true (refused j) ending = refl
    go true (answer ss) (refused j) = refl
    go true (answer ss) (answer d) = refl
    go false a ending = refl

-- ── the text of a meaning is read ──

ending-in : (d : ℕ) → d < 2 ^ 16 → ending_in (chain_text [] d) ≡ answer d
unfolding ending_in
ending-in d h =
    rw (
      ending-is d,
      ending-found d h,
      le-leb (length (chain_text [] d)) (line_length DROPPED) (omega (arith, length-chain [] d, length-ending)),
    )

-- as many steps as are due, or another number of them
found : (k : ℕ) (ss : List Step) (d : ℕ) → let m : Meaning = record { steps = ss; dropped = d } in
    Spellable (in_columns m) d → length ss ≡ k → chain_in k (chain_text ss d) ≡ answer m
unfolding before and_then
found zero [] d h e = chain-ending (chain_text [] d) ∙ rw (ending-in d h.ending)
found zero (s ∷ ss) d h e = absurd (omega arith)
found (suc k) [] d h e = absurd (omega arith)
found (suc k) (s ∷ ss) d h e =
    let spelt = step-cost-spelt s.cost h.in_cost.0 in
    let fits = step_fits s h.in_v.0 h.in_x.0 h.in_y.0 h.in_z.0 spelt in
    let m : Meaning = record { steps = ss; dropped = d } in
    let spellable : Spellable (in_columns m) d = record {
      in_v = h.in_v.1;
      in_x = h.in_x.1;
      in_y = h.in_y.1;
      in_z = h.in_z.1;
      in_cost = h.in_cost.1;
      ending = h.ending;
    } in
    chain_more k (chain_text (s ∷ ss) d)
    ∙ rw (
      step_is s ss d,
      step-found s ss d fits,
      step-named s spelt,
      step-rest s ss d,
      found k ss d spellable (omega arith),
    )

not_found : (k : ℕ) (ss : List Step) (d : ℕ) → (length ss ≡ k → ⊥) → chain_in k (chain_text ss d) ≡ refused FORM
unfolding ending_in before and_then
not_found zero [] d n = absurd (n refl)
not_found zero (s ∷ ss) d n = chain-ending (chain_text (s ∷ ss) d) ∙ rw (no-ending s ss d)
not_found (suc k) [] d n = chain_more k (chain_text [] d) ∙ rw (no_step d)
not_found (suc k) (s ∷ ss) d n =
    chain_more k (chain_text (s ∷ ss) d) ∙ rw (step_is s ss d, step-rest s ss d, not_found k ss d (λ e. n (ap suc e)))

-- ── a text that is read is that of its meaning ──

record TextOf (k : ℕ) (t : List ℕ) (m : Meaning) : Type 0 where
  text_is : t ≡ chain_text m.steps m.dropped
  count : length m.steps ≡ k

ending-text : (t : List ℕ) (m : Meaning) → chain_in zero t ≡ answer m → TextOf zero t m
unfolding ending_in and_then
ending-text t m e = go (is_line DROPPED t && leb (length t) (line_length DROPPED)) refl (sym (chain-ending t) ∙ e)
  where
    go : (b : Bool) → (is_line DROPPED t && leb (length t) (line_length DROPPED)) ≡ b
        → and_then (cond b (answer (dropped_of (fields_of DROPPED t)).edge) (refused FORM))
        (λ d. answer (record { steps = []; dropped = d })) ≡ answer m
        → TextOf zero t m
    go true h e =
        let p : [] ≡ m.steps = cc in
        let q : (dropped_of (fields_of DROPPED t)).edge ≡ m.dropped = cc in
        let is = and_left (is_line DROPPED t) (leb (length t) (line_length DROPPED)) h in
        let alone = leb-true _ _ (and_right (is_line DROPPED t) (leb (length t) (line_length DROPPED)) h) in
        record { text_is = rw (← p, ← q) (ending-alone t is (drop_of_length-le t alone)); count = ap length (sym p) }
    go false h e = no_answer (cc)

read-text : (k : ℕ) (t : List ℕ) (m : Meaning) → chain_in k t ≡ answer m → TextOf k t m
read-text zero t m e = ending-text t m e
read-text (suc k) t m e = go (is_line STEP t) refl (chain_in k later) (read-text k later) (sym (chain_more k t) ∙ e)
  where
    later : List ℕ
    later = drop (line_length STEP) t

    go : (b : Bool) → is_line STEP t ≡ b → (a : Answer Meaning) → ((l : Meaning) → a ≡ answer l → TextOf k later l)
        → cond b (before (step_of (fields_of STEP t)) a) (refused FORM) ≡ answer m → TextOf (suc k) t m
    go false i a w e = no_answer (cc)
    go true i (refused j) w e = unfold before and_then in no_answer (cc)
    go true i (answer l) w e =
        unfold before and_then in
        let p : step_of (fields_of STEP t) ∷ l.steps ≡ m.steps = cc in
        let d : l.dropped ≡ m.dropped = cc in
        let y = w l refl in
        record {
          text_is = rw (← p, ← d) (step-before t l.steps l.dropped i y.text_is);
          count = ap length (sym p) ∙ ap suc y.count;
        }

-- ── what is owed ──

write-meaning : (n : ℕ) (m : Meaning) → vertices_ok n ≡ true → length m.steps ≡ n - fewest_vertices
    → write_chain n (in_columns m) m.dropped ≡ answer (chain_text m.steps m.dropped)
write-meaning n m h e =
    write-even n (in_columns m) m.dropped h (steps-even m.steps e) ∙ rw (steps_back m.steps)

same_refusal : (n : ℕ) (m : Meaning) → Spellable (in_columns m) m.dropped
    → write_chain n (in_columns m) m.dropped
    ≡ and_then (read_chain n (chain_text m.steps m.dropped)) (λ _. answer (chain_text m.steps m.dropped))
unfolding read_chain and_then
same_refusal n m s = go (vertices_ok n) refl (eqb (length m.steps) (n - fewest_vertices)) refl
  where
    go : (b : Bool) → vertices_ok n ≡ b → (c : Bool) → eqb (length m.steps) (n - fewest_vertices) ≡ c
        → write_chain n (in_columns m) m.dropped
        ≡ and_then (read_chain n (chain_text m.steps m.dropped)) (λ _. answer (chain_text m.steps m.dropped))
    go false h c e = write-limits n (in_columns m) m.dropped h ∙ rw h
    go true h true e =
        let count = eqb-true _ _ e in
        write-meaning n m h count ∙ rw (h, found (n - fewest_vertices) m.steps m.dropped s count)
    go true h false e =
        let miscount = eqb-false _ _ e in
        write-uneven n (in_columns m) m.dropped h
        (λ p. miscount (sym (length-map m.steps (λ s. s.v)) ∙ p.v))
        ∙ rw (h, not_found (n - fewest_vertices) m.steps m.dropped miscount)

written_read : (n : ℕ) (t : List ℕ) (m : Meaning) → read_chain n t ≡ answer m
    → write_chain n (in_columns m) m.dropped ≡ answer t
unfolding read_chain
written_read n t m e = go (vertices_ok n) refl e
  where
    go : (b : Bool) → vertices_ok n ≡ b → cond b (chain_in (n - fewest_vertices) t) (refused VERTICES) ≡ answer m
        → write_chain n (in_columns m) m.dropped ≡ answer t
    go false h e = no_answer (cc)
    go true h e =
        let w = read-text (n - fewest_vertices) t m e in
        write-meaning n m h w.count ∙ ap answer (sym w.text_is)

read_written : (n : ℕ) (c : Columns) (d : ℕ) (t : List ℕ) → Spellable c d → write_chain n c d ≡ answer t
    → ReadBack n t c d
unfolding read_chain write_chain
read_written n c d t s e = go (vertices_ok n) refl (evenly (n - fewest_vertices) c) refl e
  where
    go : (b : Bool) → vertices_ok n ≡ b → (q : Bool) → evenly (n - fewest_vertices) c ≡ q
        → cond b (cond q (answer (chain_text (steps_across c) d)) (refused FORM)) (refused VERTICES) ≡ answer t
        → ReadBack n t c d
    go false h q u e = no_answer (cc)
    go true h false u e = no_answer (cc)
    go true h true u e =
        let even = even-columns u in
        let p : t ≡ chain_text (steps_across c) d = cc in
        let m : Meaning = record { steps = steps_across c; dropped = d } in
        let spellable : Spellable (in_columns m) d = rw (columns-back even) s in
        record {
          meaning = m;
          is = rw (p, h) (found (n - fewest_vertices) (steps_across c) d spellable (length-steps even));
          same_columns = columns-back even;
          same_ending = refl;
        }

limits_first : (n : ℕ) → vertices_ok n ≡ false
    → ((t : List ℕ) → read_chain n t ≡ refused VERTICES)
    × ((c : Columns) (d : ℕ) → write_chain n c d ≡ refused VERTICES)
unfolding read_chain
limits_first n h = (λ t. rw h, λ c d. write-limits n c d h)

pub one_to_one : OneToOne
one_to_one =
    record {
      read_written = read_written;
      written_read = written_read;
      one_text = λ n s t m p q. let a = written_read n s m p in let b = written_read n t m q in cc;
      same_refusal = same_refusal;
      wrong_count = write-uneven;
      limits_first = limits_first;
    }
