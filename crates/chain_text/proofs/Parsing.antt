-- A chain text that is parsed into working columns, by what is found: its vertices, its steps, its ending.
-- Assumes nothing.
use mathlib.Core.Path.{◌≡◌, refl, ap}
use mathlib.Core.Bool.{Bool, true, false, cond}
use mathlib.Core.List.{List, [], ◌∷◌}
use Prim.Native.Nat.{ℕ, zero, suc, ◌*◌, ◌-◌, ◌≤◌, ◌<◌}
use native.Mathlib.Omega.{arith}
use lib.ListN.{length, drop, length-drop}
use borrow.Author.Tests.{le-leb, lt-leb}
use Rattle.std.proofs.Common.{Ok, Err}
use Rattle.base.specs.Answer.{Answer, refused, answer, number_of, and_then, refusal_of}
use Rattle.base.specs.Limits.{fewest_vertices, vertices_ok}
use Rattle.base.specs.Refusals.{FORM}
use Rattle.base.specs.declared.refusals.Refusal.{Refusal}
use Rattle.base.specs.declared.refusals.Refusal.TheVariants.{Vertices}
use Rattle.base.proofs.Answers.{number-above}
use Rattle.base.proofs.Bools.{no_answer}
use Rattle.base.proofs.Numbered.{Numbered, answered, refused-by, then-meeting}
use Rattle.frame.specs.Table.{STEP, DROPPED, line_length}
use Rattle.frame.specs.Line.{is_line, fields_of, read_line}
use Rattle.frame.specs.Kinds.{step_of, dropped_of}
use Rattle.frame.specs.declared.line.Fields.{Fields}
use Rattle.frame.specs.declared.kinds.Step.{Step}
use Rattle.frame.specs.declared.kinds.Dropped.{Dropped}
use Rattle.frame.proofs.Runs.{Next, none_read}
use Rattle.chain_text.specs.Columns.{Columns, Each}
use Rattle.chain_text.specs.Text.{Meaning, steps_in, ending_in, chain_in, read_chain, read_reply}
use Rattle.chain_text.specs.Working.{StepsRead, ChainRead}

-- the ending at a place
module _ (text : List ℕ) (at : ℕ) where
  pub ending-broken : {j : ℕ} → refused j ≡ read_line DROPPED text at → refused FORM ≡ ending_in (drop at text)
  unfolding ending_in
  ending-broken e = rw (none_read DROPPED at text e)

  module _ {f : Fields} {next : ℕ} (e : Next DROPPED at text f next) where
    pub ending-left : next < length text → refused FORM ≡ ending_in (drop at text)
    unfolding ending_in
    ending-left h =
        rw (e.is, lt-leb (length (drop at text)) (line_length DROPPED) (omega (arith, length-drop at text, e.place)))

    pub ending-read : length text ≤ next → {d : Dropped} → d ≡ dropped_of f → answer d.edge ≡ ending_in (drop at text)
    unfolding ending_in
    ending-read h q =
        rw (
          q,
          e.fields,
          e.is,
          le-leb (length (drop at text)) (line_length DROPPED) (omega (arith, length-drop at text, e.place)),
        )

-- the only refusal of steps is 1
steps-numbered : (k : ℕ) (t : List ℕ) → Numbered FORM (steps_in k t)
unfolding steps_in
steps-numbered zero t = answered []
steps-numbered (suc k) t =
    let later = drop (line_length STEP) t in go (is_line STEP t) (steps_in k later) (steps-numbered k later)
  where
    go : (b : Bool) (a : Answer (List Step)) → Numbered FORM a
        → Numbered FORM (cond b (and_then a (λ ss. answer (step_of (fields_of STEP t) ∷ ss))) (refused FORM))
    go true a h = then-meeting a _ h (λ ss. answered (step_of (fields_of STEP t) ∷ ss))
    go false a h = refused-by FORM (omega arith) (omega arith)

-- as many steps are read as are due
steps-count : (k : ℕ) (t : List ℕ) (ss : List Step) → steps_in k t ≡ answer ss → length ss ≡ k
unfolding steps_in and_then
steps-count zero t ss e = let p : ss ≡ [] = cc in rw p
steps-count (suc k) t ss e =
    let later = drop (line_length STEP) t in go (is_line STEP t) (steps_in k later) (steps-count k later) e
  where
    go : (b : Bool) (a : Answer (List Step)) → ((ls : List Step) → a ≡ answer ls → length ls ≡ k)
        → cond b (and_then a (λ ss. answer (step_of (fields_of STEP t) ∷ ss))) (refused FORM) ≡ answer ss
        → length ss ≡ suc k
    go false a w e = no_answer (cc)
    go true (refused j) w e = no_answer (cc)
    go true (answer ls) w e = let p : ss ≡ step_of (fields_of STEP t) ∷ ls = cc in rw p (ap suc (w ls refl))

-- the answer for a chain, by that for its steps and that for its ending
abbrev pub both : Answer (List Step) → Answer ℕ → Answer Meaning
both a b = and_then a (λ ss. and_then b (λ d. answer (record { steps = ss; dropped = d })))

-- a chain for n vertices, and columns that are to hold it
module _ (n : ℕ) (text : List ℕ) (old : Columns) where
  pub out-of-limits : vertices_ok n ≡ false → ChainRead (read_chain n text) old old (Err Vertices)
  unfolding read_chain read_reply
  out-of-limits e =
      rw e (record { reply = refl; held = record { v = refl; x = refl; y = refl; z = refl; cost = refl } })

  module _ (h : vertices_ok n ≡ true) where
    due : {line : ℕ} → line ≡ line_length STEP
        → read_chain n text
        ≡ both (steps_in (n - fewest_vertices) text) (ending_in (drop ((n - fewest_vertices) * line) text))
    unfolding read_chain chain_in
    due p = rw (h, p)

    pub steps-refused : {new : Columns} {q : Refusal} → StepsRead (steps_in (n - fewest_vertices) text) old new (Err q)
        → ChainRead (read_chain n text) old new (Err q)
    unfolding and_then refusal_of read_reply
    steps-refused {new} {q} s =
        let ending = ending_in (drop ((n - fewest_vertices) * line_length STEP) text) in
        rw (due refl) (go (steps_in (n - fewest_vertices) text) ending s)
      where
        go : (a : Answer (List Step)) (b : Answer ℕ) → StepsRead a old new (Err q)
            → ChainRead (both a b) old new (Err q)
        go (refused k) b p = record { reply = ap refused p.reply; held = p.held }
        go (answer ss) b p = absurd (omega (arith, p.reply, number-above q))

    -- the steps are there: what stands behind them
    module _ {new : Columns} (s : StepsRead (steps_in (n - fewest_vertices) text) old new (Ok tt)) {line : ℕ}
        (size : line ≡ line_length STEP) where
      pub ending-refused : {q : Refusal} → refused (number_of q) ≡ ending_in (drop ((n - fewest_vertices) * line) text)
          → Each (λ A part. length (part new) ≡ length (part old))
          → ChainRead (read_chain n text) old new (Err q)
      unfolding and_then read_reply refusal_of
      ending-refused {q} e kept = rw (due size, ← e) (go (steps_in (n - fewest_vertices) text) refl s)
        where
          go : (a : Answer (List Step)) → steps_in (n - fewest_vertices) text ≡ a → StepsRead a old new (Ok tt)
              → ChainRead (both a (refused (number_of q))) old new (Err q)
          go (refused k) e p =
              absurd (omega (arith, p.reply, ((steps-numbered (n - fewest_vertices) text).number k e).0))
          go (answer ss) e p = record { reply = refl; held = kept }

      pub chain-read : {d : ℕ} → answer d ≡ ending_in (drop ((n - fewest_vertices) * line) text)
          → ChainRead (read_chain n text) old new (Ok (record { steps = n - fewest_vertices; dropped = d }))
      unfolding and_then read_reply refusal_of
      chain-read {d} e = rw (due size, ← e) (go (steps_in (n - fewest_vertices) text) refl s)
        where
          go : (a : Answer (List Step)) → steps_in (n - fewest_vertices) text ≡ a → StepsRead a old new (Ok tt)
              → ChainRead (both a (answer d)) old new (Ok (record { steps = n - fewest_vertices; dropped = d }))
          go (refused k) q p =
              absurd (omega (arith, p.reply, ((steps-numbered (n - fewest_vertices) text).number k q).0))
          go (answer ss) q p =
              record { reply = rw (steps-count (n - fewest_vertices) text ss q); held = p.held }
