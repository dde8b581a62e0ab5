-- Handing the texts of a plan over.
use mathlib.Core.Path.{◌≡◌, refl, sym, ◌∙◌, ap}
use mathlib.Core.Bool.{Bool, and-false}
use mathlib.Core.Logic.{◌⊎◌, inl, inr, ⊎_elim}
use mathlib.Core.List.{List, [], ◌∷◌, map}
use Rattle.std.proofs.Common.{Result}
use Prim.Native.Nat.{ℕ, zero, suc, ◌-◌, ◌≤◌, ◌<◌}
use native.Mathlib.Omega.{arith}
use native.Mathlib.Decide.{dec_lt}
use lib.IntN.{ℤ}
use lib.ListN.{length, take, drop, length-append, length-map}
use lib.Seq.{take_at}
use borrow.Author.Tests.{le-leb, lt-leb}
use Rattle.base.specs.Answer.{Answer, refused, answer, and_then, given, over, filled, room_in}
use Rattle.base.specs.Refusals.{SHORT}
use Rattle.base.proofs.Bools.{no_answer}
use Rattle.base.proofs.Answers.{then-refused, given-refused, given-short, given-fits, filled-refused, filled-answer}
use Rattle.chain_text.specs.Text.{chain_text, steps_of, chain_length}
use Rattle.chain_text.proofs.Lengths.{length-chain}
use Rattle.graph.specs.Split.{after}
use Rattle.graph.specs.Plan.{chosen_step, plan_steps, plan_drop, plan_kept}
use Rattle.graph.specs.declared.Network.{Network}
use Rattle.graph.specs.declared.Step.{Step}
use Rattle.graph.proofs.Backs.{passes-good}
use Rattle.graph.proofs.Condition.{plan-checked}
use Rattle.loading.specs.Loading.{load_network, loaded_answer}
use Rattle.base.specs.declared.refusals.Refusal.{Refusal}
use Rattle.loading.specs.declared.loaded.Loaded.{Loaded}
use Rattle.rules.specs.Plans.{planned as columnPlanned, StepRoom}
use Rattle.rules.proofs.Planning.{over-start}
use Rattle.rules.specs.Running.{Running}
use Rattle.claim.specs.Plans.{in_frame, plan_chain}
use Rattle.claim.specs.Services.{Texts, accepting, kept_text_of, texts_of, plan_of, plan_room, texts_given, plan_in}
use Rattle.claim.specs.Services.{plan_given, planned_of, Planning}
use Rattle.claim.proofs.Accepting.{accept-loaded, running-few, running-keeping}

-- ── lengths ──
steps-count : (n : ℕ) (g : Network) → length (plan_steps n g) ≡ n
unfolding plan_steps
steps-count zero g = refl
steps-count (suc n) g = ap suc (steps-count n (after g (chosen_step g)))

pub chain-size : (n : ℕ) (g : Network) → length (plan_chain n g) ≡ chain_length n
unfolding plan_chain chain_length
chain-size n g = length-chain (map in_frame (plan_steps n g)) (plan_drop n g)
    ∙ ap chain_length (length-map (plan_steps n g) in_frame ∙ steps-count n g)

-- ── both, or neither ──

-- texts that are due, and two buffers
module _ {w : Answer Texts} {due : Texts} (e : w ≡ answer due) (chain kept : List ℕ) where
  pub too_short : (length chain < length due.chain) ⊎ (length kept < length due.kept)
      → given (plan_room chain kept) w ≡ refused SHORT
  unfolding plan_room room_in
  too_short s = given-short (plan_room chain kept) w due e (⊎_elim
      (λ l. rw (lt-leb (length due.chain) (length chain) l))
      (λ l. rw (lt-leb (length due.kept) (length kept) l) (and-false (room_in chain due.chain))) s)

  pub long-enough : length due.chain ≤ length chain → length due.kept ≤ length kept
      → given (plan_room chain kept) w ≡ answer due
  unfolding plan_room room_in
  long-enough c k = given-fits (plan_room chain kept) w due e
      (rw (le-leb (length due.chain) (length chain) c, le-leb (length due.kept) (length kept) k))

-- the same of a plan's texts, by how long its chain is
module _ (g : Network) (K : List Bool) (chain kept : List ℕ) where
  pub short-chain : length chain < chain_length (g.remaining - 2) → texts_given g K chain kept ≡ refused SHORT
  unfolding texts_given texts_of
  short-chain h = too_short refl chain kept (inl (omega (arith, chain-size (g.remaining - 2) g)))

  pub short-kept : length kept < length (kept_text_of g K) → texts_given g K chain kept ≡ refused SHORT
  unfolding texts_given texts_of
  short-kept h = too_short refl chain kept (inr h)

  pub both-fit : chain_length (g.remaining - 2) ≤ length chain → length (kept_text_of g K) ≤ length kept
      → texts_given g K chain kept ≡ answer (texts_of g K)
  unfolding texts_given texts_of
  both-fit h k = long-enough refl chain kept (omega (arith, chain-size (g.remaining - 2) g)) k

-- a reply and two buffers after a refusal, and after an answer
module _ (a : Answer Texts) (chain kept : List ℕ) where
  pub handed-refused : (k : ℕ) → a ≡ refused k
      → (refused k ≡ planned_of a) ×
      ((chain ≡ filled (λ t. t.chain) a chain) × (kept ≡ filled (λ t. t.kept) a kept))
  unfolding planned_of
  handed-refused k e =
      (rw e, (sym (filled-refused (λ t. t.chain) a chain k e), sym (filled-refused (λ t. t.kept) a kept k e)))

  pub handed-over : (t : Texts) → a ≡ answer t
      → (answer (record { chain = length t.chain; kept = length t.kept }) ≡ planned_of a)
      × ((over t.chain chain ≡ filled (λ t. t.chain) a chain) ×
      (over t.kept kept ≡ filled (λ t. t.kept) a kept))
  unfolding planned_of
  handed-over t e = (
    rw e,
    (sym (filled-answer (λ t. t.chain) a chain t e), sym (filled-answer (λ t. t.kept) a kept t e)),
  )

-- 13 is given for a buffer that is short, and for nothing else
pub which-short : {w : Answer Texts} {due : Texts} → w ≡ answer due → (chain kept : List ℕ)
    → planned_of (given (plan_room chain kept) w) ≡ refused SHORT
    → (length chain < length due.chain) ⊎ (length kept < length due.kept)
which-short {w} {due} e chain kept h = elim (dec_lt (length chain) (length due.chain)) [
  | yes l ↦ inl l
  | no c ↦ elim (dec_lt (length kept) (length due.kept)) [
    | yes l ↦ inr l
    | no k ↦ let x = (handed-over (given (plan_room chain kept) w) chain kept due
        (long-enough e chain kept (omega arith) (omega arith))).0 in no_answer (cc)
  ]
]

-- ── columns of steps ──

-- a column over whose start the plan's steps are written has them there
column-written : {A : Type 0} (n : ℕ) (g : Network) (part : Step → A) (old out : List A) → n ≤ length old
    → out ≡ columnPlanned part n g 0 old → (n ≤ length out) × (take n out ≡ map part (plan_steps n g))
unfolding over
column-written n g part old out room e =
    let xs = map part (plan_steps n g) in
    let size : length xs ≡ n = length-map (plan_steps n g) part ∙ steps-count n g in
    let written : out ≡ over xs old = e ∙ over-start xs old in (
      rw written (omega (arith, length-append xs (drop (length xs) old))),
      rw written (take_at xs (drop (length xs) old) n size),
    )

-- steps taken apart into columns
columns-are : (ts : List Step)
    → steps_of (map (λ t. t.v) ts) (map (λ t. t.x) ts) (map (λ t. t.y) ts) (map (λ t. t.z) ts) (map (λ t. t.cost) ts)
    ≡ map in_frame ts
unfolding steps_of
columns-are [] = refl
columns-are (t ∷ ts) = ap (λ ss. in_frame t ∷ ss) (columns-are ts)

-- ── the plan of an accepted network ──
module _ (a : Answer Network) (chain kept : List ℕ) where
  pub plan-refused : (k : ℕ) → a ≡ refused k → plan_in a chain kept ≡ refused k
  plan-refused k e = given-refused (plan_room chain kept) (plan_of a) k (then-refused a _ k e)

  pub plan-given : (g : Network) → a ≡ answer g → (K : List Bool) → K ≡ plan_kept (g.remaining - 2) g
      → texts_given g K chain kept ≡ plan_in a chain kept
  unfolding and_then texts_given
  plan-given g e K q = rw (e, q)

-- what a text loads is planned as the text is
pub plan-loaded : (t chain kept : List ℕ) (l : Result Loaded Refusal) → loaded_answer l ≡ load_network t
    → plan_in (accepting (loaded_answer l)) chain kept ≡ plan_given t chain kept
unfolding plan_given
plan-loaded t chain kept l e = ap (λ a. plan_in a chain kept) (accept-loaded t l e)

-- the plan's steps stand at the start of the columns that they were written into
module _ {g : Network} (run : Running g) (v₀ x₀ y₀ z₀ v x y z : List ℕ) (cost₀ cost : List ℤ) where
  pub plan-ready : let n = g.remaining - 2 in StepRoom n v₀ x₀ y₀ z₀ cost₀ → (K : List Bool) → K ≡ plan_kept n g
      → (d : ℕ) → d ≡ plan_drop n g → v ≡ columnPlanned (λ t. t.v) n g 0 v₀ → x ≡ columnPlanned (λ t. t.x) n g 0 x₀
      → y ≡ columnPlanned (λ t. t.y) n g 0 y₀ → z ≡ columnPlanned (λ t. t.z) n g 0 z₀
      → cost ≡ columnPlanned (λ t. t.cost) n g 0 cost₀ → Planning g K d v x y z cost
  unfolding plan_chain
  plan-ready room K q d p ev ex ey ez ec =
      let n = g.remaining - 2 in
      let good = passes-good (plan_steps n g) run.sound (plan_drop n g) (plan_kept n g)
      (plan-checked n run.sound (omega (arith, run.left))) in
      let cv = column-written n g (λ t. t.v) v₀ v room.v_room ev in
      let cx = column-written n g (λ t. t.x) x₀ x room.x_room ex in
      let cy = column-written n g (λ t. t.y) y₀ y room.y_room ey in
      let cz = column-written n g (λ t. t.z) z₀ z room.z_room ez in
      let ck = column-written n g (λ t. t.cost) cost₀ cost room.cost_room ec in
      record {
        keeping = rw q (running-keeping run (plan_kept n g) good.sized);
        several = run.left;
        vertex_room = running-few run;
        column_room = record { v_room = cv.0; x_room = cx.0; y_room = cy.0; z_room = cz.0; cost_room = ck.0 };
        chain_is = rw (cv.1, cx.1, cy.1, cz.1, ck.1, p) (ap (λ ss. chain_text ss (plan_drop n g)) (columns-are (plan_steps n g)));
      }
