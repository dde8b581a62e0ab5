-- The plan of a network by the vertices that remain: its ending, its next step, and the columns of its steps.
use mathlib.Core.Path.{◌≡◌, refl, sym, ◌∙◌, ap}
use mathlib.Core.Bool.{Bool}
use mathlib.Core.List.{List, [], ◌∷◌, map, append_assoc}
use Prim.Native.Nat.{ℕ, suc, ◌+◌, ◌-◌, ◌≤◌, ◌<◌}
use native.Mathlib.Numerals.{add-one}
use native.Mathlib.Omega.{arith}
use lib.IntN.{ℤ, pos}
use lib.ListN.{length, set, take, drop, replicate, length-set, take-append-drop}
use lib.Seq.{take-suc-set, drop-set-lt, drop-drop}
use Rattle.graph.specs.Split.{split, after}
use Rattle.graph.specs.Chain.{step_refusal, lift}
use Rattle.graph.specs.Plan.{chosen_step, plan_steps, plan_drop, plan_kept}
use Rattle.graph.specs.State.{Splittable}
use Rattle.graph.specs.declared.Network.{Network}
use Rattle.graph.specs.declared.Step.{Step}
use Rattle.graph.proofs.Rules.{ruled_step}
use Rattle.graph.proofs.Plans.{chosen-ruled}
use Rattle.base.specs.Answer.{over}
use Rattle.base.specs.Limits.{step_limit}
use Rattle.rules.specs.Running.{Running}
use Rattle.rules.specs.Plans.{over_at, planned, StepRoom}
use Rattle.rules.proofs.Steps.{step-splittable, running-after, fewer, v_below}

-- ── columns ──
module _ {A : Type 0} where
  -- nothing written leaves a column as it is
  over_none : (at : ℕ) (old : List A) → over_at at [] old ≡ old
  unfolding over_at over
  over_none at old = take-append-drop at old

  -- from the start on
  pub over-start : (xs old : List A) → over_at 0 xs old ≡ over xs old
  unfolding over_at over
  over-start xs old = refl

  -- an element stored, and more behind it
  over-next : (at : ℕ) (a : A) (xs old : List A) → at < length old
      → over_at (at + 1) xs (set old at a) ≡ over_at at (a ∷ xs) old
  unfolding over_at over
  over-next at a xs old h =
      let place : suc at + length xs ≡ at + suc (length xs) = omega arith in
      let same : drop (length xs) (drop (suc at) old) ≡ drop (suc (length xs)) (drop at old) =
      drop-drop (length xs) (suc at) old ∙ ap (λ k. drop k old) place ∙ sym (drop-drop (suc (length xs)) at old) in
      rw (add-one, take-suc-set old at a h, drop-set-lt (suc at) old at a (omega arith), same)
      (append_assoc (take at old) (a ∷ []) _)

-- columns that have room for every chain have room for a shorter one
pub room-for : {m n : ℕ} {v x y z : List ℕ} {cost : List ℤ} → StepRoom m v x y z cost → n ≤ m → StepRoom n v x y z cost
room-for room h = record {
  v_room = omega (arith, room.v_room);
  x_room = omega (arith, room.x_room);
  y_room = omega (arith, room.y_room);
  z_room = omega (arith, room.z_room);
  cost_room = omega (arith, room.cost_room);
}

-- new columns have room for every chain
pub new-columns : {n : ℕ} → n ≤ step_limit → let column = replicate {A = ℕ} step_limit 0 in
    StepRoom n column column column column (replicate step_limit (pos 0))
new-columns h = record {
  v_room = omega arith;
  x_room = omega arith;
  y_room = omega arith;
  z_room = omega arith;
  cost_room = omega arith;
}

module _ (g : Network) where
  -- two vertices are left: the plan is the ending, and no step is written
  pub none_left : g.remaining ≤ 2 → g.remaining - 2 ≡ 0
  none_left h = omega arith

  pub column-at-end : {A : Type 0} → g.remaining ≤ 2 → (part : Step → A) (at : ℕ) (old : List A)
      → old ≡ planned part (g.remaining - 2) g at old
  unfolding plan_steps
  column-at-end h part at old = rw (none_left h) (sym (over_none at old))

  -- h is the network after the planner's step
  module _ (more : 2 < g.remaining) (h : Network) (after_is : h ≡ after g (chosen_step g)) where
    one_more : suc (h.remaining - 2) ≡ g.remaining - 2
    unfolding after split
    one_more = omega (arith, ap (λ h. h.remaining) after_is)

    drop-at-more : plan_drop (g.remaining - 2) g ≡ plan_drop (h.remaining - 2) h
    unfolding plan_drop
    drop-at-more = rw (← one_more) (rw after_is)

    kept-at-more : plan_kept (g.remaining - 2) g
        ≡ lift (chosen_step g).x (chosen_step g).y (chosen_step g).z (plan_kept (h.remaining - 2) h)
    unfolding plan_kept
    kept-at-more = rw (← one_more) (rw after_is)

    steps-at-more : plan_steps (g.remaining - 2) g ≡ chosen_step g ∷ plan_steps (h.remaining - 2) h
    unfolding plan_steps
    steps-at-more = rw (← one_more) (rw after_is)

-- the planner's step is not refused
chosen-passes : {g : Network} → Running g → step_refusal g (chosen_step g) ≡ 0
chosen-passes {g} run = ruled_step run.sound run.left (chosen_step g) (chosen-ruled run.sound run.left)

-- the planner's step as it is carried out
module _ {g : Network} (run : Running g) (more : 2 < g.remaining) (t : Step) (chosen : t ≡ chosen_step g) where
  pub chosen-splittable : Splittable g t.x t.y t.z
  chosen-splittable = rw chosen (step-splittable run more (chosen_step g) (chosen-passes run))

  pub chosen-below : t.v < g.vertices
  chosen-below = rw chosen (v_below run more (chosen_step g) (chosen-passes run))

-- the planner's step t on a network of more than two vertices, and the network h that it leaves
pub record Taken (g : Network) (t : Step) (h : Network) : Type 0 where
  pub run : Running g
  pub more : 2 < g.remaining
  pub chosen : t ≡ chosen_step g
  pub left : h ≡ split g t.v t.x t.y t.z

module _ {g h : Network} {t : Step} (k : Taken g t h) where
  after_is : h ≡ after g (chosen_step g)
  unfolding after
  after_is = k.left ∙ rw k.chosen

  pub next-running : Running h
  next-running = rw after_is (running-after k.run k.more (chosen_step g) (chosen-passes k.run))

  pub next-fewer : {n : ℕ} → g.remaining ≡ n → h.remaining < n
  next-fewer e = rw after_is (fewer g (chosen_step g) k.more e)

  -- there is room for one step less from the next place on, also in a column in which an element was stored
  pub next-room : (at room : ℕ) → at + (g.remaining - 2) ≤ room → at + 1 + (h.remaining - 2) ≤ room
  next-room at room l = omega (arith, one_more g k.more h after_is)

  pub room-stored : {A : Type 0} (at : ℕ) (a : A) (old stored : List A) → at + (g.remaining - 2) ≤ length old
      → stored ≡ set old at a → at + 1 + (h.remaining - 2) ≤ length stored
  room-stored at a old stored l e = next-room at (length stored) (rw (e, length-set) l)

  -- its plan's dropped edge, and its marks lifted
  pub next-drop : {d : ℕ} → d ≡ plan_drop (h.remaining - 2) h → d ≡ plan_drop (g.remaining - 2) g
  next-drop e = e ∙ sym (drop-at-more g k.more h after_is)

  pub next-kept : {K L : List Bool} → L ≡ plan_kept (h.remaining - 2) h → K ≡ lift t.x t.y t.z L
      → K ≡ plan_kept (g.remaining - 2) g
  next-kept e l = l ∙ rw (k.chosen, e) (sym (kept-at-more g k.more h after_is))

  -- a column in which the step's part stands before the later steps'
  pub next-column : {A : Type 0} (part : Step → A) (at : ℕ) (old stored out : List A)
      → at + (g.remaining - 2) ≤ length old → stored ≡ set old at (part t)
      → out ≡ planned part (h.remaining - 2) h (at + 1) stored
      → out ≡ planned part (g.remaining - 2) g at old
  next-column part at old stored out room s e =
      let more = k.more in
      e ∙ rw (s, k.chosen) (over-next at (part (chosen_step g)) _ old (omega (arith, more)))
      ∙ ap (λ ts. over_at at (map part ts) old) (sym (steps-at-more g k.more h after_is))
