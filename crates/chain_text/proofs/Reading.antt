-- What is known while the steps of a chain text are read into columns, one after the other.
-- Assumes nothing.
use mathlib.Core.Path.{◌≡◌, refl, sym, ◌∙◌}
use mathlib.Core.List.{List, [], ◌∷◌, ◌++◌}
use Prim.Native.Nat.{ℕ, suc, ◌+◌, ◌-◌, ◌^◌, ◌≤◌, ◌<◌}
use native.Mathlib.Omega.{arith}
use native.Mathlib.Nat.{sub-zero}
use lib.ListN.{length, drop, set, length-append}
use lib.Seq.{drop-drop}
use Rattle.std.proofs.Common.{Ok, Err}
use Rattle.base.specs.Answer.{refused, answer, refusal_of}
use Rattle.base.specs.Refusals.{FORM}
use Rattle.base.specs.declared.refusals.Refusal.TheVariants.{Form}
use Rattle.base.proofs.Held.{Storing, storing-none, part-next}
use Rattle.base.proofs.Taking.{first, behind, behind-none, behind-next, behind-refused, behind-all}
use Rattle.frame.specs.Table.{STEP}
use Rattle.frame.specs.Line.{read_line}
use Rattle.frame.specs.Kinds.{step_of}
use Rattle.frame.specs.declared.line.Fields.{Fields}
use Rattle.frame.specs.declared.kinds.Step.{Step}
use Rattle.frame.proofs.Runs.{Next, none_read}
use Rattle.chain_text.specs.Columns.{Columns, columns, columns_of, Each}
use Rattle.chain_text.specs.Text.{steps_in}
use Rattle.chain_text.specs.Working.{Room, StepsRead}
use Rattle.chain_text.proofs.Columns.{each}
use Rattle.chain_text.proofs.Texts.{step-short}

-- the first line of what is left: a step, or none
module _ (k : ℕ) (text : List ℕ) (at : ℕ) where
  left-next : (f : Fields) (next : ℕ) → Next STEP at text f next
      → steps_in (suc k) (drop at text) ≡ first (step_of f) (steps_in k (drop next text))
  unfolding steps_in first
  left-next f next e = rw (e.is, e.fields, e.place, drop-drop)

  left-broken : {j : ℕ} → refused j ≡ read_line STEP text at → steps_in (suc k) (drop at text) ≡ refused FORM
  unfolding steps_in
  left-broken e = rw (none_read STEP at text e)

-- the numbers of a step that is read have 16 bits
pub step-words : {text : List ℕ} {at : ℕ} {f : Fields} {next : ℕ} → Next STEP at text f next
    → {s : Step} → s ≡ step_of f → (s.v < 2 ^ 16) × (s.x < 2 ^ 16) × (s.y < 2 ^ 16) × (s.z < 2 ^ 16)
step-words e q = rw q (step-short _ e.fits)

-- i of k steps are taken: they and those that are left make all of them, and each column starts with its part of them
pub record Reading (k : ℕ) (text : List ℕ) (old new : Columns) (at i : ℕ) : Type 0 where
  pub steps : List Step
  pub count : length steps ≡ i
  pub within : i ≤ k
  pub all : behind steps (steps_in (k - i) (drop at text)) ≡ steps_in k text
  pub stored : Each (λ A part. Storing (part (columns_of steps)) (part old) (part new))

pub reading-none : {k : ℕ} {text : List ℕ} {c : Columns} → Reading k text c c 0 0
reading-none {k} {text} =
    record {
      steps = [];
      count = refl;
      within = omega arith;
      all = rw sub-zero (behind-none (steps_in k text));
      stored =
          record { v = storing-none; x = storing-none; y = storing-none; z = storing-none; cost = storing-none };
    }

-- columns with a step stored at a place
abbrev pub step_stored : Columns → ℕ → Step → Columns
step_stored c i s =
    columns (set c.v i s.v) (set c.x i s.x) (set c.y i s.y) (set c.z i s.z)
    (set c.cost i s.cost)

module _ {k : ℕ} {text : List ℕ} {old new : Columns} {at i : ℕ} (r : Reading k text old new at i) where
  -- a step is due
  module _ (h : i < k) where
    one-due : k - i ≡ suc (k - (i + 1))
    one-due = omega arith

    pub reading-broken : {j : ℕ} → refused j ≡ read_line STEP text at → StepsRead (steps_in k text) old new (Err Form)
    unfolding refusal_of
    reading-broken e =
        let whole : refused FORM ≡ steps_in k text =
        sym (behind-refused r.steps FORM) ∙ rw (one-due, left-broken (k - (i + 1)) text at e) at r.all in
        rw (← whole) (record { reply = refl; held = each (λ A part s. s.size) r.stored })

    -- and is there: each column takes its part of it
    pub reading-next : Room k old → {f : Fields} {next : ℕ} → Next STEP at text f next → {s : Step} → s ≡ step_of f
        → Reading k text old (step_stored new i s) next (i + 1)
    reading-next room {f} {next} e {s} q =
        record {
          steps = r.steps ++ (s ∷ []);
          count = length-append r.steps (s ∷ []) ∙ omega (arith, r.count);
          within = omega arith;
          all =
              sym (behind-next r.steps s (steps_in (k - (i + 1)) (drop next text)))
              ∙ rw q (rw (one-due, left-next (k - (i + 1)) text at f next e) at r.all);
          stored =
              record {
                v = part-next (λ s. s.v) r.steps s r.stored.v r.count (omega (arith, room.v));
                x = part-next (λ s. s.x) r.steps s r.stored.x r.count (omega (arith, room.x));
                y = part-next (λ s. s.y) r.steps s r.stored.y r.count (omega (arith, room.y));
                z = part-next (λ s. s.z) r.steps s r.stored.z r.count (omega (arith, room.z));
                cost = part-next (λ s. s.cost) r.steps s r.stored.cost r.count (omega (arith, room.cost));
              };
        }

  -- all are taken
  pub reading-all : k ≤ i → StepsRead (steps_in k text) old new (Ok tt)
  unfolding refusal_of steps_in
  reading-all h =
      let none-due : k - i ≡ 0 = omega arith in
      let whole : answer r.steps ≡ steps_in k text = sym (behind-all r.steps) ∙ rw none-due at r.all in
      rw (← whole) (record { reply = refl; held = each (λ A part s. s.holds) r.stored })
