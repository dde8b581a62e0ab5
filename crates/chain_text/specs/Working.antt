-- What the functions over working columns are asked, and what they leave in the columns.
use Rattle.std.specs.Prelude.{◌≡◌, List, ℕ, ◌≤◌, ◌<◌, length, get_or, pos, Result}
use Rattle.base.specs.Answer.{Answer, told, refusal_of, Held}
use Rattle.base.specs.declared.refusals.Refusal.{Refusal}
use Rattle.frame.specs.declared.kinds.Step.{Step}
use Rattle.chain_text.specs.Columns.{Columns, columns_of, Each}
use Rattle.chain_text.specs.Text.{Meaning, in_columns, read_reply}
use Rattle.chain_text.specs.declared.chain.ReadChain.{ReadChain}

-- columns that have room for k steps
abbrev pub Room : ℕ → Columns → Type 0
Room k c = Each (λ A part. k ≤ length (part c))

-- columns afterwards: each holds its part of an answer, or, after a refusal, anything of its length
abbrev pub AllHeld : {M : Type 0} → (M → Columns) → Answer M → Columns → Columns → Type 0
AllHeld of a old new = Each (λ A part. Held (λ m. part (of m)) a (part old) (part new))

-- what reading steps into working columns replies, and what the columns hold
pub record StepsRead (a : Answer (List Step)) (old new : Columns) (r : Result (Unit {0}) Refusal) : Type 0 where
  pub reply : refusal_of (told r) ≡ refusal_of a
  pub held : AllHeld columns_of a old new

-- what reading a chain text into working columns replies, and what the columns hold
pub record ChainRead (a : Answer Meaning) (old new : Columns) (r : Result ReadChain Refusal) : Type 0 where
  pub reply : told r ≡ read_reply a
  pub held : AllHeld in_columns a old new

-- columns that have a step at a place
abbrev pub StepThere : Columns → ℕ → Type 0
StepThere c i = Each (λ A part. i < length (part c))

-- that step
abbrev pub step_at : Columns → ℕ → Step
step_at c i =
    record {
      v = get_or c.v i 0;
      x = get_or c.x i 0;
      y = get_or c.y i 0;
      z = get_or c.z i 0;
      cost = get_or c.cost i (pos 0);
    }
