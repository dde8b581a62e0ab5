-- What is owed of chain texts: texts and meanings are one to one, and the writer refuses as the reader would.
use Rattle.std.specs.Prelude.{◌≡◌, true, false, List, [], ◌∷◌, ℕ, ◌-◌, ◌^◌, ◌<◌, ℤ}
use Rattle.std.specs.Int.Signed.{mag}
use Rattle.base.specs.Answer.{refused, answer, and_then}
use Rattle.base.specs.Limits.{fewest_vertices, vertices_ok}
use Rattle.base.specs.Refusals.{FORM, VERTICES}
use Rattle.base.specs.Words.{Words}
use Rattle.chain_text.specs.Columns.{Columns}
use Rattle.chain_text.specs.Text.{Meaning, in_columns, read_chain, chain_text, Even, write_chain}

-- costs of 64 bits, as the services take them
abbrev pub CostWords : List ℤ → Type 0
CostWords [] = Unit
CostWords (c ∷ cs) = (mag c < 2 ^ 63) × CostWords cs

-- a chain in columns whose numbers have room in their frames: 16 bits, as the services take them, and 64 for a cost
pub record Spellable (c : Columns) (d : ℕ) : Type 0 where
  pub in_v : Words c.v
  pub in_x : Words c.x
  pub in_y : Words c.y
  pub in_z : Words c.z
  pub in_cost : CostWords c.cost
  pub ending : d < 2 ^ 16

-- the reader finds a chain in columns again in a text
pub record ReadBack (n : ℕ) (t : List ℕ) (c : Columns) (d : ℕ) : Type 0 where
  pub meaning : Meaning
  pub is : read_chain n t ≡ answer meaning
  pub same_columns : in_columns meaning ≡ c
  pub same_ending : meaning.dropped ≡ d

pub record OneToOne : Type 0 where
  -- 'chain texts .. can be written from their meanings as well: the reader finds that meaning again in the written
  -- text,
  pub read_written : (n : ℕ) (c : Columns) (d : ℕ) (t : List ℕ) → Spellable c d → write_chain n c d ≡ answer t
      → ReadBack n t c d
  -- and no other text has it': what is read is the text that is written for its meaning
  pub written_read : (n : ℕ) (t : List ℕ) (m : Meaning) → read_chain n t ≡ answer m
      → write_chain n (in_columns m) m.dropped ≡ answer t
  pub one_text : (n : ℕ) (s t : List ℕ) (m : Meaning) → read_chain n s ≡ answer m → read_chain n t ≡ answer m → s ≡ t
  -- 'What the reader would refuse is turned down by the writer with the reader's number, in the reader's order,
  pub same_refusal : (n : ℕ) (m : Meaning) → Spellable (in_columns m) m.dropped
      → write_chain n (in_columns m) m.dropped
      ≡ and_then (read_chain n (chain_text m.steps m.dropped)) (λ _. answer (chain_text m.steps m.dropped))
  -- a wrong count of frames included': a column in which a step is missing, or left over
  pub wrong_count : (n : ℕ) (c : Columns) (d : ℕ) → vertices_ok n ≡ true → (Even (n - fewest_vertices) c → ⊥)
      → write_chain n c d ≡ refused FORM
  -- 'Chain texts and audit lists are read and written for a given n; one outside its limits gives 2 before all else'
  pub limits_first : (n : ℕ) → vertices_ok n ≡ false
      → ((t : List ℕ) → read_chain n t ≡ refused VERTICES)
      × ((c : Columns) (d : ℕ) → write_chain n c d ≡ refused VERTICES)
