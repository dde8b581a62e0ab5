-- What is owed of audit lists: texts and meanings are one to one, and the writer refuses as the reader would.
use Rattle.std.specs.Prelude.{◌≡◌, false, List, ℕ}
use Rattle.base.specs.Answer.{refused, answer, and_then}
use Rattle.base.specs.Limits.{vertices_ok}
use Rattle.base.specs.Refusals.{VERTICES}
use Rattle.base.specs.Words.{Words}
use Rattle.list_text.specs.Text.{Meaning, read_list, list_text, write_list}

pub record OneToOne : Type 0 where
  -- 'audit lists can be written from their meanings as well: the reader finds that meaning again in the written text,
  pub read_written : (n : ℕ) (m : Meaning) (t : List ℕ) → write_list n m ≡ answer t → read_list n t ≡ answer m
  -- and no other text has it': what is read is the text that is written for its meaning
  pub written_read : (n : ℕ) (t : List ℕ) (m : Meaning) → read_list n t ≡ answer m → write_list n m ≡ answer t
  pub one_text : (n : ℕ) (s t : List ℕ) (m : Meaning) → read_list n s ≡ answer m → read_list n t ≡ answer m → s ≡ t
  -- 'What the reader would refuse is turned down by the writer with the reader's number, in the reader's order', of
  -- edges that have 16 bits, as the services take them
  pub same_refusal : (n : ℕ) (m : Meaning) → Words m
      → write_list n m ≡ and_then (read_list n (list_text m)) (λ _. answer (list_text m))
  -- 'Chain texts and audit lists are read and written for a given n; one outside its limits gives 2 before all else'
  pub limits_first : (n : ℕ) → vertices_ok n ≡ false
      → ((t : List ℕ) → read_list n t ≡ refused VERTICES) × ((m : Meaning) → write_list n m ≡ refused VERTICES)
