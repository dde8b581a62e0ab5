-- What is owed of network texts: texts and meanings are one to one, and the writer refuses as the reader would.
use Rattle.std.specs.Prelude.{◌≡◌, List, ℕ, ◌<◌, take}
use Rattle.base.specs.Answer.{answer, and_then}
use Rattle.base.specs.Lengths.{longest_network}
use Rattle.network_text.specs.Text.{Meaning, read_network, write_network, text_of, Spellable}

pub record OneToOne : Type 0 where
  -- 'Network texts .. can be written from their meanings as well: the
  -- reader finds that meaning again in the written text,
  pub read_written : (m : Meaning) (t : List ℕ) → write_network m ≡ answer t → read_network t ≡ answer m
  -- and no other text has it': what is read is the text that is written for its meaning
  pub written_read : (t : List ℕ) (m : Meaning) → read_network t ≡ answer m → write_network m ≡ answer t
  pub one_text : (s t : List ℕ) (m : Meaning) → read_network s ≡ answer m → read_network t ≡ answer m → s ≡ t
  -- 'What the reader would refuse is turned down by the writer with the reader's number, in the reader's order, a wrong
  -- count of frames included': so it is of every meaning that has a text, with too few edges or too many
  pub same_refusal : (m : Meaning) → Spellable m
      → write_network m ≡ and_then (read_network (text_of m)) (λ _. answer (text_of m))
  -- and a meaning that has none is turned down
  pub only_spellable : (m : Meaning) (t : List ℕ) → write_network m ≡ answer t → Spellable m
  -- a text means what its first bytes mean, where they are more than the
  -- longest network text has: of the 'bytes left over' one is enough
  pub first_bytes : (t : List ℕ) (k : ℕ) → longest_network < k → read_network (take k t) ≡ read_network t
