-- What reading a chain text into lent columns comes to, by what the working columns hold.
-- Assumes nothing.
use mathlib.Core.Path.{◌≡◌, refl}
use mathlib.Core.Bool.{true}
use mathlib.Core.List.{List}
use Prim.Native.Nat.{ℕ, ◌≤◌}
use lib.ListN.{length, take}
use borrow.Author.Tests.{le-leb, leb-true}
use Rattle.std.proofs.Common.{Ok, Err}
use Rattle.base.specs.Answer.{Answer, refused, answer, number_of, over, filled, room_in}
use Rattle.base.specs.declared.refusals.Refusal.{Refusal}
use Rattle.base.specs.declared.refusals.Refusal.TheVariants.{Short}
use Rattle.base.proofs.Bools.{no_answer}
use Rattle.base.proofs.Answers.{given-refused, given-fits, given-short}
use Rattle.base.proofs.Held.{Starts, held-starts}
use Rattle.chain_text.specs.Columns.{Columns, columns, Each}
use Rattle.chain_text.specs.Text.{Meaning, in_columns, read_chain, read_reply, room_for, read_given, ReadInto}
use Rattle.chain_text.specs.Working.{Room, ChainRead}
use Rattle.chain_text.proofs.Columns.{both-each, true-every, not-every, steps-even}
use Rattle.chain_text.specs.declared.chain.ReadChain.{ReadChain}

-- what a reply says of the answer
reply-refused : (a : Answer Meaning) (k : ℕ) → refused k ≡ read_reply a → a ≡ refused k
unfolding read_reply
reply-refused (refused j) k e = cc
reply-refused (answer m) k e = no_answer (cc)

reply-read : (a : Answer Meaning) (s : ReadChain) → answer s ≡ read_reply a
    → (m : Meaning) × (a ≡ answer m) × (length m.steps ≡ s.steps) × (s.dropped ≡ m.dropped)
unfolding read_reply
reply-read (refused j) s e = no_answer (cc)
reply-read (answer m) s e =
    let p : s ≡ record { steps = length m.steps; dropped = m.dropped } = cc in
    (m, refl, rw p, rw p)

-- so many steps and a dropped edge are read, and each column starts with its part of the steps
pub record Stored (a : Answer Meaning) (s : ReadChain) (c : Columns) : Type 0 where
  pub meaning : Meaning
  pub is : a ≡ answer meaning
  pub ending : s.dropped ≡ meaning.dropped
  pub count : length meaning.steps ≡ s.steps
  pub starts : Each (λ A part. Starts s.steps (part (in_columns meaning)) (part c))

pub stored : {a : Answer Meaning} {old new : Columns} {s : ReadChain} → ChainRead a old new (Ok s) → Stored a s new
stored {a} {old} {s = s} r =
    let p = reply-read a s r.reply in
    record {
      meaning = p.0;
      is = p.1;
      ending = p.3;
      count = p.2;
      starts =
          both-each (λ A part h n. held-starts (λ m. part (in_columns m)) (part old) p.1 h n) r.held
          (steps-even p.0.steps p.2);
    }

-- a list of k elements has room in another exactly where that has k elements or more
module _ {A : Type 0} {k : ℕ} {xs column : List A} (old : List A) (s : Starts k xs column) where
  starts_fit : k ≤ length old → room_in old xs ≡ true
  unfolding room_in
  starts_fit h = le-leb (length xs) (length old) (rw s.count h)

  fit-starts : room_in old xs ≡ true → k ≤ length old
  unfolding room_in
  fit-starts e = rw s.count at (leb-true (length xs) (length old) e)

module _ (n : ℕ) (t : List ℕ) (c : Columns) where
  -- nothing is written
  none_written : (q : Refusal) → read_given n t c ≡ refused (number_of q) → ReadInto n t c (Err q) c
  unfolding read_reply filled
  none_written q e =
      record { replies = rw e; fills = record { v = rw e; x = rw e; y = rw e; z = rw e; cost = rw e } }

  pub read-refused : {old new : Columns} {q : Refusal} → ChainRead (read_chain n t) old new (Err q)
      → ReadInto n t c (Err q) c
  unfolding read_given
  read-refused {q = q} r =
      let is = reply-refused (read_chain n t) (number_of q) r.reply in
      none_written q (given-refused (room_for c) (read_chain n t) (number_of q) is)

  module _ {s : ReadChain} {new : Columns} (w : Stored (read_chain n t) s new) where
    -- each column has room for its part of the steps where it has room for so many
    fit : Room s.steps c → Each (λ A part. room_in (part c) (part (in_columns w.meaning)) ≡ true)
    fit room = both-each (λ A part h p. starts_fit (part c) p h) room w.starts

    fitting : Each (λ A part. room_in (part c) (part (in_columns w.meaning)) ≡ true) → Room s.steps c
    fitting e = both-each (λ A part h p. fit-starts (part c) p h) e w.starts

    -- a column is short
    pub no_room : (Room s.steps c → ⊥) → ReadInto n t c (Err Short) c
    unfolding read_given room_for
    no_room f =
        none_written Short
        (given-short (room_for c) (read_chain n t) w.meaning w.is (not-every _ (λ e. f (fitting e))))

    -- all are written
    pub all-written : Room s.steps c
        → let k = s.steps in
        ReadInto n t c (Ok s)
        (columns (over (take k new.v) c.v) (over (take k new.x) c.x) (over (take k new.y) c.y)
        (over (take k new.z) c.z) (over (take k new.cost) c.cost))
    unfolding read_given room_for read_reply filled
    all-written room =
        let e = given-fits (room_for c) (read_chain n t) w.meaning w.is (true-every _ (fit room)) in
        record {
          replies = rw (e, w.count, ← w.ending);
          fills =
              record {
                v = rw (e, w.starts.v.first);
                x = rw (e, w.starts.x.first);
                y = rw (e, w.starts.y.first);
                z = rw (e, w.starts.z.first);
                cost = rw (e, w.starts.cost.first);
              };
        }
