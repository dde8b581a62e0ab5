-- A network in working columns: what the columns hold of its meaning, and what buffers hold that they are copied to.
-- Assumes nothing.
use mathlib.Core.Path.{◌≡◌, refl, ◌∙◌, ap}
use mathlib.Core.Bool.{true, false, and-false}
use mathlib.Core.Logic.{inl, inr}
use mathlib.Core.List.{List}
use Prim.Native.Nat.{ℕ, ◌*◌, ◌≤◌, ◌<◌}
use native.Mathlib.Omega.{arith}
use lib.ListN.{length, take}
use lib.IntN.{ℤ}
use borrow.Author.Tests.{le-leb, lt-leb}
use Rattle.std.proofs.Common.{Ok, Err}
use Rattle.base.proofs.Bools.{no_answer}
use Rattle.base.specs.Answer.{Answer, refused, answer, number_of, filled, over, room_in}
use Rattle.base.specs.declared.refusals.Refusal.{Refusal}
use Rattle.base.specs.declared.refusals.Refusal.TheVariants as refusal
use Rattle.base.proofs.Answers.{given-refused, given-fits, given-short}
use Rattle.base.proofs.Held.{Starts, held-starts}
use Rattle.base.specs.Limits.{vertex_limit}
use Rattle.network_text.specs.Text.{Meaning, meant, Valid, read_network, read_reply, room_for, read_given}
use Rattle.network_text.specs.Columns.{Columns, NetworkRead, ReadInto}
use Rattle.network_text.specs.declared.network.ReadNetwork.{ReadNetwork}
use Rattle.network_text.proofs.Columns.{SomeOf}

pub reply-refused : (a : Answer Meaning) (k : ℕ) → refused k ≡ read_reply a → a ≡ refused k
unfolding read_reply
reply-refused (refused j) k x = let z : j ≡ k = cc in ap refused z
reply-refused (answer m) k x = no_answer (cc)

reply-read : (a : Answer Meaning) (read : ReadNetwork) → answer read ≡ read_reply a
    → (m : Meaning) × (a ≡ answer m) × (read.vertices ≡ m.vertices) × (read.reserved ≡ m.reserved)
unfolding read_reply
reply-read (refused j) read x = no_answer (cc)
reply-read (answer m) read x =
    let e : read ≡ record { vertices = m.vertices; reserved = m.reserved } = cc in
    (m, refl, ap (λ r. r.vertices) e, ap (λ r. r.reserved) e)

-- what working columns hold that a network was read into
pub record Stored (a : Answer Meaning) (lows highs : List ℕ) (costs : List ℤ) (n r : ℕ) : Type 0 where
  pub meaning : Meaning
  pub is : a ≡ answer meaning
  pub vertices : n ≡ meaning.vertices
  pub reserved : r ≡ meaning.reserved
  pub valid : Valid meaning
  pub few : n ≤ vertex_limit
  pub low : Starts (2 * n) meaning.low lows
  pub high : Starts (2 * n) meaning.high highs
  pub cost : Starts (2 * n) meaning.cost costs

pub stored : {a : Answer Meaning} {low₀ high₀ : List ℕ} {cost₀ : List ℤ} {lows highs : List ℕ} {costs : List ℤ}
    {read : ReadNetwork} → ((m : Meaning) → a ≡ answer m → Valid m)
    → NetworkRead a low₀ high₀ cost₀ lows highs costs (Ok read)
    → Stored a lows highs costs read.vertices read.reserved
stored {a} {low₀} {high₀} {cost₀} {read = read} valid x =
    let p = reply-read a read x.reply in
    let m = p.0 in
    let v = valid m p.1 in
    let e = p.2 in
    record {
      meaning = m;
      is = p.1;
      vertices = p.2;
      reserved = p.3;
      valid = v;
      few = omega (arith, v.few);
      low = held-starts (λ m. m.low) low₀ p.1 x.lows (omega (arith, v.low_count));
      high = held-starts (λ m. m.high) high₀ p.1 x.highs (omega (arith, v.high_count));
      cost = held-starts (λ m. m.cost) cost₀ p.1 x.costs (omega (arith, v.cost_count));
    }

-- the meaning, made of the starts of the columns
pub stored-meant : {a : Answer Meaning} {lows highs : List ℕ} {costs : List ℤ} {n r : ℕ}
    (w : Stored a lows highs costs n r)
    → meant n r (take (2 * n) lows) (take (2 * n) highs) (take (2 * n) costs) ≡ w.meaning
stored-meant w = rw (w.low.first, w.high.first, w.cost.first, w.vertices, w.reserved)

-- what buffers hold that the columns are copied to
module _ (low high : List ℕ) (cost : List ℤ) where
  refuses : (t : List ℕ) (r : Refusal) → read_given t low high cost ≡ refused (number_of r)
      → ReadInto (read_given t low high cost) low high cost low high cost (Err r)
  unfolding read_reply filled
  refuses t r x = rw x (record { reply = refl; lows = refl; highs = refl; costs = refl })

  pub given-none : (t : List ℕ) {low₀ high₀ : List ℕ} {cost₀ : List ℤ} {lows highs : List ℕ} {costs : List ℤ}
      {r : Refusal} → NetworkRead (read_network t) low₀ high₀ cost₀ lows highs costs (Err r)
      → ReadInto (read_given t low high cost) low high cost low high cost (Err r)
  given-none t {r = r} x =
      let none = reply-refused (read_network t) (number_of r) x.reply in
      refuses t r (given-refused (room_for low high cost) (read_network t) (number_of r) none)

  module _ (t : List ℕ) {lows highs : List ℕ} {costs : List ℤ} {n r : ℕ}
      (w : Stored (read_network t) lows highs costs n r) where
    room-short : SomeOf (λ k. k < 2 * n) low high cost → room_for low high cost w.meaning ≡ false
    unfolding room_for room_in
    room-short (inl h) = rw (w.low.count, lt-leb (2 * n) (length low) h)
    room-short (inr (inl h)) = rw (w.high.count, lt-leb (2 * n) (length high) h, and-false)
    room-short (inr (inr h)) = rw (w.cost.count, lt-leb (2 * n) (length cost) h, and-false, and-false)

    room_fits : Columns n low high cost → room_for low high cost w.meaning ≡ true
    unfolding room_for room_in
    room_fits c =
        rw (
          w.low.count,
          w.high.count,
          w.cost.count,
          le-leb (2 * n) (length low) c.low_room,
          le-leb (2 * n) (length high) c.high_room,
          le-leb (2 * n) (length cost) c.cost_room,
        )

    pub no_room : SomeOf (λ k. k < 2 * n) low high cost
        → ReadInto (read_given t low high cost) low high cost low high cost (Err refusal.Short)
    no_room s =
        refuses t refusal.Short (given-short (room_for low high cost) (read_network t) w.meaning w.is (room-short s))

    pub given-all : Columns n low high cost → {low' high' : List ℕ} {cost' : List ℤ}
        → low' ≡ over (take (2 * n) lows) low → high' ≡ over (take (2 * n) highs) high
        → cost' ≡ over (take (2 * n) costs) cost
        → ReadInto (read_given t low high cost) low high cost low' high' cost'
        (Ok (record { vertices = n; reserved = r }))
    unfolding read_reply filled
    given-all c l h k =
        rw (given-fits (room_for low high cost) (read_network t) w.meaning w.is (room_fits c))
        (record {
          reply = rw (w.vertices, w.reserved);
          lows = l ∙ rw w.low.first;
          highs = h ∙ rw w.high.first;
          costs = k ∙ rw w.cost.first;
        })
