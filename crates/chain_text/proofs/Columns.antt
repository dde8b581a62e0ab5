-- Steps in columns: each column by itself, the text from a place on, and the text that is due from columns.
-- Assumes nothing.
use mathlib.Core.Path.{◌≡◌, refl, sym, ◌∙◌, ap}
use mathlib.Core.Bool.{Bool, true, false, ◌&&◌}
use mathlib.Core.List.{List, [], ◌∷◌, ◌++◌, append-nil}
use Prim.Native.Nat.{ℕ, ◌+◌, ◌-◌, ◌≤◌, ◌<◌}
use native.Mathlib.Omega.{arith}
use native.Mathlib.Numerals.{add-one}
use lib.IntN.{ℤ, pos}
use lib.ListN.{length, drop, drop_of_length-le, length-map}
use lib.Seq.{drop-cons}
use borrow.Author.Tests.{eq-eqb, eqb-true}
use Rattle.base.specs.Answer.{refused, answer, over, reply_of, after}
use Rattle.base.specs.Limits.{fewest_vertices, vertices_ok}
use Rattle.base.specs.Refusals.{FORM, VERTICES, SHORT}
use Rattle.base.proofs.Answers.{short, fits}
use Rattle.base.proofs.Bools.{and_left, and_right}
use Rattle.frame.specs.Table.{STEP, DROPPED}
use Rattle.frame.specs.Line.{line_of}
use Rattle.frame.specs.Kinds.{of_step, of_dropped}
use Rattle.frame.specs.declared.kinds.Step.{Step}
use Rattle.base.proofs.Writing.{Written}
use Rattle.chain_text.specs.Columns.{Columns, columns, columns_of, Each, every}
use Rattle.chain_text.specs.Text.{chain_text, chain_length, Even, evenly, steps_of, steps_across, write_chain}
use Rattle.chain_text.specs.Working.{step_at}
use Rattle.chain_text.proofs.Lengths.{length-chain}

-- ── each column by itself ──

-- a law of one column is one of each, from one fact of it or from two
pub each : {P Q : (A : Type 0) → (Columns → List A) → Type 0}
    → ((A : Type 0) (part : Columns → List A) → P A part → Q A part) → Each P → Each Q
each f e =
    record {
      v = f _ _ e.v;
      x = f _ _ e.x;
      y = f _ _ e.y;
      z = f _ _ e.z;
      cost = f _ _ e.cost;
    }

pub both-each : {P Q R : (A : Type 0) → (Columns → List A) → Type 0}
    → ((A : Type 0) (part : Columns → List A) → P A part → Q A part → R A part) → Each P → Each Q → Each R
both-each f p q =
    record {
      v = f _ _ p.v q.v;
      x = f _ _ p.x q.x;
      y = f _ _ p.y q.y;
      z = f _ _ p.z q.z;
      cost = f _ _ p.cost q.cost;
    }

-- a test passes of each column where every column passes it, and of some it fails where not every one does
module _ (f : (A : Type 0) → (Columns → List A) → Bool) where
  pub every_true : every f ≡ true → Each (λ A part. f A part ≡ true)
  unfolding every
  every_true e =
      let v = f ℕ (λ c. c.v) in
      let x = f ℕ (λ c. c.x) in
      let y = f ℕ (λ c. c.y) in
      let z = f ℕ (λ c. c.z) in
      let cost = f ℤ (λ c. c.cost) in
      let from-x = and_right v (x && (y && (z && cost))) e in
      let from-y = and_right x (y && (z && cost)) from-x in
      let from-z = and_right y (z && cost) from-y in
      record {
        v = and_left v (x && (y && (z && cost))) e;
        x = and_left x (y && (z && cost)) from-x;
        y = and_left y (z && cost) from-y;
        z = and_left z cost from-z;
        cost = and_right z cost from-z;
      }

  pub true-every : Each (λ A part. f A part ≡ true) → every f ≡ true
  unfolding every
  true-every e = rw (e.v, e.x, e.y, e.z, e.cost)

  pub not-every : (Each (λ A part. f A part ≡ true) → ⊥) → every f ≡ false
  not-every n = go (every f) refl
    where
      go : (b : Bool) → every f ≡ b → every f ≡ false
      go true e = absurd (n (every_true e))
      go false e = e

-- as many elements as steps stand in each column of steps
pub steps-even : (ss : List Step) {k : ℕ} → length ss ≡ k → Even k (columns_of ss)
steps-even ss e =
    record {
      v = length-map ss (λ s. s.v) ∙ e;
      x = length-map ss (λ s. s.x) ∙ e;
      y = length-map ss (λ s. s.y) ∙ e;
      z = length-map ss (λ s. s.z) ∙ e;
      cost = length-map ss (λ s. s.cost) ∙ e;
    }

-- ── columns that are equally long ──

-- the text of the steps from a place on, and of the ending
abbrev pub text_from : Columns → ℕ → ℕ → List ℕ
text_from c d i =
    chain_text (steps_of (drop i c.v) (drop i c.x) (drop i c.y) (drop i c.z) (drop i c.cost)) d

module _ (c : Columns) (e : Even (length c.v) c) (d i : ℕ) where
  text-next : i < length c.v → text_from c d i ≡ line_of STEP (of_step (step_at c i)) ++ text_from c d (i + 1)
  unfolding chain_text steps_of
  text-next h =
      rw (
        add-one,
        drop-cons c.v i 0,
        drop-cons c.x i 0 (omega arith),
        drop-cons c.y i 0 (omega arith),
        drop-cons c.z i 0 (omega arith),
        drop-cons c.cost i (pos 0) (omega arith),
      )

  text-end : length c.v ≤ i → text_from c d i ≡ line_of DROPPED (of_dropped (record { edge = d })) ++ []
  unfolding chain_text steps_of
  text-end h = rw (drop_of_length-le c.v h, append-nil)

  -- the line of the step at a place, or of the ending, is left to write
  module _ {whole old out : List ℕ} {at : ℕ} (w : Written whole (text_from c d i) old out at) where
    pub step_left : i < length c.v → {s : Step} → s ≡ step_at c i
        → Written whole (line_of STEP (of_step s) ++ text_from c d (i + 1)) old out at
    step_left h q = rw q (rw (text-next h) at w)

    pub ending-left : length c.v ≤ i
        → Written whole (line_of DROPPED (of_dropped (record { edge = d })) ++ []) old out at
    ending-left h = rw (text-end h) at w

-- steps are found again in their columns, and even columns in their steps
pub steps_back : (ss : List Step) → steps_across (columns_of ss) ≡ ss
unfolding steps_of
steps_back [] = refl
steps_back (s ∷ ss) = ap (λ (l : List Step). s ∷ l) (steps_back ss)

across : (v x y z : List ℕ) (cost : List ℤ) → Even (length v) (columns v x y z cost)
    → columns_of (steps_of v x y z cost) ≡ columns v x y z cost
unfolding steps_of
across [] [] [] [] [] e = refl
across [] (b ∷ x) y z cost e = absurd (omega (arith, e.x))
across [] [] (b ∷ y) z cost e = absurd (omega (arith, e.y))
across [] [] [] (b ∷ z) cost e = absurd (omega (arith, e.z))
across [] [] [] [] (b ∷ cost) e = absurd (omega (arith, e.cost))
across (a ∷ v) [] y z cost e = absurd (omega (arith, e.x))
across (a ∷ v) (b ∷ x) [] z cost e = absurd (omega (arith, e.y))
across (a ∷ v) (b ∷ x) (c ∷ y) [] cost e = absurd (omega (arith, e.z))
across (a ∷ v) (b ∷ x) (c ∷ y) (d ∷ z) [] e = absurd (omega (arith, e.cost))
across (a ∷ v) (b ∷ x) (c ∷ y) (d ∷ z) (q ∷ cost) e =
    ap (λ (l : Columns). columns (a ∷ l.v) (b ∷ l.x) (c ∷ l.y) (d ∷ l.z) (q ∷ l.cost))
    (across v x y z cost
    (record {
      v = refl;
      x = omega (arith, e.x);
      y = omega (arith, e.y);
      z = omega (arith, e.z);
      cost = omega (arith, e.cost);
    }))

pub columns-back : {k : ℕ} {c : Columns} → Even k c → columns_of (steps_across c) ≡ c
columns-back {k} {c} e =
    across c.v c.x c.y c.z c.cost (each (λ A part h. h ∙ sym e.v) e)

pub length-steps : {k : ℕ} {c : Columns} → Even k c → length (steps_across c) ≡ k
length-steps {k} {c} e =
    sym (length-map (steps_across c) (λ s. s.v)) ∙ ap (λ (l : Columns). length l.v) (columns-back e) ∙ e.v

-- ── the text that is due from columns ──

module _ (n : ℕ) (c : Columns) (d : ℕ) where
  pub write-limits : vertices_ok n ≡ false → write_chain n c d ≡ refused VERTICES
  unfolding write_chain
  write-limits e = rw e

  module _ (h : vertices_ok n ≡ true) where
    pub write-uneven : (Even (n - fewest_vertices) c → ⊥) → write_chain n c d ≡ refused FORM
    unfolding write_chain evenly
    write-uneven u = rw (h, not-every _ (λ e. u (each (λ A part. eqb-true _ _) e)))

    pub write-even : Even (n - fewest_vertices) c → write_chain n c d ≡ answer (chain_text (steps_across c) d)
    unfolding write_chain evenly
    write-even e = rw (h, true-every _ (each (λ A part. eq-eqb _ _) e))

pub even-columns : {k : ℕ} {c : Columns} → evenly k c ≡ true → Even k c
unfolding evenly
even-columns e = each (λ A part. eqb-true _ _) (every_true _ e)

-- how many bytes it has
pub length-even : {k : ℕ} {c : Columns} → Even k c → (d : ℕ) → length (chain_text (steps_across c) d) ≡ chain_length k
length-even {k} {c} e d = length-chain (steps_across c) d ∙ ap chain_length (length-steps e)

-- and what is replied where a buffer is too short for it, and where it is written
module _ (n : ℕ) {c : Columns} (e : Even (n - fewest_vertices) c) (d : ℕ) {size : ℕ}
    (s : size ≡ chain_length (n - fewest_vertices)) (out : List ℕ) where
  pub write-room : size ≤ length out → length (chain_text (steps_across c) d) ≤ length out
  write-room h = omega (arith, s, length-even e d)

  module _ (h : vertices_ok n ≡ true) where
    pub write-short : length out < size
        → (refused SHORT ≡ reply_of (write_chain n c d) out) × (out ≡ after (write_chain n c d) out)
    write-short l =
        short _ out (chain_text (steps_across c) d) (write-even n c d h e) (omega (arith, s, length-even e d))

    pub write-fits : size ≤ length out → {count : ℕ} {new : List ℕ}
        → let text = chain_text (steps_across c) d in (count ≡ length text) × (new ≡ over text out)
        → (answer count ≡ reply_of (write_chain n c d) out) × (new ≡ after (write_chain n c d) out)
    write-fits l w =
        rw (w.0, w.1) (fits _ out (chain_text (steps_across c) d) (write-even n c d h e) (write-room l))
