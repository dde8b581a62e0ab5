-- What is known while the spans of a table text are read and their edges laid into columns.
-- Assumes nothing.
use mathlib.Core.Path.{◌≡◌, refl, sym, ◌∙◌}
use mathlib.Core.List.{List, [], ◌∷◌, ◌++◌, map}
use mathlib.Core.Logic.{◌≢◌}
use Prim.Native.Nat.{ℕ, zero, suc, ◌+◌, ◌*◌, ◌≤◌, ◌<◌}
use native.Mathlib.Omega.{arith}
use lib.ListN.{length, drop, get_or, replicate, length-map, length-replicate, get_or-replicate}
use lib.IntN.{ℤ}
use borrow.Author.Tests.{eq-eqb, ne_eqb}
use Rattle.base.specs.Answer.{Answer, refused, answer, and_then, unless}
use Rattle.base.specs.Refusals.{FORM, TOTAL}
use Rattle.base.proofs.Answers.{then-refused, then-answer}
use Rattle.base.proofs.Bools.{no_answer}
use Rattle.base.proofs.Held.{Storing, storing-none}
use Rattle.base.proofs.Taking.{first, behind, behind-none, behind-next, behind-refused, behind-all}
use Rattle.frame.specs.Table.{SPAN}
use Rattle.frame.specs.Line.{read_line}
use Rattle.frame.specs.Kinds.{span_of}
use Rattle.frame.specs.Frames.{Frames, frame, broken, frames_of}
use Rattle.frame.specs.declared.line.Fields.{Fields}
use Rattle.frame.specs.declared.kinds.TableHead.{TableHead}
use Rattle.frame.specs.declared.kinds.Span.{Span}
use Rattle.frame.specs.declared.kinds.Edge.{Edge}
use Rattle.frame.proofs.Runs.{next-read, only-form, run-next, run-broken, run-left, run-done}
use Rattle.table_text.specs.Frames.{most_weight, span_refusal, read_table_head, span_in, read_span}
use Rattle.table_text.specs.Text.{Table, SpanFine, spans_in, weights, totalled, table_behind, read_table}
use Rattle.table_text.specs.Text.{expanded, stands_for, read_expanded}
use Rattle.table_text.specs.Columns.{Roomy, Layable, laid}
use Rattle.table_text.proofs.Passed.{span-passed, TableHeadPassed, table-head-fine}
use Rattle.table_text.proofs.Laying.{storing-laid}
use Rattle.table_text.proofs.Expanding.{length-expanded, weights-more, part-more}

-- the frames that are left of a text, from a place and from the i-th span on
abbrev left : ℕ → List ℕ → ℕ → ℕ → Frames
left k text at i = frames_of (drop i (replicate k SPAN)) (drop at text)

-- ── the span at a place, as it is read by itself ──

-- what a span decides that is read: it has passed, and the next one is due behind it
pub record SpanFound (n k : ℕ) (text : List ℕ) (at i l h : ℕ) (s : Span) (next : ℕ) : Type 0 where
  pub passed : SpanFine n l h s
  pub goes : spans_in n l h (left k text at i) ≡ first s (spans_in n s.lower s.higher (left k text next (i + 1)))

module _ (n k : ℕ) (text : List ℕ) (at i l h : ℕ) (x : i < k) where
  due : i < length (replicate k SPAN)
  due = omega (arith, length-replicate k SPAN)

  row-due : SPAN ≡ get_or (replicate k SPAN) i 0
  row-due = sym (get_or-replicate k i SPAN 0 x)

  there : {l : Fields × ℕ} → answer l ≡ read_line SPAN text at
      → left k text at i ≡ frame l.0 (left k text l.1 (i + 1))
  there {l} y =
      run-next (replicate k SPAN) text i at SPAN due row-due l.0 l.1 (next-read SPAN at text l.0 l.1 y)

  broken-there : {j : ℕ} → refused j ≡ read_line SPAN text at → left k text at i ≡ broken
  broken-there y = run-broken (replicate k SPAN) text i at SPAN due row-due y

  pub span-refused : {j : ℕ} → refused j ≡ read_span text at n l h → spans_in n l h (left k text at i) ≡ refused j
  unfolding read_span span_in and_then unless spans_in
  span-refused {j} y = go (read_line SPAN text at) refl y
    where
      -- by the span's own refusal
      own : {f : Fields × ℕ} → answer f ≡ read_line SPAN text at
          → (m : ℕ) → span_refusal n l h (span_of f.0) ≡ m → (p : Span × ℕ) → refused j ≡ unless m (answer p)
          → spans_in n l h (left k text at i) ≡ refused j
      own q zero e p y = no_answer (cc)
      own q (suc m) e p y = rw (there q, e) (cc)

      go : (a : Answer (Fields × ℕ)) → a ≡ read_line SPAN text at → refused j ≡ and_then a (span_in n l h)
          → spans_in n l h (left k text at i) ≡ refused j
      go (refused m) q y = let form = only-form SPAN text at m q in rw (broken-there q) (cc)
      go (answer f) q y = own q _ refl _ y

  pub span-found : {p : Span × ℕ} → answer p ≡ read_span text at n l h → SpanFound n k text at i l h p.0 p.1
  unfolding read_span span_in and_then unless spans_in first
  span-found {p} y = go (read_line SPAN text at) refl y
    where
      -- by the span's own refusal
      own : {f : Fields × ℕ} → answer f ≡ read_line SPAN text at
          → (m : ℕ) → span_refusal n l h (span_of f.0) ≡ m
          → answer p ≡ unless m (answer (span_of f.0, f.1)) → SpanFound n k text at i l h p.0 p.1
      own {f} q zero e y =
          let u : p ≡ (span_of f.0, f.1) = cc in
          rw u (record { passed = span-passed n l h (span_of f.0) (omega arith); goes = rw (there q, e) })
      own q (suc m) e y = no_answer (cc)

      go : (a : Answer (Fields × ℕ)) → a ≡ read_line SPAN text at → answer p ≡ and_then a (span_in n l h)
          → SpanFound n k text at i l h p.0 p.1
      go (refused m) q y = no_answer (cc)
      go (answer f) q y = own q _ refl y

-- ── spans in columns ──

-- a part of the edges of spans, as a column has it
abbrev part : {A : Type 0} → (Edge → A) → List Span → List A
part f ss = map f (expanded 0 ss)

-- the columns hold the edges of the spans before the i-th, which have passed and whose
-- weights total `edges`, and those that are left decide what is read
pub record Reading (text : List ℕ) (n r k : ℕ) (low₀ high₀ : List ℕ) (cost₀ : List ℤ) (low high : List ℕ)
    (cost : List ℤ) (at i edges l h : ℕ) : Type 0 where
  pub fine : TableHeadPassed n r k
  pub passed : List Span
  pub decides : read_table text
      ≡ and_then (behind passed (spans_in n l h (left k text at i))) (totalled n r)
  pub within : i ≤ k
  pub total : weights passed ≡ edges
  pub few : edges ≤ most_weight * i
  pub lows : Storing (part (λ e. e.lower) passed) low₀ low
  pub highs : Storing (part (λ e. e.higher) passed) high₀ high
  pub costs : Storing (part (λ e. e.cost) passed) cost₀ cost

pub head-refused : (text : List ℕ) {k : ℕ} → refused k ≡ read_table_head text → read_table text ≡ refused k
unfolding read_table
head-refused text x = then-refused (read_table_head text) (table_behind text) _ (sym x)

pub reading-none : {text : List ℕ} {p : TableHead × ℕ} {low high : List ℕ} {cost : List ℤ}
    → answer p ≡ read_table_head text
    → let h = p.0 in Reading text h.vertices h.reserved h.spans low high cost low high cost p.1 0 0 0 0
unfolding read_table table_behind expanded weights
reading-none {text} {p} x =
    record {
      fine = table-head-fine text x;
      passed = [];
      decides = then-answer (read_table_head text) (table_behind text) p (sym x) ∙ rw behind-none;
      within = omega arith;
      total = refl;
      few = omega arith;
      lows = storing-none;
      highs = storing-none;
      costs = storing-none;
    }

module _ {text : List ℕ} {n r k : ℕ} {low₀ high₀ : List ℕ} {cost₀ : List ℤ} {low high : List ℕ} {cost : List ℤ}
    {at i edges l h : ℕ} (w : Reading text n r k low₀ high₀ cost₀ low high cost at i edges l h) where
  -- what is left decides
  pub reading-stopped : {j : ℕ} → spans_in n l h (left k text at i) ≡ refused j
      → read_table text ≡ refused j
  reading-stopped {j} x =
      w.decides ∙ then-refused (behind w.passed _) (totalled n r) j (rw x (behind-refused w.passed j))

  -- the edges so far, and those of one span more, are few enough for the columns
  edges_few : i < k → edges + most_weight ≤ most_weight * 512
  edges_few x = let f = w.fine in omega (arith, w.few, f.spans_few, f.network.few)

  count : {A : Type 0} (f : Edge → A) → length (part f w.passed) ≡ edges
  count f = length-map (expanded 0 w.passed) f ∙ length-expanded 0 w.passed ∙ w.total

  -- one span more, which is refused or read
  module _ (x : i < k) where
    pub reading-refused : {j : ℕ} → refused j ≡ read_span text at n l h → read_table text ≡ refused j
    reading-refused y = reading-stopped (span-refused n k text at i l h x y)

    module _ {p : Span × ℕ} (y : answer p ≡ read_span text at n l h) (room : Roomy low₀ high₀ cost₀) where
      abbrev s : Span
      s = p.0

      this : SpanFound n k text at i l h s p.1
      this = span-found n k text at i l h x y

      pub reading-layable : Layable s edges low high cost
      reading-layable =
          let f = this.passed in
          let few = edges_few x in
          let v = w.fine.network.few in
          record {
            few = f.most;
            lower_fits = omega (arith, f.rising, f.inside);
            higher_fits = omega (arith, f.inside);
            low_room = omega (arith, f.most, room.low_room, w.lows.size);
            high_room = omega (arith, f.most, room.high_room, w.highs.size);
            cost_room = omega (arith, f.most, room.cost_room, w.costs.size);
          }

      pub reading-next : {low' high' : List ℕ} {cost' : List ℤ} → low' ≡ laid edges s.weight s.lower low
          → high' ≡ laid edges s.weight s.higher high → cost' ≡ laid edges s.weight s.cost cost
          → Reading text n r k low₀ high₀ cost₀ low' high' cost' p.1 (i + 1) (edges + s.weight) s.lower
          s.higher
      reading-next lows highs costs =
          let f = reading-layable in
          let few = this.passed.most in
          record {
            fine = w.fine;
            passed = w.passed ++ (s ∷ []);
            decides = w.decides ∙ rw (this.goes, behind-next);
            within = omega arith;
            total = weights-more w.passed s ∙ omega (arith, w.total);
            few = omega (arith, w.few);
            lows =
                rw (part-more (λ e. e.lower) s.lower w.passed s (λ j. refl))
                (storing-laid w.lows (count (λ e. e.lower)) s.weight s.lower
                (omega (arith, f.low_room, w.lows.size)) lows);
            highs =
                rw (part-more (λ e. e.higher) s.higher w.passed s (λ j. refl))
                (storing-laid w.highs (count (λ e. e.higher)) s.weight s.higher
                (omega (arith, f.high_room, w.highs.size)) highs);
            costs =
                rw (part-more (λ e. e.cost) s.cost w.passed s (λ j. refl))
                (storing-laid w.costs (count (λ e. e.cost)) s.weight s.cost
                (omega (arith, f.cost_room, w.costs.size)) costs);
          }

  -- the last span is read: something is left over, or nothing
  module _ (x : k ≤ i) where
    none-due : length (replicate k SPAN) ≤ i
    none-due = omega (arith, length-replicate k SPAN)

    pub reading-left : at < length text → read_table text ≡ refused FORM
    unfolding spans_in
    reading-left y = reading-stopped (rw (run-left (replicate k SPAN) text i at none-due y))

    module _ (y : length text ≤ at) where
      all_read : read_table text ≡ totalled n r w.passed
      unfolding spans_in and_then
      all_read =
          w.decides ∙ rw (run-done (replicate k SPAN) text i at none-due y, behind-all)

      pub reading-off : edges ≢ 2 * n → read_table text ≡ refused TOTAL
      unfolding totalled
      reading-off z = all_read ∙ rw (w.total, ne_eqb edges (2 * n) z)

      -- the table that was read
      abbrev table : Table
      table = record { vertices = n; reserved = r; spans = w.passed }

      pub reading-end : edges ≡ 2 * n → read_table text ≡ answer table
      unfolding totalled
      reading-end z = all_read ∙ rw (w.total, eq-eqb edges (2 * n) z)

-- the network that a table text stands for is read as far as the table is
pub expanded-refused : (text : List ℕ) {k : ℕ} → read_table text ≡ refused k → read_expanded text ≡ refused k
unfolding read_expanded
expanded-refused text x = then-refused (read_table text) _ _ x

pub expanded-read : (text : List ℕ) {m : Table} → read_table text ≡ answer m → read_expanded text ≡ answer (stands_for m)
unfolding read_expanded
expanded-read text x = then-answer (read_table text) _ _ x
