-- A table text that has a meaning: its head and its spans, the one text of that meaning, and the network's text.
-- Assumes nothing.
use mathlib.Core.Path.{◌≡◌, refl, sym, ◌∙◌, ap}
use mathlib.Core.Bool.{Bool, true, false, cond, ◌&&◌}
use mathlib.Core.List.{List, [], ◌∷◌, ◌++◌, map}
use mathlib.Core.Logic.{◌⊎◌, inl, inr}
use Prim.Native.Nat.{ℕ, zero, suc, ◌+◌, ◌*◌, ◌≤◌, ◌<◌}
use native.Mathlib.Omega.{arith}
use native.Mathlib.Nat.{zero-add, add-zero, add-suc, suc-add}
use lib.Dec.{eqb, leb, ltb}
use lib.ListN.{length, drop, replicate, length-map, length-replicate}
use Rattle.base.specs.Answer.{Answer, refused, answer, and_then, unless}
use Rattle.base.specs.Limits.{cost_ok}
use Rattle.base.specs.Refusals.{FORM, ENDS, COST, WEIGHT, TOTAL}
use Rattle.base.proofs.Answers.{cond-answered}
use Rattle.base.proofs.Bools.{no_answer, eqb_is}
use Rattle.base.proofs.Numbered.{Meeting, answered, refused_as, unless-meeting, cond-meeting, then-meeting}
use Rattle.frame.specs.Table.{TABLE_HEAD, SPAN, line_length}
use Rattle.frame.specs.Line.{fields_of, read_line}
use Rattle.frame.specs.Kinds.{table_head_of, of_table_head, span_of, of_span}
use Rattle.frame.specs.Frames.{Frames, done, broken, frame, frames_of, listed, AllFit}
use Rattle.frame.specs.declared.line.Fields.{Fields}
use Rattle.frame.specs.declared.kinds.TableHead.{TableHead}
use Rattle.frame.specs.declared.kinds.Span.{Span}
use Rattle.frame.specs.declared.kinds.Edge.{Edge}
use Rattle.frame.proofs.Lines.{line-back}
use Rattle.frame.proofs.Runs.{Next, next-read, only-form}
use Rattle.frame.proofs.Whole.{whole, fit_count}
use Rattle.frame.proofs.Named.{table-head-back, span-back}
use Rattle.network_frames.specs.Frames.{head_refusal}
use Rattle.network_frames.proofs.Passed.{head_small}
use Rattle.network_text.specs.Text.{Meaning, Valid, network_text, write_network}
use Rattle.network_text.proofs.Whole.{AllPassed, valid}
use Rattle.network_text.proofs.OneToOne.{passed-written}
use Rattle.table_text.specs.Frames.{count_refusal, weight_ok, above, span_refusal, table_head_in, read_table_head}
use Rattle.table_text.specs.Text.{Table, SpanFine, SpansFine, spans_in, weights, totalled, table_behind, read_table}
use Rattle.table_text.specs.Text.{copies, expanded, stands_for, read_expanded, table_text}
use Rattle.table_text.proofs.Passed.{span-passed, TableHeadPassed, table-head-fine}
use Rattle.table_text.proofs.Expanding.{length-copies, length-expanded}

-- ── spans that have passed ──

-- spans that are read from frames: all frames are there, and each span has passed
record Spans (n l h : ℕ) (fs : Frames) (ss : List Span) : Type 0 where
  frames : List Fields
  all : fs ≡ listed frames
  are : ss ≡ map span_of frames
  passed : SpansFine n l h ss

spans : (n l h : ℕ) (fs : Frames) (ss : List Span) → spans_in n l h fs ≡ answer ss → Spans n l h fs ss
unfolding spans_in listed unless and_then
spans n l h done [] x = record { frames = []; all = refl; are = refl; passed = tt }
spans n l h done (s ∷ ss) x = no_answer (cc)
spans n l h broken ss x = no_answer (cc)
spans n l h (frame f fs) ss x =
    let s = span_of f in
    go (span_refusal n l h s) refl (spans_in n s.lower s.higher fs) refl ss (spans n s.lower s.higher fs) x
  where
    go : let s = span_of f in
        (k : ℕ) → span_refusal n l h s ≡ k → (a : Answer (List Span)) → spans_in n s.lower s.higher fs ≡ a
        → (ss : List Span)
        → ((later : List Span) → spans_in n s.lower s.higher fs ≡ answer later
        → Spans n s.lower s.higher fs later)
        → unless k (and_then a (λ later. answer (s ∷ later))) ≡ answer ss → Spans n l h (frame f fs) ss
    go (suc k) p a q ss i x = no_answer (cc)
    go zero p (refused j) q ss i x = no_answer (cc)
    go zero p (answer later) q [] i x = no_answer (cc)
    go zero p (answer later) q (r ∷ ss) i x =
        let u : r ≡ span_of f = cc in
        let v : later ≡ ss = cc in
        let w = i later q in
        record {
          frames = f ∷ w.frames;
          all = ap (frame f) w.all;
          are = rw (u, ← v) (ap (λ (rs : List Span). span_of f ∷ rs) w.are);
          passed = rw (u, ← v) (span-passed n l h (span_of f) (omega arith), w.passed);
        }

-- ── a text that is read ──
pub record Parts (t : List ℕ) (m : Table) : Type 0 where
  pub fine : TableHeadPassed m.vertices m.reserved (length m.spans)
  pub passed : SpansFine m.vertices 0 0 m.spans
  pub total : weights m.spans ≡ 2 * m.vertices
  pub text_is : t ≡ table_text m

-- the line of a head that is read
head-line : (t : List ℕ) {p : TableHead × ℕ} → answer p ≡ read_table_head t
    → (f : Fields) × (p.0 ≡ table_head_of f) × Next TABLE_HEAD 0 t f p.1
unfolding read_table_head table_head_in and_then unless
head-line t {p} x = go (read_line TABLE_HEAD t 0) refl x
  where
    own : (l : Fields × ℕ) (j : ℕ) → answer l ≡ read_line TABLE_HEAD t 0 → (k : ℕ)
        → answer p ≡ unless j (unless k (answer (table_head_of l.0, l.1)))
        → (f : Fields) × (p.0 ≡ table_head_of f) × Next TABLE_HEAD 0 t f p.1
    own l zero q zero y =
        let u : p ≡ (table_head_of l.0, l.1) = cc in
        rw u (l.0, refl, next-read TABLE_HEAD 0 t l.0 l.1 q)
    own l zero q (suc k) y = no_answer (cc)
    own l (suc j) q k y = no_answer (cc)

    go : (a : Answer (Fields × ℕ)) → a ≡ read_line TABLE_HEAD t 0 → answer p ≡ and_then a table_head_in
        → (f : Fields) × (p.0 ≡ table_head_of f) × Next TABLE_HEAD 0 t f p.1
    go (refused k) q y = no_answer (cc)
    go (answer l) q y =
        let e = table_head_of l.0 in
        own l (head_refusal e.vertices e.reserved) q (count_refusal e.vertices e.spans) y

all_back : (k : ℕ) (gs : List Fields) → AllFit (replicate k SPAN) gs → map of_span (map span_of gs) ≡ gs
all_back zero [] x = refl
all_back zero (g ∷ gs) x = absurd x
all_back (suc k) [] x = absurd x
all_back (suc k) (g ∷ gs) x = rw (span-back g x.0, all_back k gs x.1)

module _ (t : List ℕ) {p : TableHead × ℕ} (x : answer p ≡ read_table_head t) where
  abbrev h : TableHead
  h = p.0

  abbrev first : ℕ
  first = p.1

  abbrev frames-due : Frames
  frames-due = frames_of (replicate h.spans SPAN) (drop first t)

  -- the text of spans that are all there
  record Lines (ss : List Span) : Type 0 where
    count : length ss ≡ h.spans
    text_is : t ≡ table_text (record { vertices = h.vertices; reserved = h.reserved; spans = ss })

  lines : (ss : List Span) → Spans h.vertices 0 0 frames-due ss → Lines ss
  unfolding table_text
  lines ss w =
      let head = head-line t x in
      let f = head.0 in
      let next = head.2 in
      let spelt = whole (replicate h.spans SPAN) (drop first t) w.frames w.all in
      let count : length ss ≡ h.spans =
      ap length w.are ∙ length-map w.frames span_of
      ∙ sym (fit_count (replicate h.spans SPAN) w.frames spelt.fit) ∙ length-replicate h.spans SPAN in
      let named : of_table_head h ≡ fields_of TABLE_HEAD t =
      ap of_table_head head.1 ∙ table-head-back f next.fits ∙ next.fields in
      let back : map of_span ss ≡ w.frames =
      ap (map of_span) w.are ∙ all_back h.spans w.frames spelt.fit in
      let place : first ≡ line_length TABLE_HEAD = next.place ∙ zero-add _ in
      record {
        count = count;
        text_is =
            sym (line-back TABLE_HEAD t next.is) ∙ rw (count, named, back, ← spelt.text_is, place);
      }

  behind-head : (m : Table) → table_behind t p ≡ answer m → Parts t m
  unfolding table_behind and_then totalled
  behind-head m y = go (spans_in h.vertices 0 0 frames-due) refl y
    where
      go : (a : Answer (List Span)) → spans_in h.vertices 0 0 frames-due ≡ a
          → and_then a (totalled h.vertices h.reserved) ≡ answer m → Parts t m
      go (refused k) q y = no_answer (cc)
      go (answer ss) q y =
          let z = cond-answered (eqb (weights ss) (2 * h.vertices)) _ TOTAL m y in
          let same : record { vertices = h.vertices; reserved = h.reserved; spans = ss } ≡ m = cc z.1 in
          let w = spans h.vertices 0 0 frames-due ss q in
          let v = lines ss w in
          rw (← same)
          (record {
            fine = rw v.count (table-head-fine t x);
            passed = w.passed;
            total = eqb_is z.0;
            text_is = v.text_is;
          })

pub parts : (t : List ℕ) (m : Table) → read_table t ≡ answer m → Parts t m
unfolding read_table and_then
parts t m x = go (read_table_head t) refl x
  where
    go : (a : Answer (TableHead × ℕ)) → a ≡ read_table_head t → and_then a (table_behind t) ≡ answer m → Parts t m
    go (refused k) q y = no_answer (cc)
    go (answer p) q y = behind-head t q m y

-- ── the edges of a table have passed ──
passed-append : (n k : ℕ) (ds es : List Edge) → AllPassed n k ds → AllPassed n (k + length ds) es
    → AllPassed n k (ds ++ es)
passed-append n k [] es p q = rw add-zero at q
passed-append n k (d ∷ ds) es p q =
    (p.0, passed-append n (suc k) ds es p.1 (rw (add-suc, ← suc-add) at q))

copies-passed : (n l h w k : ℕ) (s : Span) → SpanFine n l h s → AllPassed n k (copies w k s)
unfolding copies
copies-passed n l h zero k s p = tt
copies-passed n l h (suc w) k s p = (
  record { numbered = refl; rising = p.rising; inside = p.inside; limited = p.limited },
  copies-passed n l h w (suc k) s p,
)

expanded-passed : (n l h k : ℕ) (ss : List Span) → SpansFine n l h ss → AllPassed n k (expanded k ss)
unfolding expanded
expanded-passed n l h k [] p = tt
expanded-passed n l h k (s ∷ ss) p =
    passed-append n k (copies s.weight k s) (expanded (k + s.weight) ss)
    (copies-passed n l h s.weight k s p.0)
    (rw (length-copies s.weight k s) (expanded-passed n s.lower s.higher (k + s.weight) ss p.1))

-- ── the network that a table stands for ──

-- it is valid, and it has a text
pub record Stands (m : Table) : Type 0 where
  pub sound : Valid (stands_for m)
  pub written : write_network (stands_for m)
      ≡ answer (network_text m.vertices m.reserved (expanded 0 m.spans))

pub stands : (t : List ℕ) (m : Table) → read_table t ≡ answer m → Stands m
unfolding stands_for
stands t m x =
    let p = parts t m x in
    let es = expanded 0 m.spans in
    let a = expanded-passed m.vertices 0 0 0 m.spans p.passed in
    let k : length es ≡ 2 * m.vertices = length-expanded 0 m.spans ∙ p.total in
    record {
      sound = valid m.vertices m.reserved es p.fine.network a k;
      written = passed-written m.vertices m.reserved es p.fine.network a k;
    }

-- the table of a network that is read
pub expanded-table : (t : List ℕ) (n : Meaning) → read_expanded t ≡ answer n
    → (m : Table) × (read_table t ≡ answer m) × (stands_for m ≡ n)
unfolding read_expanded and_then
expanded-table t n x = go (read_table t) refl x
  where
    go : (a : Answer Table) → read_table t ≡ a → and_then a (λ m. answer (stands_for m)) ≡ answer n
        → (m : Table) × (read_table t ≡ answer m) × (stands_for m ≡ n)
    go (refused k) q y = no_answer (cc)
    go (answer m) q y = (m, q, cc)

pub expanded-valid : (t : List ℕ) (n : Meaning) → read_expanded t ≡ answer n → Valid n
expanded-valid t n x =
    let w = expanded-table t n x in
    rw w.2 at (stands t w.0 w.1).sound

-- ── the refusals of a table text ──

-- the form, the head's and a span's numbers that a network text has too, 15 and 16
abbrev pub OfTable : ℕ → Type 0
OfTable k = ((1 ≤ k) × (k ≤ 5)) ⊎ ((k ≡ 15) ⊎ (k ≡ 16))

span-of-table : (n l h : ℕ) (s : Span) → 0 < span_refusal n l h s → OfTable (span_refusal n l h s)
unfolding span_refusal
span-of-table n l h s x =
    go (ltb s.lower s.higher && ltb s.higher n) (weight_ok s.weight && above l h s) (cost_ok s.cost) x
  where
    go : (a b d : Bool) → 0 < cond a (cond b (cond d 0 COST) WEIGHT) ENDS
        → OfTable (cond a (cond b (cond d 0 COST) WEIGHT) ENDS)
    go true true true x = absurd (omega arith)
    go true true false x = inl (omega arith, omega arith)
    go true false d x = inr (inl refl)
    go false b d x = inl (omega arith, omega arith)

spans-meeting : (n l h : ℕ) (fs : Frames) → Meeting OfTable (spans_in n l h fs)
unfolding spans_in
spans-meeting n l h done = answered []
spans-meeting n l h broken = refused_as FORM (inl (omega arith, omega arith))
spans-meeting n l h (frame f fs) =
    let s = span_of f in
    unless-meeting (span_refusal n l h s) _ (span-of-table n l h s)
    (then-meeting (spans_in n s.lower s.higher fs) _ (spans-meeting n s.lower s.higher fs)
    (λ later. answered (s ∷ later)))

totalled-meeting : (n r : ℕ) (ss : List Span) → Meeting OfTable (totalled n r ss)
unfolding totalled
totalled-meeting n r ss = cond-meeting (eqb (weights ss) (2 * n)) _ TOTAL (inr (inr refl)) (answered _)

count-of-table : (n k : ℕ) → 0 < count_refusal n k → OfTable (count_refusal n k)
unfolding count_refusal
count-of-table n k x = go (leb k (2 * n)) x
  where
    go : (b : Bool) → 0 < cond b 0 TOTAL → OfTable (cond b 0 TOTAL)
    go true x = absurd (omega arith)
    go false x = inr (inr refl)

head-in-meeting : (p : Fields × ℕ) → Meeting OfTable (table_head_in p)
unfolding table_head_in
head-in-meeting (f, next) =
    let h = table_head_of f in
    unless-meeting (head_refusal h.vertices h.reserved) _
    (λ x. inl (omega arith, omega (arith, head_small h.vertices h.reserved)))
    (unless-meeting (count_refusal h.vertices h.spans) _ (count-of-table h.vertices h.spans)
    (answered (h, next)))

head-meeting : (t : List ℕ) → Meeting OfTable (read_table_head t)
unfolding read_table_head
head-meeting t =
    then-meeting (read_line TABLE_HEAD t 0) table_head_in
    (record { number = λ k e. let z = only-form TABLE_HEAD t 0 k (sym e) in inl (omega arith, omega arith) })
    head-in-meeting

behind-meeting : (t : List ℕ) (p : TableHead × ℕ) → Meeting OfTable (table_behind t p)
unfolding table_behind
behind-meeting t (h, first) =
    then-meeting (spans_in h.vertices 0 0 (frames_of (replicate h.spans SPAN) (drop first t))) _
    (spans-meeting h.vertices 0 0 _) (totalled-meeting h.vertices h.reserved)

pub table-meeting : (t : List ℕ) → Meeting OfTable (read_table t)
unfolding read_table
table-meeting t = then-meeting (read_table_head t) (table_behind t) (head-meeting t) (behind-meeting t)

pub expanded-meeting : (t : List ℕ) → Meeting OfTable (read_expanded t)
unfolding read_expanded
expanded-meeting t = then-meeting (read_table t) _ (table-meeting t) (λ m. answered (stands_for m))
