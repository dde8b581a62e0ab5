-- Table texts and their meanings are one to one, and no text is longer than the longest one.
-- Assumes nothing.
use mathlib.Core.Path.{◌≡◌, refl, sym, ◌∙◌, ap}
use mathlib.Core.List.{List, [], ◌∷◌, map}
use Prim.Native.Nat.{ℕ, ◌+◌, ◌*◌, ◌^◌, ◌≤◌, ◌<◌}
use native.Mathlib.Omega.{arith}
use native.Mathlib.Nat.{mul-le-mul, zero-add}
use lib.Dec.{lit<}
use lib.ListN.{length, replicate, length-append, length-map, length-replicate}
use lib.Signed.{mag}
use borrow.Author.Tests.{eq-eqb}
use Rattle.base.specs.Answer.{answer, and_then, unless}
use Rattle.base.specs.Lengths.{longest_table}
use Rattle.base.specs.Limits.{vertex_limit, edge_limit}
use Rattle.base.proofs.Answers.{then-answer}
use Rattle.digits.proofs.Signs.{unsigned-lt}
use Rattle.frame.specs.Table.{TABLE_HEAD, SPAN, bytes_of, padded, total, place_of, start_of, digits_of, widths, line_length}
use Rattle.frame.specs.Line.{line_of, line_at, read_line, Fits}
use Rattle.frame.specs.Kinds.{cost_digits, of_table_head, span_cost_digits, of_span}
use Rattle.frame.specs.Frames.{listed, lines_of, AllFit}
use Rattle.frame.specs.declared.kinds.TableHead.{TableHead}
use Rattle.frame.specs.declared.kinds.Span.{Span}
use Rattle.frame.proofs.Lines.{length-line, line-is, line-rest, fields-found}
use Rattle.frame.proofs.Named.{span-found}
use Rattle.frame.proofs.Whole.{frames-found, length-lines, text-replicate}
use Rattle.network_text.proofs.CostField.{cost-spelt}
use Rattle.network_text.proofs.OneToOne.{head-unrefused}
use Rattle.table_text.specs.Frames.{table_head_in, read_table_head}
use Rattle.table_text.specs.Text.{Table, spans_in, totalled, table_behind, read_table, SpanFine, SpansFine, Fine}
use Rattle.table_text.specs.Text.{table_text}
use Rattle.table_text.specs.OneToOne.{OneToOne}
use Rattle.table_text.proofs.Passed.{span-unrefused, count-unrefused}
use Rattle.table_text.proofs.Meaning.{parts}

-- ── the longest text ──

-- the number of base is what the table of frames says
pub longest-table : line_length TABLE_HEAD + edge_limit * line_length SPAN ≡ longest_table
unfolding line_length start_of place_of bytes_of padded total
longest-table = refl

length-table : (m : Table) → length (table_text m) ≡ line_length TABLE_HEAD + length m.spans * line_length SPAN
unfolding table_text
length-table m =
    let ss = m.spans in
    let f = of_table_head (record { vertices = m.vertices; reserved = m.reserved; spans = length ss }) in
    length-append (line_of TABLE_HEAD f) (lines_of (replicate (length ss) SPAN) (map of_span ss))
    ∙ omega (
      arith,
      length-line TABLE_HEAD f,
      length-lines (replicate (length ss) SPAN) (map of_span ss)
          (length-replicate (length ss) SPAN ∙ sym (length-map ss of_span)),
      text-replicate (length ss) SPAN,
    )

longest : (t : List ℕ) (m : Table) → read_table t ≡ answer m → length t ≤ longest_table
longest t m x =
    let p = parts t m x in
    let few = p.fine.network.few in
    let size = line_length SPAN in
    let all =
    mul-le-mul {n₁ = length m.spans} {m₁ = size} {n₂ = edge_limit} {m₂ = size} (omega (arith, p.fine.spans_few))
    (omega arith) in
    omega (arith, ap length p.text_is, length-table m, all, longest-table)

-- ── the text of a fine table reads as the table ──

-- a fine span has room in its frame
span_fits : (n l h : ℕ) (s : Span) → SpanFine n l h s → n ≤ vertex_limit → 2 * mag s.cost < 16 ^ span_cost_digits
    → Fits SPAN (of_span s)
unfolding Fits widths bytes_of padded span_cost_digits digits_of
span_fits n l h s f few c = (
  omega (arith, f.rising, f.inside),
  (omega (arith, f.inside), (omega (arith, f.most), (unsigned-lt span_cost_digits s.cost c, (lit< tt, tt)))),
)

-- its cost has as many digits as an edge's
same_width : span_cost_digits ≡ cost_digits
unfolding span_cost_digits cost_digits digits_of bytes_of padded
same_width = refl

cost-fits : (n l h : ℕ) (s : Span) → SpanFine n l h s → 2 * mag s.cost < 16 ^ span_cost_digits
cost-fits n l h s f = rw same_width (cost-spelt s.cost f.limited)

spans_fit : (n l h : ℕ) (ss : List Span) → SpansFine n l h ss → n ≤ vertex_limit
    → AllFit (replicate (length ss) SPAN) (map of_span ss)
spans_fit n l h [] f few = tt
spans_fit n l h (s ∷ ss) f few = (
  span_fits n l h s f.0 few (cost-fits n l h s f.0),
  spans_fit n s.lower s.higher ss f.1 few,
)

spans-read : (n l h : ℕ) (ss : List Span) → SpansFine n l h ss → spans_in n l h (listed (map of_span ss)) ≡ answer ss
unfolding spans_in listed unless and_then
spans-read n l h [] f = refl
spans-read n l h (s ∷ ss) f =
    rw (
      span-found s (cost-fits n l h s f.0),
      span-unrefused n l h s f.0,
      spans-read n s.lower s.higher ss f.1,
    )

module _ (m : Table) (f : Fine m) where
  abbrev head : TableHead
  head = record { vertices = m.vertices; reserved = m.reserved; spans = length m.spans }

  abbrev lines : List ℕ
  lines = lines_of (replicate (length m.spans) SPAN) (map of_span m.spans)

  head-fits : Fits TABLE_HEAD (of_table_head head)
  unfolding Fits widths bytes_of padded
  head-fits = (
    omega (arith, f.few),
    (omega (arith, f.few, f.reserved_one), (omega (arith, f.few, f.count), (lit< tt, (lit< tt, tt)))),
  )

  head_read : read_table_head (table_text m) ≡ answer (head, line_length TABLE_HEAD)
  unfolding table_text read_table_head table_head_in read_line line_at and_then unless
  head_read =
      rw (
        line-is TABLE_HEAD (of_table_head head) lines,
        fields-found TABLE_HEAD (of_table_head head) lines head-fits,
        head-unrefused m.vertices m.reserved
            (record { many = f.many; few = f.few; inside = f.reserved_one }),
        count-unrefused m.vertices (length m.spans) f.count,
        zero-add,
      )

  read_back : read_table (table_text m) ≡ answer m
  unfolding read_table table_behind
  read_back =
      then-answer (read_table_head (table_text m)) (table_behind (table_text m)) _ head_read ∙ spans-back
    where
      spans-back : table_behind (table_text m) (head, line_length TABLE_HEAD) ≡ answer m
      spans-back =
          unfold table_behind table_text totalled and_then in
          rw (
            line-rest TABLE_HEAD (of_table_head head) lines,
            frames-found (replicate (length m.spans) SPAN) (map of_span m.spans)
                (spans_fit m.vertices 0 0 m.spans f.each f.few),
            spans-read m.vertices 0 0 m.spans f.each,
            eq-eqb _ _ f.total,
          )

-- and a table that is read is fine
read-fine : (t : List ℕ) (m : Table) → read_table t ≡ answer m → Fine m
read-fine t m x =
    let p = parts t m x in
    record {
      many = p.fine.network.many;
      few = p.fine.network.few;
      reserved_one = p.fine.network.inside;
      count = p.fine.spans_few;
      each = p.passed;
      total = p.total;
    }

pub one_to_one : OneToOne
one_to_one =
    record {
      reads = λ t m. (
        λ x. ((parts t m x).text_is, read-fine t m x),
        λ w. ap read_table w.0 ∙ read_back m w.1,
      );
      one_text = λ s t m x y. (parts s m x).text_is ∙ sym (parts t m y).text_is;
      longest = longest;
    }
