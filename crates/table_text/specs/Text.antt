-- Table texts: what a text means, and the network that it stands for.
use Rattle.std.specs.Prelude.{◌≡◌, ◌⊎◌, true, cond, List, [], ◌∷◌, ◌++◌, map, ℕ, zero, suc, ◌+◌, ◌*◌, ◌≤◌, ◌<◌, eqb, length, drop, replicate}
use Rattle.base.specs.Answer.{Answer, refused, answer, and_then, unless}
use Rattle.base.specs.Limits.{fewest_vertices, vertex_limit, cost_ok}
use Rattle.base.specs.Refusals.{FORM, TOTAL}
use Rattle.frame.specs.Table.{TABLE_HEAD, SPAN}
use Rattle.frame.specs.Line.{line_of}
use Rattle.frame.specs.Kinds.{of_table_head, span_of, of_span}
use Rattle.frame.specs.Frames.{Frames, done, broken, frame, frames_of, lines_of}
use Rattle.frame.specs.declared.kinds.TableHead.{TableHead}
use Rattle.frame.specs.declared.kinds.Span.{Span}
use Rattle.frame.specs.declared.kinds.Edge.{Edge}
use Rattle.network_text.specs.Text.{Meaning, meaning_of}
use Rattle.table_text.specs.Frames.{least_weight, most_weight, span_refusal, read_table_head}

-- the meaning of a table text: how many vertices, the reserved edge, and the spans in their order
pub record Table : Type 0 where
  pub vertices : ℕ
  pub reserved : ℕ
  pub spans : List Span

-- ── reading ──

-- the spans of frames behind a span with the ends l and h, with the first refusal
unfoldable pub spans_in : ℕ → ℕ → ℕ → Frames → Answer (List Span)
spans_in n l h done = answer []
spans_in n l h broken = refused FORM
spans_in n l h (frame f fs) =
    let s = span_of f in
    unless (span_refusal n l h s) (and_then (spans_in n s.lower s.higher fs) (λ later. answer (s ∷ later)))

-- the sum of the doubled weights
unfoldable pub weights : List Span → ℕ
weights [] = 0
weights (s ∷ ss) = s.weight + weights ss

-- spans whose doubled weights total twice the vertices, or refusal 16
unfoldable pub totalled : ℕ → ℕ → List Span → Answer Table
totalled n r ss =
    cond (eqb (weights ss) (2 * n)) (answer (record { vertices = n; reserved = r; spans = ss })) (refused TOTAL)

-- the table behind a head: as many spans as it says and nothing else. Before
-- the first span stand the ends 0 and 0: every pair of two ends is above them
unfoldable pub table_behind : List ℕ → TableHead × ℕ → Answer Table
table_behind t (h, first) =
    let n = h.vertices in
    and_then (spans_in n 0 0 (frames_of (replicate h.spans SPAN) (drop first t))) (totalled n h.reserved)

-- the meaning of a table text, or its first refusal: 1, 2, 3 and 16 of the
-- head, 1, 4, 15 and 5 of each span, 1 for bytes left over, 16 for the total
unfoldable pub read_table : List ℕ → Answer Table
read_table t = and_then (read_table_head t) (table_behind t)

-- ── the network that a table stands for ──

-- so many edges with a span's ends and cost, numbered on from k
unfoldable pub copies : ℕ → ℕ → Span → List Edge
copies zero k s = []
copies (suc w) k s =
    record { number = k; lower = s.lower; higher = s.higher; cost = s.cost } ∷ copies w (suc k) s

-- the edges of spans: each span's doubled weight says how many, and they are numbered on in span order
unfoldable pub expanded : ℕ → List Span → List Edge
expanded k [] = []
expanded k (s ∷ ss) = copies s.weight k s ++ expanded (k + s.weight) ss

-- the network of a table; the reserved number is the number of one of these edges
unfoldable pub stands_for : Table → Meaning
stands_for m = meaning_of m.vertices m.reserved (expanded 0 m.spans)

-- the network that a table text stands for, or the text's first refusal
unfoldable pub read_expanded : List ℕ → Answer Meaning
read_expanded t = and_then (read_table t) (λ m. answer (stands_for m))

-- ── the tables that have a text, in document 02's words ──

-- a span behind one with the ends l and h
pub record SpanFine (n l h : ℕ) (s : Span) : Type 0 where
  pub rising : s.lower < s.higher
  pub inside : s.higher < n
  pub least : least_weight ≤ s.weight
  pub most : s.weight ≤ most_weight
  pub higher_pair : (l < s.lower) ⊎ ((l ≡ s.lower) × (h < s.higher))
  pub limited : cost_ok s.cost ≡ true

abbrev pub SpansFine : ℕ → ℕ → ℕ → List Span → Type 0
SpansFine n l h [] = Unit
SpansFine n l h (s ∷ ss) = SpanFine n l h s × SpansFine n s.lower s.higher ss

pub record Fine (m : Table) : Type 0 where
  pub many : fewest_vertices ≤ m.vertices
  pub few : m.vertices ≤ vertex_limit
  pub reserved_one : m.reserved < 2 * m.vertices
  pub count : length m.spans ≤ 2 * m.vertices
  pub each : SpansFine m.vertices 0 0 m.spans
  pub total : weights m.spans ≡ 2 * m.vertices

-- ── the one text of a table ──

unfoldable pub table_text : Table → List ℕ
table_text m =
    let ss = m.spans in
    line_of TABLE_HEAD (of_table_head (record { vertices = m.vertices; reserved = m.reserved; spans = length ss }))
    ++ lines_of (replicate (length ss) SPAN) (map of_span ss)
