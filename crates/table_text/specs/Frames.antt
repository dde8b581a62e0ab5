-- The frames of a table text, one by one: what is refused of a head and of a span, and what reading one answers.
use Rattle.std.specs.Prelude.{Bool, cond, ◌&&◌, ◌||◌, List, ℕ, ◌*◌, leb, ltb, eqb}
use Rattle.base.specs.Answer.{Answer, answer, and_then, unless}
use Rattle.base.specs.Limits.{cost_ok}
use Rattle.base.specs.Refusals.{ENDS, COST, WEIGHT, TOTAL}
use Rattle.frame.specs.Table.{TABLE_HEAD, SPAN}
use Rattle.frame.specs.Line.{read_line}
use Rattle.frame.specs.Kinds.{table_head_of, span_of}
use Rattle.frame.specs.declared.line.Fields.{Fields}
use Rattle.frame.specs.declared.kinds.TableHead.{TableHead}
use Rattle.frame.specs.declared.kinds.Span.{Span}
use Rattle.network_frames.specs.Frames.{head_refusal}

-- refusal 16 of a head: a table has at most as many spans as its network has edges
unfoldable pub count_refusal : ℕ → ℕ → ℕ
count_refusal n spans = cond (leb spans (2 * n)) 0 TOTAL

-- a doubled weight is 1 to 4
abbrev pub least_weight : ℕ
least_weight = 1

abbrev pub most_weight : ℕ
most_weight = 4

unfoldable pub weight_ok : ℕ → Bool
weight_ok w = leb least_weight w && leb w most_weight

-- whether a span's pair of ends is above the pair l, h, by lower end, then higher end
unfoldable pub above : ℕ → ℕ → Span → Bool
above l h s = ltb l s.lower || (eqb l s.lower && ltb h s.higher)

-- refusals 4, 15 and 5 of a span behind one with the ends l and h
unfoldable pub span_refusal : ℕ → ℕ → ℕ → Span → ℕ
span_refusal n l h s =
    cond (ltb s.lower s.higher && ltb s.higher n)
    (cond (weight_ok s.weight && above l h s) (cond (cost_ok s.cost) 0 COST) WEIGHT)
    ENDS

-- the head of a line with the place behind it, or refusal 2, 3 or 16
unfoldable pub table_head_in : Fields × ℕ → Answer (TableHead × ℕ)
table_head_in (f, next) =
    let h = table_head_of f in
    unless (head_refusal h.vertices h.reserved)
    (unless (count_refusal h.vertices h.spans) (answer (h, next)))

-- the head that a text starts with, with the place behind its line, or its refusal: 1, 2, 3, 16
unfoldable pub read_table_head : List ℕ → Answer (TableHead × ℕ)
read_table_head text = and_then (read_line TABLE_HEAD text 0) table_head_in

-- the span of a line behind one with the ends l and h, in a table of n
-- vertices, with the place behind the line, or refusal 4, 15 or 5
unfoldable pub span_in : ℕ → ℕ → ℕ → Fields × ℕ → Answer (Span × ℕ)
span_in n l h (f, next) = let s = span_of f in unless (span_refusal n l h s) (answer (s, next))

-- the span at a place of a text, with the place behind its line, or its refusal: 1, 4, 15, 5
unfoldable pub read_span : List ℕ → ℕ → ℕ → ℕ → ℕ → Answer (Span × ℕ)
read_span text at n l h = and_then (read_line SPAN text at) (span_in n l h)
