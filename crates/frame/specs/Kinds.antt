-- The frames of each kind with their fields by name, and the fields as a line spells them.
use Rattle.std.specs.Prelude.{[], ◌∷◌, ℕ}
use Rattle.frame.specs.Table.{EDGE, STEP, COSTS, SPAN, digits_of}
use Rattle.frame.specs.Line.{fields_from}
use Rattle.digits.specs.Sign.{signed_of, unsigned_of}
use Rattle.frame.specs.declared.line.Fields.{Fields}
use Rattle.frame.specs.declared.kinds.Head.{Head}
use Rattle.frame.specs.declared.kinds.Edge.{Edge}
use Rattle.frame.specs.declared.kinds.Step.{Step}
use Rattle.frame.specs.declared.kinds.Dropped.{Dropped}
use Rattle.frame.specs.declared.kinds.Kept.{Kept}
use Rattle.frame.specs.declared.kinds.Costs.{Costs}
use Rattle.frame.specs.declared.kinds.TableHead.{TableHead}
use Rattle.frame.specs.declared.kinds.Span.{Span}
use Rattle.frame.specs.declared.kinds.Reason.{Reason}
use Rattle.frame.specs.declared.kinds.Refusal.{Refusal}

-- kind 01: n and the reserved cable
abbrev pub head_of : Fields → Head
head_of f = record { vertices = f.first; reserved = f.second }

abbrev pub of_head : Head → Fields
of_head h = fields_from (h.vertices ∷ h.reserved ∷ [])

-- how many digits the signed fields have: the costs of kinds 02 and 03, the two of kind 06, and the cost of kind 09
unfoldable pub cost_digits : ℕ
cost_digits = digits_of EDGE 3

unfoldable pub step_cost_digits : ℕ
step_cost_digits = digits_of STEP 4

unfoldable pub kept_digits : ℕ
kept_digits = digits_of COSTS 0

unfoldable pub unreserved_digits : ℕ
unreserved_digits = digits_of COSTS 1

unfoldable pub span_cost_digits : ℕ
span_cost_digits = digits_of SPAN 3

-- kind 02: a cable, its lower and its higher end, its cost
abbrev pub edge_of : Fields → Edge
edge_of f =
    record { number = f.first; lower = f.second; higher = f.third; cost = signed_of cost_digits f.fourth }

abbrev pub of_edge : Edge → Fields
of_edge e = fields_from (e.number ∷ e.lower ∷ e.higher ∷ unsigned_of cost_digits e.cost ∷ [])

-- kind 03: v, x, y, z and z's new cost
abbrev pub step_of : Fields → Step
step_of f =
    record {
      v = f.first;
      x = f.second;
      y = f.third;
      z = f.fourth;
      cost = signed_of step_cost_digits f.fifth;
    }

abbrev pub of_step : Step → Fields
of_step s = fields_from (s.v ∷ s.x ∷ s.y ∷ s.z ∷ unsigned_of step_cost_digits s.cost ∷ [])

-- kind 04: the dropped cable
abbrev pub dropped_of : Fields → Dropped
dropped_of f = record { edge = f.first }

abbrev pub of_dropped : Dropped → Fields
of_dropped d = fields_from (d.edge ∷ [])

-- kind 05: a kept cable
abbrev pub kept_of : Fields → Kept
kept_of f = record { edge = f.first }

abbrev pub of_kept : Kept → Fields
of_kept k = fields_from (k.edge ∷ [])

-- kind 06: the kept cost, and the cost of all cables but the reserved one
abbrev pub costs_of : Fields → Costs
costs_of f =
    record { kept = signed_of kept_digits f.first; unreserved = signed_of unreserved_digits f.second }

abbrev pub of_costs : Costs → Fields
of_costs c = fields_from (unsigned_of kept_digits c.kept ∷ unsigned_of unreserved_digits c.unreserved ∷ [])

-- kind 08: n, the reserved cable and the span count
abbrev pub table_head_of : Fields → TableHead
table_head_of f = record { vertices = f.first; reserved = f.second; spans = f.third }

abbrev pub of_table_head : TableHead → Fields
of_table_head h = fields_from (h.vertices ∷ h.reserved ∷ h.spans ∷ [])

-- kind 09: a span, its lower and its higher end, its doubled weight, its cost
abbrev pub span_of : Fields → Span
span_of f =
    record { lower = f.first; higher = f.second; weight = f.third; cost = signed_of span_cost_digits f.fourth }

abbrev pub of_span : Span → Fields
of_span s = fields_from (s.lower ∷ s.higher ∷ s.weight ∷ unsigned_of span_cost_digits s.cost ∷ [])

-- kind 0a: a cable, its rule and its step
abbrev pub reason_of : Fields → Reason
reason_of f = record { edge = f.first; rule = f.second; step = f.third }

abbrev pub of_reason : Reason → Fields
of_reason r = fields_from (r.edge ∷ r.rule ∷ r.step ∷ [])

-- kind 0f: a refusal
abbrev pub refusal_in : Fields → Refusal
refusal_in f = record { number = f.first }

abbrev pub of_refusal : Refusal → Fields
of_refusal r = fields_from (r.number ∷ [])
