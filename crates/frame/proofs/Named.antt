-- Frames with named fields and frames as lines spell them: each is found again in the other.
-- Assumes nothing.
use mathlib.Core.Path.{◌≡◌, refl}
use mathlib.Core.List.{List, [], ◌∷◌, map}
use Prim.Native.Nat.{ℕ, zero, suc, ◌*◌, ◌^◌, ◌≤◌, ◌<◌}
use native.Mathlib.Omega.{arith}
use lib.Dec.{lit<}
use lib.ListN.{length, take, get_or, length-map, get_or-map}
use lib.Seq.{take-nil}
use lib.IntN.{ℤ}
use lib.Signed.{mag}
use Rattle.frame.specs.Table.{table, rows, fields, padded, bytes_of, widths, digits_of, HEAD, EDGE, STEP, DROPPED}
use Rattle.frame.specs.Table.{KEPT, COSTS, TABLE_HEAD, SPAN, REFUSAL}
use Rattle.frame.specs.Line.{list_of, fields_from, FitAll, Fits}
use Rattle.frame.specs.Kinds.{head_of, of_head, cost_digits, edge_of, of_edge, step_cost_digits, step_of, of_step}
use Rattle.frame.specs.Kinds.{dropped_of, of_dropped, kept_of, of_kept, kept_digits, unreserved_digits, costs_of, of_costs}
use Rattle.frame.specs.Kinds.{refusal_in, of_refusal, table_head_of, of_table_head, span_cost_digits, span_of, of_span}
use Rattle.frame.specs.declared.line.Fields.{Fields}
use Rattle.frame.specs.declared.kinds.Edge.{Edge}
use Rattle.frame.specs.declared.kinds.Step.{Step}
use Rattle.frame.specs.declared.kinds.Costs.{Costs}
use Rattle.frame.specs.declared.kinds.Span.{Span}
use Rattle.digits.specs.Sign.{signed_of, unsigned_of}
use Rattle.digits.proofs.Signs.{unsigned_signed, signed-unsigned}
use Rattle.frame.proofs.Rows.{length-bytes, digits-narrow}

-- a field of a frame that fits has room in its digits
fit_at : (ds vs : List ℕ) → FitAll ds vs → (k : ℕ) → k < length ds → get_or vs k 0 < 16 ^ get_or ds k 0
fit_at [] vs f k h = absurd (omega arith)
fit_at (d ∷ ds) [] f k h = absurd f
fit_at (d ∷ ds) (v ∷ vs) f zero h = f.0
fit_at (d ∷ ds) (v ∷ vs) f (suc k) h = fit_at ds vs f.1 k (omega arith)

-- what the table has no field for is 0
absent : (n : ℕ) (bytes vs : List ℕ) → FitAll (map (λ b. 2 * b) (padded n bytes)) vs → (k : ℕ)
    → get_or (take (length bytes) vs) k 0 ≡ get_or vs k 0
unfolding padded
absent zero bytes [] f k = rw take-nil
absent zero bytes (v ∷ vs) f k = absurd f
absent (suc n) [] [] f k = absurd f
absent (suc n) [] (v ∷ vs) f zero = omega arith
absent (suc n) [] (v ∷ vs) f (suc k) = absent n [] vs f.1 k
absent (suc n) (b ∷ bytes) [] f k = absurd f
absent (suc n) (b ∷ bytes) (v ∷ vs) f zero = refl
absent (suc n) (b ∷ bytes) (v ∷ vs) f (suc k) = absent n bytes vs f.1 k

module _ (row : ℕ) (f : Fields) (x : Fits row f) where
  pub fits-at : (k : ℕ) → k < fields → get_or (list_of f) k 0 < 16 ^ digits_of row k
  unfolding Fits widths digits_of
  fits-at k h =
      rw (← get_or-map (λ n. 2 * n) (bytes_of row) k 0)
      (fit_at (map (λ n. 2 * n) (bytes_of row)) (list_of f) x k
      (omega (arith, length-map (bytes_of row) (λ n. 2 * n), length-bytes row)))

  -- what the code asks of a field that it reads as a signed number, and that it is found again when it is spelt
  pub signed-asked : row < rows → (k : ℕ) → k < fields → 0 < digits_of row k
      → (0 < digits_of row k) × (digits_of row k ≤ 16) × (get_or (list_of f) k 0 < 16 ^ digits_of row k)
  signed-asked l k h d = (d, digits-narrow row l k h, fits-at k h)

  signed_back : (k : ℕ) → k < fields
      → unsigned_of (digits_of row k) (signed_of (digits_of row k) (get_or (list_of f) k 0)) ≡ get_or (list_of f) k 0
  signed_back k h = unsigned_signed (digits_of row k) (get_or (list_of f) k 0) (fits-at k h)

  -- and all its fields are those that the table has
  present : fields_from (take (length (get_or table row (0, [])).1) (list_of f)) ≡ f
  unfolding Fits widths bytes_of
  present =
      let e = absent fields (get_or table row (0, [])).1 (list_of f) x in
      rw (e 0, e 1, e 2, e 3, e 4)

-- the fields of a frame that fits are those of the frame with named fields
pub head-back : (f : Fields) → Fits HEAD f → of_head (head_of f) ≡ f
head-back = present HEAD

pub dropped-back : (f : Fields) → Fits DROPPED f → of_dropped (dropped_of f) ≡ f
dropped-back = present DROPPED

pub kept_back : (f : Fields) → Fits KEPT f → of_kept (kept_of f) ≡ f
kept_back = present KEPT

pub table-head-back : (f : Fields) → Fits TABLE_HEAD f → of_table_head (table_head_of f) ≡ f
table-head-back = present TABLE_HEAD

pub refusal-back : (f : Fields) → Fits REFUSAL f → of_refusal (refusal_in f) ≡ f
refusal-back = present REFUSAL

pub edge-back : (f : Fields) → Fits EDGE f → of_edge (edge_of f) ≡ f
unfolding cost_digits
edge-back f x = rw (signed_back EDGE f x 3 (lit< tt)) (present EDGE f x)

pub step_back : (f : Fields) → Fits STEP f → of_step (step_of f) ≡ f
unfolding step_cost_digits
step_back f x = rw (signed_back STEP f x 4 (lit< tt)) (present STEP f x)

pub span-back : (f : Fields) → Fits SPAN f → of_span (span_of f) ≡ f
unfolding span_cost_digits
span-back f x = rw (signed_back SPAN f x 3 (lit< tt)) (present SPAN f x)

pub costs-back : (f : Fields) → Fits COSTS f → of_costs (costs_of f) ≡ f
unfolding kept_digits unreserved_digits
costs-back f x = rw (signed_back COSTS f x 0 (lit< tt), signed_back COSTS f x 1 (lit< tt)) (present COSTS f x)

-- a frame with named fields is found again in its fields: without
-- signed fields by computation, and with them where they have room
pub edge-found : (e : Edge) → 2 * mag e.cost < 16 ^ cost_digits → edge_of (of_edge e) ≡ e
unfolding cost_digits digits_of bytes_of padded
edge-found e h = rw (signed-unsigned cost_digits e.cost (lit< tt) h)

pub step-found : (s : Step) → 2 * mag s.cost < 16 ^ step_cost_digits → step_of (of_step s) ≡ s
unfolding step_cost_digits digits_of bytes_of padded
step-found s h = rw (signed-unsigned step_cost_digits s.cost (lit< tt) h)

pub span-found : (s : Span) → 2 * mag s.cost < 16 ^ span_cost_digits → span_of (of_span s) ≡ s
unfolding span_cost_digits digits_of bytes_of padded
span-found s h = rw (signed-unsigned span_cost_digits s.cost (lit< tt) h)

pub costs-found : (c : Costs) → 2 * mag c.kept < 16 ^ kept_digits → 2 * mag c.unreserved < 16 ^ unreserved_digits
    → costs_of (of_costs c) ≡ c
unfolding kept_digits unreserved_digits digits_of bytes_of padded
costs-found c h l =
    rw (signed-unsigned kept_digits c.kept (lit< tt) h, signed-unsigned unreserved_digits c.unreserved (lit< tt) l)

-- sixteen digits have room for every signed number of 64 bits, by its size: what the code asks of one that it spells
-- in them, as of the cost of kind 03
pub word-spelt : (d : ℕ) → d ≡ 16 → {n : ℕ} → n < 2 ^ 63 → (0 < d) × (d ≤ 16) × (2 * n < 16 ^ d)
word-spelt d e h = rw e (lit< tt, omega arith, omega arith)

pub step-cost-spelt : (z : ℤ) → mag z < 2 ^ 63 → 2 * mag z < 16 ^ step_cost_digits
unfolding step_cost_digits digits_of bytes_of padded
step-cost-spelt z h = (word-spelt step_cost_digits refl h).2
