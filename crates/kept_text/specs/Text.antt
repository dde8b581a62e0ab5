-- Kept texts and the refusal line.
use Rattle.std.specs.Prelude.{◌≡◌, Bool, true, false, ◌&&◌, List, ◌++◌, ℕ, ◌+◌, ◌*◌, ◌-◌, ltb, length, drop, get_or, ℤ}
use Rattle.base.specs.Answer.{answer}
use Rattle.base.specs.Fold.{pick, among}
use Rattle.base.specs.Limits.{vertices_ok}
use Rattle.frame.specs.Table.{KEPT, COSTS, REFUSAL, line_length}
use Rattle.frame.specs.Line.{fields_of, line_of}
use Rattle.frame.specs.Kinds.{costs_of, of_costs, of_refusal}
use Rattle.frame.specs.declared.kinds.Costs.{Costs}
use Rattle.list_text.specs.Text.{read_list, list_text}

-- whether an edge is kept, by its mark; one beyond the marks isn't
abbrev pub is_kept : List Bool → ℕ → Bool
is_kept marks e = get_or marks e false

-- the kept edges among the first n
unfoldable pub kept_edges : ℕ → List Bool → List ℕ
kept_edges n marks = pick n 0 (is_kept marks)

-- the frame 06: the cost of the kept edges, and that of all edges but the reserved one
unfoldable pub costs_text : ℤ → ℤ → List ℕ
costs_text kept unreserved = line_of COSTS (of_costs (record { kept = kept; unreserved = unreserved }))

-- the kept edges, rising, and then the costs
unfoldable pub kept_text : List ℕ → ℤ → ℤ → List ℕ
kept_text es kept unreserved = list_text es ++ costs_text kept unreserved

-- the frame 06 that a kept text ends with
unfoldable pub costs_end : List ℕ → List ℕ
costs_end t = drop (length t - line_length COSTS) t

-- the costs in it
unfoldable pub costs_in : List ℕ → Costs
costs_in t = costs_of (fields_of COSTS (costs_end t))

-- how many bytes the kept text of so many edges has
unfoldable pub kept_length : ℕ → ℕ
kept_length count = count * line_length KEPT + line_length COSTS

-- the line of a refusal
unfoldable pub refusal_text : ℕ → List ℕ
refusal_text k = line_of REFUSAL (of_refusal (record { number = k }))

-- what is owed of the edges that a kept text lists
pub record ListsKept : Type 0 where
  -- 'the kept text lists exactly these': an edge of a network is listed if and only if it is kept
  pub exactly : (n : ℕ) (marks : List Bool) (e : ℕ) → among e (kept_edges n marks) ≡ (ltb e n && is_kept marks e)
  -- 'frames 05 in rising order': its frames 05 are an audit list, which reads as the kept edges
  pub rising : (n : ℕ) (marks : List Bool) → vertices_ok n ≡ true
      → read_list n (list_text (kept_edges (2 * n) marks)) ≡ answer (kept_edges (2 * n) marks)
