-- What is owed of a reasons text: each edge's line stands at its place, and says the edge, its rule and its step.
use Rattle.std.specs.Prelude.{◌≡◌, true, List, ℕ, ◌*◌, ◌^◌, ◌≤◌, ◌<◌, length, drop}
use Rattle.base.specs.Columns.{at}
use Rattle.base.specs.Limits.{edge_limit}
use Rattle.frame.specs.Table.{REASON, line_length}
use Rattle.frame.specs.Line.{is_line}
use Rattle.reasons_text.specs.Text.{reason_at, reasons_text, reason_in}

pub record EachLine : Type 0 where
  -- 'write one frame 0a per cable': as many lines as edges, and nothing else
  pub counted : (n : ℕ) (rules steps : List ℕ) → length (reasons_text n rules steps) ≡ n * line_length REASON
  -- 'in cable order': behind the lines of the edges before it, edge e has a line of kind 0a,
  pub line : (n : ℕ) (rules steps : List ℕ) (e : ℕ) → e < n
      → is_line REASON (drop (e * line_length REASON) (reasons_text n rules steps)) ≡ true
  -- 'cable (2), rule (1), step (2)': which says the edge, and its rule and its step, where they have so many bytes
  pub says : (n : ℕ) (rules steps : List ℕ) → n ≤ edge_limit → (e : ℕ) → e < n
      → at rules e < 2 ^ 8 → at steps e < 2 ^ 16
      → reason_in (reasons_text n rules steps) e ≡ reason_at rules steps e
