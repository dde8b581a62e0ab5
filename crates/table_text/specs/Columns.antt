-- What the reader of a table asks of its columns, and what laying a span's edges leaves in them.
use Rattle.std.specs.Prelude.{List, ◌++◌, ℕ, ◌+◌, ◌*◌, ◌^◌, ◌≤◌, ◌<◌, length, take, drop, replicate, ℤ}
use Rattle.base.specs.Limits.{edge_limit}
use Rattle.frame.specs.declared.kinds.Span.{Span}
use Rattle.table_text.specs.Frames.{most_weight}

-- the most edges that spans of a table stand for before their total is
-- looked at: each of as many as a network can have edges has the most weight
abbrev pub laid_limit : ℕ
laid_limit = most_weight * edge_limit

-- columns that have room for them
pub record Roomy (low high : List ℕ) (cost : List ℤ) : Type 0 where
  pub low_room : laid_limit ≤ length low
  pub high_room : laid_limit ≤ length high
  pub cost_room : laid_limit ≤ length cost

-- a span whose ends fit the columns, and columns that have room for its edges from a place on
pub record Layable (s : Span) (from : ℕ) (low high : List ℕ) (cost : List ℤ) : Type 0 where
  pub few : s.weight ≤ most_weight
  pub lower_fits : s.lower < 2 ^ 16
  pub higher_fits : s.higher < 2 ^ 16
  pub low_room : from + s.weight ≤ length low
  pub high_room : from + s.weight ≤ length high
  pub cost_room : from + s.weight ≤ length cost

-- a column with k times the same element from a place on
unfoldable pub laid : {A : Type 0} → ℕ → ℕ → A → List A → List A
laid from k a column = take from column ++ replicate k a ++ drop (from + k) column
