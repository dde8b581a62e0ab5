-- What is known of the columns that say which edges there are.
use Rattle.std.specs.Prelude.{Bool, List, ℕ, ◌≤◌, ◌<◌, length, get_or}
use Rattle.base.specs.Limits.{vertex_limit}

-- the columns have room for the edges
pub record Columns (low high : List ℕ) (K : List Bool) (m : ℕ) : Type 0 where
  pub low_room : m ≤ length low
  pub high_room : m ≤ length high
  pub list_room : m ≤ length K

-- the ends of the edges in a column are vertices
abbrev pub Vertices : List ℕ → ℕ → Type 0
Vertices column m = (e : ℕ) → e < m → get_or column e 0 < vertex_limit
