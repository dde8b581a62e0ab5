-- The first present vertex, and present vertices before another one, which it is tested against.
use Rattle.std.specs.Prelude.{Bool, true, false, List, ◌≡◌, ℕ, ◌≤◌, ◌<◌, get_or}

-- v is the first of the vertices below n that is present, or n where none is
pub record FirstOf (present : List Bool) (n v : ℕ) : Type 0 where
  pub within : v ≤ n
  pub is_present : v < n → get_or present v false ≡ true
  pub none_before : (u : ℕ) → u < v → get_or present u false ≡ false

-- u is present, and comes before v
pub record Before (present : List Bool) (v u : ℕ) : Type 0 where
  pub earlier : u < v
  pub is_present : get_or present u false ≡ true
