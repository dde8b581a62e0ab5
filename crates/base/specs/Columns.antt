-- What stands in a column of numbers.
use Rattle.std.specs.Prelude.{List, ℕ, get_or}

-- the number at i, 0 behind the last
abbrev pub at : List ℕ → ℕ → ℕ
at column i = get_or column i 0
