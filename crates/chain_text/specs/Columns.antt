-- The steps of a chain in five columns, and what holds of each column.
use Rattle.std.specs.Prelude.{Bool, ◌&&◌, List, map, ℕ, ℤ}
use Rattle.frame.specs.declared.kinds.Step.{Step}

-- each step's v, x, y, z and z's new cost
pub record Columns : Type 0 where
  pub v : List ℕ
  pub x : List ℕ
  pub y : List ℕ
  pub z : List ℕ
  pub cost : List ℤ

-- columns of given lists
abbrev pub columns : List ℕ → List ℕ → List ℕ → List ℕ → List ℤ → Columns
columns v x y z cost = record { v = v; x = x; y = y; z = z; cost = cost }

-- the columns of steps
abbrev pub columns_of : List Step → Columns
columns_of ss =
    columns (map (λ s. s.v) ss) (map (λ s. s.x) ss) (map (λ s. s.y) ss) (map (λ s. s.z) ss)
    (map (λ s. s.cost) ss)

-- what holds of each column, by the way it is taken from the five
pub record Each (P : (A : Type 0) → (Columns → List A) → Type 0) : Type 0 where
  pub v : P ℕ (λ c. c.v)
  pub x : P ℕ (λ c. c.x)
  pub y : P ℕ (λ c. c.y)
  pub z : P ℕ (λ c. c.z)
  pub cost : P ℤ (λ c. c.cost)

-- whether a test passes of each column
unfoldable pub every : ((A : Type 0) → (Columns → List A) → Bool) → Bool
every f = f ℕ (λ c. c.v) && (f ℕ (λ c. c.x) && (f ℕ (λ c. c.y) && (f ℕ (λ c. c.z) && f ℤ (λ c. c.cost))))
