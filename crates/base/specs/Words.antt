-- Lists of numbers below a bound, and of numbers of 16 bits, as the services' columns hold them.
use Rattle.std.specs.Prelude.{ℕ, ◌^◌, ◌<◌, List, [], ◌∷◌}

-- every number is below a bound
abbrev pub AllBelow : ℕ → List ℕ → Type 0
AllBelow m [] = Unit
AllBelow m (e ∷ es) = (e < m) × AllBelow m es

-- every number has 16 bits
abbrev pub Words : List ℕ → Type 0
Words = AllBelow (2 ^ 16)
