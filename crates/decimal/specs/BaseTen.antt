-- Numbers in base ten, printed right-aligned and read again.
use Rattle.std.specs.Prelude.{Bool, cond, List, [], ◌∷◌, ◌++◌, ℕ, zero, suc, ◌+◌, ◌*◌, ◌-◌, ◌/◌, ◌%◌, leb, ltb, eqb, length, replicate, ℤ, pos, negsuc, neg_ℤ}

-- the bytes of the characters
abbrev pub space : ℕ
space = 32

abbrev pub minus : ℕ
minus = 45

abbrev pub digit : ℕ → ℕ
digit d = 48 + d

-- ── printing ──

-- the digits of v, the first of them no leading zero, and then rest; at most `more` of them before the last
unfoldable pub digits_then : ℕ → ℕ → List ℕ → List ℕ
digits_then zero v rest = digit v ∷ rest
digits_then (suc more) v rest = cond (ltb v 10) (digit v ∷ rest) (digits_then more (v / 10) (digit (v % 10) ∷ rest))

-- the digits of v, which has no more than v before its last
unfoldable pub digits : ℕ → List ℕ
digits v = digits_then v v []

-- a signed number, with a minus directly before the first digit of a negative one
unfoldable pub in_base_ten : ℤ → List ℕ
in_base_ten (pos v) = digits v
in_base_ten (negsuc v) = minus ∷ digits (suc v)

-- a number right-aligned in w characters, spaces before it
unfoldable pub aligned : ℕ → ℤ → List ℕ
aligned w z = replicate (w - length (in_base_ten z)) space ++ in_base_ten z

-- whether w characters have room for a number
unfoldable pub fits : ℕ → ℤ → Bool
fits w z = leb (length (in_base_ten z)) w

-- ── reading ──

-- the number of the digits s behind those of v
unfoldable pub value_then : ℕ → List ℕ → ℕ
value_then v [] = v
value_then v (c ∷ s) = value_then (v * 10 + (c - digit 0)) s

-- the number that characters print: spaces, a minus or none, digits
unfoldable pub number_in : List ℕ → ℤ
number_in [] = pos 0
number_in (c ∷ s) =
    cond (eqb c space) (number_in s) (cond (eqb c minus) (neg_ℤ (pos (value_then 0 s))) (pos (value_then 0 (c ∷ s))))
