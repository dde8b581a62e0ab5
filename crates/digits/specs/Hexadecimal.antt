-- Numbers spelt in hexadecimal digits, the high digit first.
use Rattle.std.specs.Prelude.{Bool, true, cond, ◌&&◌, List, [], ◌∷◌, ℕ, zero, suc, ◌+◌, ◌*◌, ◌-◌, ◌/◌, ◌%◌, leb, ltb, Option, Some, None}
use Rattle.base.specs.Fold.{tabulate}

-- the value of a digit 0-9 or a-f, and 16 of any other byte
unfoldable pub value_of : ℕ → ℕ
value_of c = cond (ltb c 48) 16 (cond (leb c 57) (c - 48) (cond (ltb c 97) 16 (cond (leb c 102) (c - 97 + 10) 16)))

-- how many values a byte can have
abbrev pub byte_values : ℕ
byte_values = 256

-- the value at each byte
unfoldable pub digit_values : List ℕ
digit_values = tabulate byte_values value_of

-- the digit of a value below 16
unfoldable pub digit_of : ℕ → ℕ
digit_of v = cond (ltb v 10) (48 + v) (97 + (v - 10))

-- whether every byte is a digit
unfoldable pub all_digits : List ℕ → Bool
all_digits [] = true
all_digits (c ∷ s) = ltb (value_of c) 16 && all_digits s

-- the number that the digits s spell behind those that spell v
unfoldable pub number_of : ℕ → List ℕ → ℕ
number_of v [] = v
number_of v (c ∷ s) = number_of (v * 16 + value_of c) s

-- the number that bytes spell, where all are digits
unfoldable pub number_in : List ℕ → Option ℕ
number_in s = cond (all_digits s) (Some (number_of 0 s)) None

-- the last d digits of v, and then rest
unfoldable pub spell : ℕ → ℕ → List ℕ → List ℕ
spell zero v rest = rest
spell (suc d) v rest = spell d (v / 16) (digit_of (v % 16) ∷ rest)
