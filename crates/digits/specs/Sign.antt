-- Two's complement of a field with d digits.
use Rattle.std.specs.Prelude.{cond, ℕ, ◌*◌, ◌-◌, ◌^◌, ltb, ℤ, pos, negsuc}

-- the signed number of a field's number
unfoldable pub signed_of : ℕ → ℕ → ℤ
signed_of d v = cond (ltb (2 * v) (16 ^ d)) (pos v) (negsuc (16 ^ d - 1 - v))

-- the field's number of a signed number
unfoldable pub unsigned_of : ℕ → ℤ → ℕ
unsigned_of d (pos v) = v
unsigned_of d (negsuc v) = 16 ^ d - 1 - v
