-- What is owed of numbers printed in base ten, at every width.
use Rattle.std.specs.Prelude.{true, false, ◌&&◌, List, [], ◌∷◌, ◌++◌, ◌≢◌, ◌≡◌, ℕ, suc, ◌-◌, ◌^◌, ◌≤◌, length, get_or, replicate, ℤ, pos, negsuc}
use Rattle.std.specs.Int.Signed.{lt_z}
use Rattle.decimal.specs.BaseTen.{space, minus, digit, digits, aligned, fits, number_in}

-- characters from 0 to 9
abbrev pub AllDigits : List ℕ → Type 0
AllDigits [] = Unit
AllDigits (c ∷ s) = (digit 0 ≤ c) × (c ≤ digit 9) × AllDigits s

pub record RightAligned : Type 0 where
  -- 'right-aligned in base ten with spaces, a minus directly before the first digit'
  pub positive : (w v : ℕ) → aligned w (pos v) ≡ replicate (w - length (digits v)) space ++ digits v
  pub negative : (w v : ℕ)
      → aligned w (negsuc v) ≡ replicate (w - suc (length (digits (suc v)))) space ++ (minus ∷ digits (suc v))
  -- 'no leading zeros'
  pub all_digits : (v : ℕ) → AllDigits (digits v)
  pub first_digit : (v : ℕ) → get_or (digits (suc v)) 0 (digit 0) ≢ digit 0
  -- which numbers fit: w + 1 characters have room for those above -10^w and below 10^(w + 1), no character for none
  pub room : (w : ℕ) (z : ℤ) → fits (suc w) z ≡ (lt_z (negsuc (10 ^ w - 1)) z && lt_z z (pos (10 ^ suc w)))
  pub no_room : (z : ℤ) → fits 0 z ≡ false
  -- a number that fits takes the whole width
  pub width : (w : ℕ) (z : ℤ) → fits w z ≡ true → length (aligned w z) ≡ w
  -- what is printed is read again, so printing is one to one
  pub read_back : (w : ℕ) (z : ℤ) → number_in (aligned w z) ≡ z
  pub one_to_one : (w : ℕ) (y z : ℤ) → aligned w y ≡ aligned w z → y ≡ z
