-- Numbers printed in base ten and read again, computed.
use mathlib.Core.Path.{◌≡◌, refl, ◌∙◌, ap}
use mathlib.Core.Bool.{true, false}
use mathlib.Core.List.{List, [], ◌∷◌, ◌++◌, map}
use Prim.Native.Nat.{ℕ, ◌-◌}
use lib.Dec.{lit<, lit≤}
use lib.ListN.{length, replicate}
use lib.IntN.{ℤ, pos, negsuc}
use Rattle.decimal.specs.BaseTen.{space, minus, digits_then, digits, in_base_ten, aligned, fits, value_then, number_in}
use Rattle.decimal.proofs.Digits.{one-digit, more-digits}

-- numbers, and what they are in six characters
abbrev printed : List (ℤ × List ℕ)
printed =
    (pos 0, 32 ∷ 32 ∷ 32 ∷ 32 ∷ 32 ∷ 48 ∷ [])
    ∷ (pos 7, 32 ∷ 32 ∷ 32 ∷ 32 ∷ 32 ∷ 55 ∷ [])
    ∷ (pos 10, 32 ∷ 32 ∷ 32 ∷ 32 ∷ 49 ∷ 48 ∷ [])
    ∷ (pos 512, 32 ∷ 32 ∷ 32 ∷ 53 ∷ 49 ∷ 50 ∷ [])
    ∷ (pos 999999, 57 ∷ 57 ∷ 57 ∷ 57 ∷ 57 ∷ 57 ∷ [])
    ∷ (negsuc 0, 32 ∷ 32 ∷ 32 ∷ 32 ∷ 45 ∷ 49 ∷ [])
    ∷ (negsuc 41, 32 ∷ 32 ∷ 32 ∷ 45 ∷ 52 ∷ 50 ∷ [])
    ∷ (negsuc 99998, 45 ∷ 57 ∷ 57 ∷ 57 ∷ 57 ∷ 57 ∷ [])
    ∷ []

-- the digits of the longest of them, one step of `digits_then` after the other
nines : digits 999999 ≡ 57 ∷ 57 ∷ 57 ∷ 57 ∷ 57 ∷ 57 ∷ []
unfolding digits
nines =
    more-digits 999998 999999 [] (lit≤ tt)
    ∙ more-digits 999997 99999 (57 ∷ []) (lit≤ tt)
    ∙ more-digits 999996 9999 (57 ∷ 57 ∷ []) (lit≤ tt)
    ∙ more-digits 999995 999 (57 ∷ 57 ∷ 57 ∷ []) (lit≤ tt)
    ∙ more-digits 999994 99 (57 ∷ 57 ∷ 57 ∷ 57 ∷ []) (lit≤ tt)
    ∙ one-digit 999994 9 (57 ∷ 57 ∷ 57 ∷ 57 ∷ 57 ∷ []) (lit< tt)

below-minus : digits 99999 ≡ 57 ∷ 57 ∷ 57 ∷ 57 ∷ 57 ∷ []
unfolding digits
below-minus =
    more-digits 99998 99999 [] (lit≤ tt)
    ∙ more-digits 99997 9999 (57 ∷ []) (lit≤ tt)
    ∙ more-digits 99996 999 (57 ∷ 57 ∷ []) (lit≤ tt)
    ∙ more-digits 99995 99 (57 ∷ 57 ∷ 57 ∷ []) (lit≤ tt)
    ∙ one-digit 99995 9 (57 ∷ 57 ∷ 57 ∷ 57 ∷ []) (lit< tt)

longest : aligned 6 (pos 999999) ≡ 57 ∷ 57 ∷ 57 ∷ 57 ∷ 57 ∷ 57 ∷ []
unfolding in_base_ten aligned
longest = ap (λ s. replicate (6 - length s) space ++ s) nines

longest-minus : aligned 6 (negsuc 99998) ≡ 45 ∷ 57 ∷ 57 ∷ 57 ∷ 57 ∷ 57 ∷ []
unfolding in_base_ten aligned
longest-minus = ap (λ s. replicate (6 - length (minus ∷ s)) space ++ (minus ∷ s)) below-minus

-- the shorter ones compute
zero_of : aligned 6 (pos 0) ≡ 32 ∷ 32 ∷ 32 ∷ 32 ∷ 32 ∷ 48 ∷ []
unfolding digits_then digits in_base_ten aligned
zero_of = refl

one_of : aligned 6 (pos 7) ≡ 32 ∷ 32 ∷ 32 ∷ 32 ∷ 32 ∷ 55 ∷ []
unfolding digits_then digits in_base_ten aligned
one_of = refl

two_of : aligned 6 (pos 10) ≡ 32 ∷ 32 ∷ 32 ∷ 32 ∷ 49 ∷ 48 ∷ []
unfolding digits_then digits in_base_ten aligned
two_of = refl

three_of : aligned 6 (pos 512) ≡ 32 ∷ 32 ∷ 32 ∷ 53 ∷ 49 ∷ 50 ∷ []
unfolding digits_then digits in_base_ten aligned
three_of = refl

one_below : aligned 6 (negsuc 0) ≡ 32 ∷ 32 ∷ 32 ∷ 32 ∷ 45 ∷ 49 ∷ []
unfolding digits_then digits in_base_ten aligned
one_below = refl

two_below : aligned 6 (negsuc 41) ≡ 32 ∷ 32 ∷ 32 ∷ 45 ∷ 52 ∷ 50 ∷ []
unfolding digits_then digits in_base_ten aligned
two_below = refl

pub printed-so : map (λ c. aligned 6 c.0) printed ≡ map (λ c. c.1) printed
printed-so =
    rw (zero_of, one_of, two_of, three_of, longest, one_below, two_below, longest-minus)

pub read-so : map (λ c. number_in c.1) printed ≡ map (λ c. c.0) printed
unfolding value_then number_in
read-so = refl

-- on either side the last number that has room in two characters, and the first that has none
pub room-so : map (fits 2) (pos 99 ∷ pos 100 ∷ negsuc 8 ∷ negsuc 9 ∷ []) ≡ true ∷ false ∷ true ∷ false ∷ []
unfolding digits_then digits in_base_ten fits
room-so = refl
