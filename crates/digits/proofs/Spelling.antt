-- Numbers spelt in any count of digits: read back, and what is read is what is spelt.
-- Assumes nothing.
use mathlib.Core.Path.{◌≡◌, refl, ap, sym, ◌∙◌}
use mathlib.Core.Bool.{Bool, true, false, ◌&&◌, cond}
use mathlib.Core.List.{List, [], ◌∷◌, ◌++◌}
use Prim.Native.Nat.{ℕ, zero, suc, ◌+◌, ◌*◌, ◌-◌, ◌/◌, ◌%◌, ◌^◌, ◌≤◌, ◌<◌}
use native.Mathlib.Omega.{arith}
use native.Mathlib.Numerals.{add-one, sub-one}
use native.Mathlib.Nat.{pow-suc, pow-zero, add-suc, suc-add, add-zero, zero-add, mul_assoc, mul_comm, mul-one}
use native.Mathlib.Nat.{lt_of_lt_of_le, mul-le-mul_right, pow-le-pow_right}
use lib.Dec.{lit<, ltb}
use lib.ListN.{length, take, drop, get_or, set, length-set, drop_of_length-le}
use lib.Seq.{drop-cons, drop-set-lt, get_or-set_same, drop_at, take_at}
use lib.Arith.{digits_div, digits_mod}
use borrow.Author.Tests.{le-ltb, lt-ltb, ltb-true}
use Rattle.digits.specs.Hexadecimal.{value_of, digit_of, all_digits, number_of, number_in, spell}
use Rattle.std.proofs.Common.{Some, None}
use Rattle.std.proofs.lemmas.Grind.{pow_more}
use Rattle.base.proofs.Bools.{no_answer, and_left, and_right}
use Rattle.digits.proofs.Values.{digit_value, value-digit}

pub spell-append : (d v : ℕ) (s rest : List ℕ) → spell d v (s ++ rest) ≡ spell d v s ++ rest
unfolding spell
spell-append zero v s rest = refl
spell-append (suc d) v s rest = spell-append d (v / 16) (digit_of (v % 16) ∷ s) rest

pub length-spell : (d v : ℕ) (rest : List ℕ) → length (spell d v rest) ≡ d + length rest
unfolding spell
length-spell zero v rest = sym (zero-add (length rest))
length-spell (suc d) v rest = length-spell d (v / 16) (digit_of (v % 16) ∷ rest) ∙ omega arith

pub drop-spell : (d v : ℕ) (rest : List ℕ) → drop d (spell d v rest) ≡ rest
drop-spell d v rest =
    ap (drop d) (spell-append d v [] rest) ∙ drop_at (spell d v []) rest d (length-spell d v [] ∙ add-zero d)

pub take-spell : (d v : ℕ) (rest : List ℕ) → take d (spell d v rest) ≡ spell d v []
take-spell d v rest =
    ap (take d) (spell-append d v [] rest) ∙ take_at (spell d v []) rest d (length-spell d v [] ∙ add-zero d)

pub digits-spell : (d v : ℕ) (rest : List ℕ) → all_digits (spell d v rest) ≡ all_digits rest
unfolding spell all_digits
digits-spell zero v rest = refl
digits-spell (suc d) v rest =
    digits-spell d (v / 16) (digit_of (v % 16) ∷ rest)
    ∙ rw (value-digit (v % 16) (omega arith), lt-ltb (v % 16) 16 (omega arith))

-- the number that was spelt is read
pub number-spell : (d a v : ℕ) (rest : List ℕ) → v < 16 ^ d
    → number_of a (spell d v rest) ≡ number_of (a * 16 ^ d + v) rest
unfolding number_of spell
number-spell zero a v rest h = ap (λ (x : ℕ). number_of x rest) (omega (arith, pow-zero 16))
number-spell (suc d) a v rest h =
    number-spell d a (v / 16) (digit_of (v % 16) ∷ rest) (omega (arith, pow-suc 16 d))
    ∙ ap (λ (x : ℕ). number_of x rest) (rw (pow-suc, ← mul_assoc) (omega (arith, value-digit (v % 16) (omega arith))))

-- the digits that were read are spelt
pub spell-number : (s : List ℕ) (k a : ℕ) (rest : List ℕ) → all_digits s ≡ true
    → spell (k + length s) (number_of a s) rest ≡ spell k a (s ++ rest)
unfolding number_of spell all_digits
spell-number [] k a rest h = rw add-zero
spell-number (c ∷ s) k a rest h =
    let d : ltb (value_of c) 16 ≡ true = and_left (ltb (value_of c) 16) (all_digits s) h in
    let l : value_of c < 16 = ltb-true (value_of c) 16 d in
    ap (λ (n : ℕ). spell n (number_of (a * 16 + value_of c) s) rest) (add-suc k (length s) ∙ sym (suc-add k (length s)))
    ∙ spell-number s (suc k) (a * 16 + value_of c) rest (and_right (ltb (value_of c) 16) (all_digits s) h)
    ∙ rw (digits_div a l, digits_mod a l, digit_value c d)

-- what is read has room in its digits
pub number_lt : (a : ℕ) (s : List ℕ) → all_digits s ≡ true → number_of a s < (a + 1) * 16 ^ length s
unfolding number_of all_digits
number_lt a [] h = omega (arith, pow-zero 16, mul-one (a + 1))
number_lt a (c ∷ s) h =
    let l : value_of c < 16 = ltb-true (value_of c) 16 (and_left (ltb (value_of c) 16) (all_digits s) h) in
    lt_of_lt_of_le (number_lt (a * 16 + value_of c) s (and_right (ltb (value_of c) 16) (all_digits s) h))
    (rw (pow-suc, mul_comm (16 ^ length s) 16, ← mul_assoc) (mul-le-mul_right (16 ^ length s) (omega arith)))

-- digits in two parts
pub digits_append : (s t : List ℕ) → all_digits (s ++ t) ≡ (all_digits s && all_digits t)
unfolding all_digits
digits_append [] t = refl
digits_append (c ∷ s) t = go (ltb (value_of c) 16) (digits_append s t)
  where
    go : (b : Bool) → all_digits (s ++ t) ≡ (all_digits s && all_digits t)
        → (b && all_digits (s ++ t)) ≡ (b && all_digits s && all_digits t)
    go true e = e
    go false e = refl

-- a digit is read: what it and the digits before it spell with the rest, and that all from it on are digits exactly if
-- all behind it are
module _ (s : List ℕ) (i : ℕ) (h : i < length s) where
  pub number-more : (v : ℕ) → number_of v (drop i s) ≡ number_of (v * 16 + value_of (get_or s i 0)) (drop (i + 1) s)
  unfolding number_of
  number-more v = rw (add-one, drop-cons s i 0) refl

  pub digits-more : value_of (get_or s i 0) < 16 → all_digits (drop i s) ≡ all_digits (drop (i + 1) s)
  unfolding all_digits
  digits-more l = rw (add-one, drop-cons s i 0, lt-ltb (value_of (get_or s i 0)) 16 l) refl

pub ruleset read_digit = (pow_more, number-more, digits-more)

-- what is known while digits are read: the digits that are left spell, behind the number so far, what all of them
-- spell, and are digits exactly if all are
pub record Reading (s : List ℕ) (v i : ℕ) : Type 0 where
  pub within : i ≤ length s
  pub room : v < 16 ^ i
  pub number : number_of v (drop i s) ≡ number_of 0 s
  pub digits : all_digits (drop i s) ≡ all_digits s

pub reading-none : (s : List ℕ) → Reading s 0 0
reading-none s = record { within = omega arith; room = lit< tt; number = refl; digits = refl }

module _ (s : List ℕ) (v i : ℕ) (r : Reading s v i) where
  pub reading-end : length s ≤ i → Some v ≡ number_in s
  unfolding number_of all_digits number_in
  reading-end h =
      let e : drop i s ≡ [] = drop_of_length-le s h in
      rw (← r.digits, e) (rw e at (ap Some r.number))

  module _ (d : ℕ) (e : d ≡ value_of (get_or s i 0)) (h : i < length s) where
    pub reading-stop : 16 ≤ d → None ≡ number_in s
    unfolding all_digits number_in
    reading-stop l =
        let x : all_digits (drop i s) ≡ false = rw (drop-cons s i 0, le-ltb (value_of (get_or s i 0)) 16 (omega arith)) in
        rw (← r.digits, x)

    pub reading-more : d < 16 → Reading s (v * 16 + d) (i + 1)
    reading-more l = grind (arith, read_digit)

    pub reading-fits : length s ≤ 16 → d < 16 → v * 16 + d < 2 ^ 64
    reading-fits k l =
        lt_of_lt_of_le (reading-more l).room (pow-le-pow_right {n = 16} (lit< tt) {i = i + 1} {j = 16} (omega arith))

-- the loop that spells: a turn, an end
pub spell-step : (i v : ℕ) (out : List ℕ) → 0 < i → i ≤ length out →
    spell (i - 1) (v / 16) (drop (i - 1) (set out (i - 1) (digit_of (v % 16)))) ≡ spell i v (drop i out)
unfolding spell
spell-step zero v out p h = absurd (omega arith)
spell-step (suc k) v out p h =
    let l : k < length (set out k (digit_of (v % 16))) = simp length-set h in
    rw (
      sub-one,
      drop-cons (set out k (digit_of (v % 16))) k 0 l,
      get_or-set_same out k (digit_of (v % 16)) 0 h,
      drop-set-lt (suc k) out k (digit_of (v % 16)) (omega arith),
    )

pub spell-end : (i v : ℕ) (out : List ℕ) → i ≤ 0 → spell i v (drop i out) ≡ out
unfolding spell
spell-end zero v out h = refl
spell-end (suc i) v out h = absurd (omega arith)

-- what a number that was read says of its bytes
pub number_is : (s : List ℕ) (v : ℕ) → Some v ≡ number_in s → (all_digits s ≡ true) × (v ≡ number_of 0 s)
unfolding number_in
number_is s v e = go (all_digits s) refl e
  where
    go : (b : Bool) → all_digits s ≡ b → Some v ≡ cond b (Some (number_of 0 s)) None
        → (all_digits s ≡ true) × (v ≡ number_of 0 s)
    go true d p = (d, cc)
    go false d p = no_answer (cc)

pub number-broken : (s : List ℕ) → None ≡ number_in s → all_digits s ≡ false
unfolding number_in
number-broken s e = go (all_digits s) refl e
  where
    go : (b : Bool) → all_digits s ≡ b → None ≡ cond b (Some (number_of 0 s)) None → all_digits s ≡ false
    go true d p = no_answer (cc)
    go false d p = d
