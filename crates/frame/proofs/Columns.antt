-- Numbers spelt one after the other, in any counts of digits: they are read back, and what is read is what is spelt.
-- Assumes nothing.
use mathlib.Core.Path.{◌≡◌, refl, sym, ◌∙◌, ap}
use mathlib.Core.Bool.{true, ◌&&◌}
use mathlib.Core.List.{List, [], ◌∷◌, ◌++◌}
use Prim.Native.Nat.{ℕ, suc, ◌+◌, ◌≤◌}
use native.Mathlib.Omega.{arith}
use native.Mathlib.Nat.{zero-add, one-mul}
use lib.ListN.{length, take, drop, length-drop, take-append-drop}
use lib.Seq.{take-add, drop-drop, length-take-le}
use Rattle.frame.specs.Table.{total}
use Rattle.digits.specs.Hexadecimal.{all_digits, number_of, spell}
use Rattle.frame.specs.Line.{spell_all, values_of, FitAll}
use Rattle.base.proofs.Bools.{and_left, and_right}
use Rattle.digits.proofs.Spelling.{spell-append, length-spell, drop-spell, take-spell, digits-spell, number-spell}
use Rattle.digits.proofs.Spelling.{spell-number, number_lt, digits_append}

-- digits in two parts of a text
pub digits-parts : (d n : ℕ) (t : List ℕ)
    → all_digits (take (d + n) t) ≡ (all_digits (take d t) && all_digits (take n (drop d t)))
digits-parts d n t = ap all_digits (take-add d n t) ∙ digits_append (take d t) (take n (drop d t))

pub spell-all-append : (ds vs s rest : List ℕ) → spell_all ds vs (s ++ rest) ≡ spell_all ds vs s ++ rest
unfolding spell_all
spell-all-append [] vs s rest = refl
spell-all-append (d ∷ ds) [] s rest = refl
spell-all-append (d ∷ ds) (v ∷ vs) s rest =
    ap (spell d v) (spell-all-append ds vs s rest) ∙ spell-append d v (spell_all ds vs s) rest

-- as many numbers as counts of digits
module _ (rest : List ℕ) where
  pub length-spell-all : (ds vs : List ℕ) → length ds ≡ length vs
      → length (spell_all ds vs rest) ≡ total ds + length rest
  unfolding spell_all total
  length-spell-all [] vs e = omega arith
  length-spell-all (d ∷ ds) [] e = absurd (omega arith)
  length-spell-all (d ∷ ds) (v ∷ vs) e =
      length-spell d v (spell_all ds vs rest) ∙ omega (arith, length-spell-all ds vs (omega arith))

  pub drop-spell-all : (ds vs : List ℕ) → length ds ≡ length vs → drop (total ds) (spell_all ds vs rest) ≡ rest
  unfolding spell_all total
  drop-spell-all [] vs e = refl
  drop-spell-all (d ∷ ds) [] e = absurd (omega arith)
  drop-spell-all (d ∷ ds) (v ∷ vs) e =
      sym (drop-drop (total ds) d (spell d v (spell_all ds vs rest)))
      ∙ rw (drop-spell d v (spell_all ds vs rest)) (drop-spell-all ds vs (omega arith))

  pub digits-spell-all : (ds vs : List ℕ) → length ds ≡ length vs
      → all_digits (take (total ds) (spell_all ds vs rest)) ≡ true
  unfolding spell_all total all_digits
  digits-spell-all [] vs e = refl
  digits-spell-all (d ∷ ds) [] e = absurd (omega arith)
  digits-spell-all (d ∷ ds) (v ∷ vs) e =
      digits-parts d (total ds) (spell d v (spell_all ds vs rest))
      ∙ rw (take-spell d v (spell_all ds vs rest), digits-spell d v [], drop-spell d v (spell_all ds vs rest))
      (digits-spell-all ds vs (omega arith))

  -- the numbers that were spelt are read
  pub values-found : (ds vs : List ℕ) → FitAll ds vs → values_of ds (spell_all ds vs rest) ≡ vs
  unfolding spell_all values_of number_of
  values-found [] [] f = refl
  values-found [] (v ∷ vs) f = absurd f
  values-found (d ∷ ds) [] f = absurd f
  values-found (d ∷ ds) (v ∷ vs) f =
      let e : number_of 0 (spell d v []) ≡ v = number-spell d 0 v [] f.0 ∙ omega arith in
      rw (take-spell d v (spell_all ds vs rest), e, drop-spell d v (spell_all ds vs rest), values-found ds vs f.1)

-- digits that were read are spelt
respelt : (d : ℕ) (t : List ℕ) → d ≤ length t → all_digits (take d t) ≡ true
    → spell d (number_of 0 (take d t)) (drop d t) ≡ t
unfolding spell
respelt d t h x =
    ap (λ (k : ℕ). spell k (number_of 0 (take d t)) (drop d t)) (sym (length-take-le d t h) ∙ sym (zero-add _))
    ∙ spell-number (take d t) 0 0 (drop d t) x
    ∙ take-append-drop d t

pub length-values : (ds t : List ℕ) → length (values_of ds t) ≡ length ds
unfolding values_of
length-values [] t = refl
length-values (d ∷ ds) t = ap suc (length-values ds (drop d t))

-- a text that has digits where the numbers stand is those numbers spelt, and they have room in their digits
module _ (d : ℕ) (ds t : List ℕ) (h : d + total ds ≤ length t) (x : all_digits (take (d + total ds) t) ≡ true) where
  parted : (all_digits (take d t) && all_digits (take (total ds) (drop d t))) ≡ true
  parted = sym (digits-parts d (total ds) t) ∙ x

  first-digits : all_digits (take d t) ≡ true
  first-digits = and_left (all_digits (take d t)) (all_digits (take (total ds) (drop d t))) parted

  later-digits : all_digits (take (total ds) (drop d t)) ≡ true
  later-digits = and_right (all_digits (take d t)) (all_digits (take (total ds) (drop d t))) parted

  later-long : total ds ≤ length (drop d t)
  later-long = omega (arith, length-drop d t)

pub values-back : (ds t : List ℕ) → total ds ≤ length t → all_digits (take (total ds) t) ≡ true
    → spell_all ds (values_of ds t) (drop (total ds) t) ≡ t
unfolding spell_all values_of total
values-back [] t h x = refl
values-back (d ∷ ds) t h x =
    rw (← drop-drop (total ds) d t, values-back ds (drop d t) (later-long d ds t h x) (later-digits d ds t h x))
    (respelt d t (omega arith) (first-digits d ds t h x))

pub values-fit : (ds t : List ℕ) → total ds ≤ length t → all_digits (take (total ds) t) ≡ true
    → FitAll ds (values_of ds t)
unfolding values_of total
values-fit [] t h x = tt
values-fit (d ∷ ds) t h x = (
  rw (length-take-le d t (omega arith), one-mul) at (number_lt 0 (take d t) (first-digits d ds t h x)),
  values-fit ds (drop d t) (later-long d ds t h x) (later-digits d ds t h x),
)
