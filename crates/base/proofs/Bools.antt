-- Booleans: tests that hold or fail, and tables proved by computing.
use mathlib.Core.Path.{◌≡◌, refl, sym}
use mathlib.Core.Logic.{◌≢◌}
use mathlib.Core.Bool.{Bool, true, false, ◌&&◌, ◌||◌}
use Prim.Native.Nat.{ℕ, ◌≤◌}
use native.Mathlib.Omega.{arith}
use lib.Dec.{T, eqb}
use borrow.Author.Tests.{eq-eqb, ne_eqb, eqb-true}
use Rattle.base.specs.Fold.{bit}

-- a refusal is no answer, and no two constructors are one: `cc` finds the contradiction
pub no_answer {ℓ} : {A : Type ℓ} → ◌≡◌ {A = ℕ} 0 1 → A
no_answer h = absurd (omega arith)

pub T_true : {b : Bool} → T b → b ≡ true
T_true {b = true} h = refl
T_true {b = false} h = absurd h

pub true-T : {b : Bool} → b ≡ true → T b
true-T {b = true} e = tt
true-T {b = false} e = no_answer (cc)

-- true is not false
pub never {ℓ} : {A : Type ℓ} → false ≡ true → A
never h = no_answer (cc)

pub eqb-self : (a : ℕ) → eqb a a ≡ true
eqb-self a = eq-eqb a a refl

pub eqb_is : {a b : ℕ} → eqb a b ≡ true → a ≡ b
eqb_is {a} {b} = eqb-true a b

pub eqb_no : {a b : ℕ} → a ≢ b → eqb a b ≡ false
eqb_no {a} {b} = ne_eqb a b

pub and_left : (a b : Bool) → (a && b) ≡ true → a ≡ true
and_left true b h = refl
and_left false b h = h

pub and_right : (a b : Bool) → (a && b) ≡ true → b ≡ true
and_right true b h = h
and_right false true h = refl
and_right false false h = h

pub and_both : {a b : Bool} → a ≡ true → b ≡ true → (a && b) ≡ true
and_both p q = rw (p, q)

pub or_right : (a b : Bool) → (a || b) ≡ true → a ≡ false → b ≡ true
or_right true b h e = never (sym e)
or_right false b h e = h

-- a test that is not false is true
pub unless-false : (b : Bool) → (b ≡ false → ⊥) → b ≡ true
unless-false true h = refl
unless-false false h = absurd (h refl)

-- tests that hold together are equal
pub same_test : (a b : Bool) → (a ≡ true → b ≡ true) → (b ≡ true → a ≡ true) → a ≡ b
same_test true b f g = sym (f refl)
same_test false true f g = g refl
same_test false false f g = refl

pub bit-true : (b : Bool) → 1 ≤ bit b → b ≡ true
bit-true true h = refl
bit-true false h = absurd (omega arith)

pub bit-low : (b : Bool) → bit b ≤ 1
bit-low true = omega arith
bit-low false = omega arith

-- p of both Booleans
abbrev pub both : (Bool → Bool) → Bool
both p = p true && p false

pub both_at : (p : Bool → Bool) → T (both p) → (b : Bool) → T (p b)
both_at p h b = go (p true) (p false) refl refl h b
  where
    go : (t f : Bool) → p true ≡ t → p false ≡ f → T (t && f) → (b : Bool) → T (p b)
    go true true e g h true = rw e tt
    go true true e g h false = rw g tt
    go true false e g h b = absurd h
    go false f e g h b = absurd h

-- a table over four Booleans, proved by `tt`
pub table_at : (p : Bool → Bool → Bool → Bool → Bool) → T (both (λ a. both (λ b. both (λ c. both (p a b c)))))
    → (a b c d : Bool) → T (p a b c d)
table_at p h a b c =
    both_at (p a b c)
    (both_at (λ c. both (p a b c))
    (both_at (λ b. both (λ c. both (p a b c))) (both_at (λ a. both (λ b. both (λ c. both (p a b c)))) h a) b) c)
