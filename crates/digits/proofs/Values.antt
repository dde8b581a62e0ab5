-- Digits and their values, and the table of all values as it is filled in.
-- Assumes nothing.
use mathlib.Core.Path.{◌≡◌, refl, ap, sym, ◌∙◌}
use mathlib.Core.Bool.{Bool, true, false, cond, false≢true}
use mathlib.Core.List.{List}
use mathlib.Core.Logic.{◌≢◌}
use Prim.Native.Nat.{ℕ, ◌+◌, ◌≤◌, ◌<◌}
use native.Mathlib.Omega.{arith}
use native.Mathlib.Decide.{dec_lt, ℕ_discrete}
use lib.Dec.{leb, ltb, eqb}
use lib.ListN.{get_or, set, replicate, length-set}
use lib.Seq.{get_or-set_same, get_or-set_other}
use borrow.Author.Tests.{le-ltb, lt-ltb, lt-leb, leb-true, ltb-true, eqb-true}
use Rattle.base.specs.Fold.{fold, tabulate}
use Rattle.digits.specs.Hexadecimal.{byte_values, value_of, digit_values, digit_of}
use Rattle.base.proofs.Sums.{each_at, tabulate-length, tabulate-at, tabulate-is}

-- tests that are computed at every byte, or at every value
is_digit : ℕ → Bool
is_digit c = ltb (value_of c) 16

back : ℕ → Bool
back c = cond (is_digit c) (eqb (digit_of (value_of c)) c) true

forth : ℕ → Bool
forth v = eqb (value_of (digit_of v)) v

pub digit_value : (c : ℕ) → ltb (value_of c) 16 ≡ true → digit_of (value_of c) ≡ c
unfolding fold back is_digit value_of digit_of
digit_value c h =
    elim (dec_lt c 103) [
      | yes l ↦ eqb-true _ _ (go (ltb (value_of c) 16) (eqb (digit_of (value_of c)) c) h (each_at 103 back refl c l))
      | no g ↦ absurd (false≢true
          (simp (
            le-ltb c 48 (omega arith),
            lt-leb c 57 (omega arith),
            le-ltb c 97 (omega arith),
            lt-leb c 102 (omega arith),
          ) at h))
    ]
  where
    go : (a b : Bool) → a ≡ true → cond a b true ≡ true → b ≡ true
    go true b t u = u
    go false b t u = absurd (false≢true t)

small : ℕ → Bool
small c = leb (value_of c) 16

pub value-small : (c : ℕ) → value_of c ≤ 16
unfolding fold small value_of
value-small c =
    elim (dec_lt c 103) [
      | yes l ↦ leb-true _ _ (each_at 103 small refl c l)
      | no g ↦ simp (
        le-ltb c 48 (omega arith),
        lt-leb c 57 (omega arith),
        le-ltb c 97 (omega arith),
        lt-leb c 102 (omega arith),
      ) (omega arith)
    ]

pub value-at : (c : ℕ) → c < byte_values → get_or digit_values c 0 ≡ value_of c
unfolding digit_values
value-at c h = tabulate-at byte_values value_of 0 c h

pub value-digit : (v : ℕ) → v < 16 → value_of (digit_of v) ≡ v
unfolding fold forth digit_of value_of
value-digit v h = eqb-true _ _ (each_at 16 forth refl v h)

tiny : ℕ → Bool
tiny v = ltb (digit_of v) byte_values

pub digit-small : (v : ℕ) → v < 16 → digit_of v < byte_values
unfolding fold tiny digit_of
digit-small v h = ltb-true _ _ (each_at 16 tiny refl v h)

-- the values of the digits each_at v, as they are filled in
unfoldable pub value_below : ℕ → ℕ → ℕ
value_below v c = cond (ltb (value_of c) v) (value_of c) 16

unfoldable pub values_below : ℕ → List ℕ
values_below v = tabulate byte_values (value_below v)

pub values-none : replicate byte_values 16 ≡ values_below 0
unfolding values_below value_below tabulate value_of
values-none = refl

module _ (v : ℕ) (h : v < 16) where
  -- the digit of v is filled in, and no other byte
  own-byte : v ≡ value_below (v + 1) (digit_of v)
  unfolding value_below
  own-byte = rw (value-digit v h, lt-ltb v (v + 1) (omega arith))

  other_byte : (c : ℕ) → c ≢ digit_of v → value_below v c ≡ value_below (v + 1) c
  unfolding value_below
  other_byte c n =
      elim (dec_lt (value_of c) v) [
        | yes l ↦ rw (lt-ltb (value_of c) v l, lt-ltb (value_of c) (v + 1) (omega arith))
        | no g ↦
            let d : value_of c ≡ v → ⊥ =
            λ e. n (sym (digit_value c (lt-ltb (value_of c) 16 (omega arith))) ∙ ap digit_of e) in
            rw (le-ltb (value_of c) v (omega arith), le-ltb (value_of c) (v + 1) (omega (arith, d)))
      ]

  pub values-more : set (values_below v) (digit_of v) v ≡ values_below (v + 1)
  unfolding values_below
  values-more =
      let u = tabulate byte_values (value_below v) in
      let n = tabulate-length byte_values (value_below v) in
      tabulate-is byte_values (value_below (v + 1)) 0 (set u (digit_of v) v) (length-set u (digit_of v) v ∙ n)
      (λ c l.
      elim (ℕ_discrete c (digit_of v)) [
        | yes e ↦ rw e (get_or-set_same u (digit_of v) v 0 (omega (arith, n, digit-small v h)) ∙ own-byte)
        | no d ↦ get_or-set_other u (digit_of v) c v 0 d ∙ tabulate-at byte_values (value_below v) 0 c l ∙ other_byte c d
      ])

pub values-all : (v : ℕ) → 16 ≤ v → v ≤ 16 → values_below v ≡ digit_values
unfolding values_below digit_values value_below
values-all v h k =
    tabulate-is byte_values value_of 0 (tabulate byte_values (value_below v)) (tabulate-length byte_values (value_below v))
    (λ c l.
    tabulate-at byte_values (value_below v) 0 c l
    ∙ elim (dec_lt (value_of c) v) [
      | yes m ↦ rw (lt-ltb (value_of c) v m)
      | no g ↦ rw (le-ltb (value_of c) v (omega arith)) (omega (arith, value-small c))
    ])
