-- The digits of a number: they are read again, how many they are, and the first of them.
use mathlib.Core.Path.{◌≡◌, refl, sym, ◌∙◌, ap}
use mathlib.Core.Bool.{Bool, true, false, cond}
use mathlib.Core.List.{List, [], ◌∷◌, ◌++◌}
use Prim.Native.Nat.{ℕ, zero, suc, ◌+◌, ◌-◌, ◌/◌, ◌%◌, ◌^◌, ◌≤◌, ◌<◌}
use native.Mathlib.Omega.{arith}
use native.Mathlib.Nat.{add-zero, one-le-pow, pow-suc}
use native.Mathlib.Decide.{dec_lt}
use lib.Dec.{leb, lit<, ltb}
use lib.ListN.{length, take, drop, set, length-drop, length-set}
use lib.Seq.{drop-length, drop-cons, drop-set-lt, get_or-set_same, set_split, take-set-le, take-take}
use borrow.Author.Tests.{le-ltb, lt-ltb, le-leb, lt-leb}
use Rattle.decimal.specs.BaseTen.{digit, digits_then, digits, value_then}
use Rattle.decimal.specs.RightAligned.{AllDigits}

-- a number of one digit, and one of more
pub one-digit : (more v : ℕ) (rest : List ℕ) → v < 10 → digits_then more v rest ≡ digit v ∷ rest
unfolding digits_then
one-digit zero v rest h = refl
one-digit (suc more) v rest h = rw (lt-ltb v 10 h)

pub more-digits : (more v : ℕ) (rest : List ℕ) → 10 ≤ v
    → digits_then (suc more) v rest ≡ digits_then more (v / 10) (digit (v % 10) ∷ rest)
unfolding digits_then
more-digits more v rest h = rw (le-ltb v 10 h)

-- a law of all digits, by a number of one digit and one of more
module _ (Law : ℕ → ℕ → List ℕ → Type 0)
    (one : (more v : ℕ) (rest : List ℕ) → v < 10 → Law more v rest)
    (many : (more v : ℕ) (rest : List ℕ) → 10 ≤ v → v ≤ suc more → Law more (v / 10) (digit (v % 10) ∷ rest)
    → Law (suc more) v rest) where
  pub by_digits : (more v : ℕ) (rest : List ℕ) → v ≤ more → Law more v rest
  by_digits zero v rest h = one zero v rest (omega arith)
  by_digits (suc more) v rest h = elim (dec_lt v 10) [
    | yes l ↦ one (suc more) v rest l
    | no g ↦ many more v rest (omega arith) h (by_digits more (v / 10) (digit (v % 10) ∷ rest) (omega arith))
  ]

-- ── what is read ──

pub value-digits : (more v : ℕ) (rest : List ℕ) → v ≤ more → value_then 0 (digits_then more v rest) ≡ value_then v rest
value-digits = by_digits Law one many
  where
    Law : ℕ → ℕ → List ℕ → Type 0
    Law more v rest = value_then 0 (digits_then more v rest) ≡ value_then v rest

    one : (more v : ℕ) (rest : List ℕ) → v < 10 → Law more v rest
    one more v rest h = unfold value_then in rw (one-digit more v rest h) (ap (λ u. value_then u rest) (omega arith))

    many : (more v : ℕ) (rest : List ℕ) → 10 ≤ v → v ≤ suc more → Law more (v / 10) (digit (v % 10) ∷ rest)
        → Law (suc more) v rest
    many more v rest h l e = unfold value_then in
        ap (value_then 0) (more-digits more v rest h) ∙ e ∙ ap (λ u. value_then u rest) (omega arith)

-- ── the first of them ──

-- characters that start with a digit, which is not 0 where the number isn't
pub record Leading (v : ℕ) (s : List ℕ) : Type 0 where
  pub value : ℕ
  pub later : List ℕ
  pub starts : s ≡ digit value ∷ later
  pub below : value < 10
  pub positive : 0 < v → 0 < value

pub leading : (more v : ℕ) (rest : List ℕ) → v ≤ more → Leading v (digits_then more v rest)
leading = by_digits (λ more v rest. Leading v (digits_then more v rest))
    (λ more v rest h.
    record { value = v; later = rest; starts = one-digit more v rest h; below = h; positive = λ p. p })
    (λ more v rest h l w.
    record {
      value = w.value;
      later = w.later;
      starts = more-digits more v rest h ∙ w.starts;
      below = w.below;
      positive = λ p. w.positive (omega arith);
    })

-- ── digits and nothing else ──

pub only-digits : (more v : ℕ) (rest : List ℕ) → v ≤ more → AllDigits rest → AllDigits (digits_then more v rest)
only-digits = by_digits (λ more v rest. AllDigits rest → AllDigits (digits_then more v rest))
    (λ more v rest h r. rw (one-digit more v rest h) (omega arith, omega arith, r))
    (λ more v rest h l k r. rw (more-digits more v rest h) (k (omega arith, omega arith, r)))

-- ── how many ──

pub some-digit : (more v : ℕ) (rest : List ℕ) → length rest < length (digits_then more v rest)
unfolding digits_then
some-digit zero v rest = omega arith
some-digit (suc more) v rest = go (ltb v 10) (some-digit more (v / 10) (digit (v % 10) ∷ rest))
  where
    go : (b : Bool) → suc (length rest) < length (digits_then more (v / 10) (digit (v % 10) ∷ rest))
        → length rest < length (cond b (digit v ∷ rest) (digits_then more (v / 10) (digit (v % 10) ∷ rest)))
    go true h = omega arith
    go false h = omega arith

pub any-digit : (v : ℕ) → 0 < length (digits v)
unfolding digits
any-digit v = some-digit v v []

-- w + 1 digits have room for the numbers below 10^(w + 1)
count-digits : (more v : ℕ) (rest : List ℕ) → v ≤ more → (w : ℕ)
    → leb (length (digits_then more v rest)) (suc w + length rest) ≡ ltb v (10 ^ suc w)
count-digits = by_digits Law one many
  where
    Law : ℕ → ℕ → List ℕ → Type 0
    Law more v rest = (w : ℕ) → leb (length (digits_then more v rest)) (suc w + length rest) ≡ ltb v (10 ^ suc w)

    one : (more v : ℕ) (rest : List ℕ) → v < 10 → Law more v rest
    one more v rest h w =
        let l : v < 10 ^ suc w = omega (arith, pow-suc 10 w, one-le-pow w 10 (lit< tt)) in
        le-leb (length (digits_then more v rest)) (suc w + length rest)
        (omega (arith, ap length (one-digit more v rest h))) ∙ sym (lt-ltb v (10 ^ suc w) l)

    many : (more v : ℕ) (rest : List ℕ) → 10 ≤ v → v ≤ suc more → Law more (v / 10) (digit (v % 10) ∷ rest)
        → Law (suc more) v rest
    many more v rest h l e zero =
        lt-leb (length (digits_then (suc more) v rest)) (1 + length rest)
        (omega (arith, ap length (more-digits more v rest h), some-digit more (v / 10) (digit (v % 10) ∷ rest)))
        ∙ sym (le-ltb v (10 ^ 1) (omega arith))
    many more v rest h l e (suc w) =
        let same : suc (suc w) + length rest ≡ suc w + suc (length rest) = omega arith in
        rw (more-digits more v rest h, same)
        (e w ∙ elim (dec_lt v (10 ^ suc (suc w))) [
          | yes k ↦
              lt-ltb (v / 10) (10 ^ suc w) (omega (arith, pow-suc 10 (suc w))) ∙ sym (lt-ltb v (10 ^ suc (suc w)) k)
          | no k ↦
              le-ltb (v / 10) (10 ^ suc w) (omega (arith, pow-suc 10 (suc w)))
              ∙ sym (le-ltb v (10 ^ suc (suc w)) (omega arith))
        ])

pub room-digits : (w v : ℕ) → leb (length (digits v)) (suc w) ≡ ltb v (10 ^ suc w)
unfolding digits
room-digits w v = rw (add-zero (suc w)) at (count-digits v v [] (omega arith) w)

-- ── digits that are written one after the other, the last first ──

-- the digits behind a place, with what is left of the number before them, are the number's; up to it nothing is written
pub record Written (number : ℕ) (out₀ out : List ℕ) (at left : ℕ) : Type 0 where
  pub size : length out ≡ length out₀
  pub within : at < length out₀
  pub more : ℕ
  pub enough : left ≤ more
  pub whole : digits_then more left (drop (suc at) out) ≡ digits number
  pub unwritten : take (suc at) out ≡ take (suc at) out₀

pub written_none : (number : ℕ) (out : List ℕ) → 0 < length out → Written number out out (length out - 1) number
unfolding digits
written_none number out h =
    let e : suc (length out - 1) ≡ length out = omega arith in
    record {
      size = refl;
      within = omega arith;
      more = number;
      enough = omega arith;
      whole = rw (e, drop-length);
      unwritten = refl;
    }

module _ {number : ℕ} {out₀ out : List ℕ} {at left : ℕ} (w : Written number out₀ out at left) where
  -- a number that has room leaves a place for each digit
  pub another-place : length (digits number) ≤ length out₀ → 10 ≤ left → 0 < at
  another-place room h = go w.more w.enough w.whole
    where
      rest : List ℕ
      rest = drop (suc at) out

      go : (more : ℕ) → left ≤ more → digits_then more left rest ≡ digits number → 0 < at
      go zero l e = absurd (omega arith)
      go (suc more) l e =
          omega (
            arith,
            room,
            w.size,
            w.within,
            length-drop (suc at) out,
            sym (ap length (more-digits more left rest h)) ∙ ap length e,
            some-digit more (left / 10) (digit (left % 10) ∷ rest),
          )

  pub written-more : 10 ≤ left → 0 < at
      → Written number out₀ (set out at (digit (left % 10))) (at - 1) (left / 10)
  written-more h p = go w.more w.enough w.whole
    where
      new : List ℕ
      new = set out at (digit (left % 10))

      next : suc (at - 1) ≡ at
      next = omega arith

      inside : at < length out
      inside = omega (arith, w.size, w.within)

      behind : drop at new ≡ digit (left % 10) ∷ drop (suc at) out
      behind =
          drop-cons new at 0 (rw length-set inside)
          ∙ rw (
            get_or-set_same out at (digit (left % 10)) 0 inside,
            drop-set-lt (suc at) out at (digit (left % 10)) (omega arith),
          )

      go : (more : ℕ) → left ≤ more → digits_then more left (drop (suc at) out) ≡ digits number
          → Written number out₀ new (at - 1) (left / 10)
      go zero l e = absurd (omega arith)
      go (suc more) l e =
          record {
            size = length-set out at (digit (left % 10)) ∙ w.size;
            within = omega (arith, w.within);
            more = more;
            enough = omega arith;
            whole = rw (next, behind) (sym (more-digits more left (drop (suc at) out) h) ∙ e);
            unwritten =
                rw next
                (take-set-le at out at (digit (left % 10)) (omega arith) ∙ sym (take-take at (suc at) out (omega arith))
                ∙ ap (take at) w.unwritten ∙ take-take at (suc at) out₀ (omega arith));
          }

  pub written_all : left < 10
      → (at + length (digits number) ≡ length out₀) × (set out at (digit left) ≡ take at out₀ ++ digits number)
  written_all h =
      let e = sym (one-digit w.more left (drop (suc at) out) h) ∙ w.whole in
      let inside : at < length out = omega (arith, w.size, w.within) in
      let before : take at out ≡ take at out₀ =
      sym (take-take at (suc at) out (omega arith)) ∙ ap (take at) w.unwritten
      ∙ take-take at (suc at) out₀ (omega arith)
      in (
        omega (arith, ap length e, length-drop (suc at) out, w.size, w.within),
        set_split out at (digit left) inside ∙ rw (before, e),
      )
