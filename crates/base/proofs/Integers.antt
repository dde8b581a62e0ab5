-- Linear arithmetic over ℤ by omega: an integer a is P a - N a, and
-- each sum or difference is handed over as a fact of naturals.
use mathlib.Core.Path.{◌≡◌, refl, sym, ◌∙◌, ap}
use mathlib.Core.Bool.{Bool, true, false, cond}
use Prim.Native.Nat.{ℕ, zero, suc, ◌+◌, ◌*◌, ◌^◌, ◌≤◌, ◌<◌}
use native.Mathlib.Omega.{arith}
use lib.Dec.{ltb}
use lib.IntN.{ℤ, pos, negsuc, neg_ℤ, sub_ℕ, nat_abs, ◌+ℤ◌, ◌-ℤ◌, ◌*ℤ◌}
use lib.Signed.{mag, le_z, lt_z, ◌≤ℤ◌}
use mir.Syntax.{w64}
use mir.Val.{SFits, to_z, of_z}
use mir.Facts.{to_z-of_z}
use borrow.Author.Tests.{ltb-true, ltb-false, leb-true, leb-false, le-leb, le-ltb}
use Rattle.base.specs.Fold.{fold, sum, sumℤ}
use Rattle.base.proofs.Bools.{never, true-T, T_true}
use Rattle.base.proofs.Sums.{Four, sum-change-four}
use mathlib.Core.Logic.{◌≢◌}

unfoldable pub P : ℤ → ℕ
P (pos n) = n
P (negsuc n) = 0

unfoldable pub N : ℤ → ℕ
N (pos n) = 0
N (negsuc n) = suc n

-- ── sums, differences, multiples ──
sub-PN : (a b : ℕ) → P (sub_ℕ a b) + b ≡ N (sub_ℕ a b) + a
unfolding P N
sub-PN a b = go (ltb a b) refl
  where
    go : (t : Bool) → ltb a b ≡ t → P (sub_ℕ a b) + b ≡ N (sub_ℕ a b) + a
    go true e = rw e (omega (arith, ltb-true a b e))
    go false e = rw e (omega (arith, ltb-false a b e))

pub plus : (a b : ℤ) → P (a +ℤ b) + (N a + N b) ≡ N (a +ℤ b) + (P a + P b)
unfolding P N
plus (pos a) (pos b) = omega arith
plus (pos a) (negsuc b) = omega (arith, sub-PN a (suc b))
plus (negsuc a) (pos b) = omega (arith, sub-PN b (suc a))
plus (negsuc a) (negsuc b) = omega arith

neg-P : (a : ℤ) → P (neg_ℤ a) ≡ N a
unfolding P N
neg-P (pos zero) = refl
neg-P (pos (suc n)) = refl
neg-P (negsuc n) = refl

neg-N : (a : ℤ) → N (neg_ℤ a) ≡ P a
unfolding P N
neg-N (pos zero) = refl
neg-N (pos (suc n)) = refl
neg-N (negsuc n) = refl

pub minus : (a b : ℤ) → P (a -ℤ b) + (N a + P b) ≡ N (a -ℤ b) + (P a + N b)
minus a b = omega (arith, plus a (neg_ℤ b), neg-P b, neg-N b)

pub times-P : (k : ℕ) (a : ℤ) → P (pos k *ℤ a) ≡ k * P a
unfolding P N
times-P k (pos n) = refl
times-P k (negsuc n) = neg-P (pos (k * suc n)) ∙ omega arith

pub times-N : (k : ℕ) (a : ℤ) → N (pos k *ℤ a) ≡ k * N a
unfolding P N
times-N k (pos n) = omega arith
times-N k (negsuc n) = neg-N (pos (k * suc n))

-- equal integers have equal halves
pub halves : {a b : ℤ} → a ≡ b → (P a ≡ P b) × (N a ≡ N b)
halves e = (ap P e, ap N e)

-- ── equal, at most, below ──
pub eqℤ : (a b : ℤ) → P a + N b ≡ N a + P b → a ≡ b
unfolding P N
eqℤ (pos a) (pos b) h = ap pos (omega arith)
eqℤ (pos a) (negsuc b) h = absurd (omega arith)
eqℤ (negsuc a) (pos b) h = absurd (omega arith)
eqℤ (negsuc a) (negsuc b) h = ap negsuc (omega arith)

pub le_test : (a b : ℤ) → P a + N b ≤ N a + P b → le_z a b ≡ true
unfolding P N
le_test (pos a) (pos b) h = le-leb a b (omega arith)
le_test (pos a) (negsuc b) h = absurd (omega arith)
le_test (negsuc a) (pos b) h = refl
le_test (negsuc a) (negsuc b) h = le-leb b a (omega arith)

pub le_is : (a b : ℤ) → le_z a b ≡ true → P a + N b ≤ N a + P b
unfolding P N
le_is (pos a) (pos b) h = omega (arith, leb-true a b h)
le_is (pos a) (negsuc b) h = never h
le_is (negsuc a) (pos b) h = omega arith
le_is (negsuc a) (negsuc b) h = omega (arith, leb-true b a h)

pub le-isnt : (a b : ℤ) → le_z a b ≡ false → P b + N a ≤ N b + P a
unfolding P N
le-isnt (pos a) (pos b) h = omega (arith, leb-false a b h)
le-isnt (pos a) (negsuc b) h = omega arith
le-isnt (negsuc a) (pos b) h = never (sym h)
le-isnt (negsuc a) (negsuc b) h = omega (arith, leb-false b a h)

pub lt-is : (a b : ℤ) → lt_z a b ≡ true → P a + N b < N a + P b
unfolding P N
lt-is (pos a) (pos b) h = omega (arith, ltb-true a b h)
lt-is (pos a) (negsuc b) h = never h
lt-is (negsuc a) (pos b) h = omega arith
lt-is (negsuc a) (negsuc b) h = omega (arith, ltb-true b a h)

pub lt-isnt : (a b : ℤ) → lt_z a b ≡ false → P b + N a ≤ N b + P a
unfolding P N
lt-isnt (pos a) (pos b) h = omega (arith, ltb-false a b h)
lt-isnt (pos a) (negsuc b) h = omega arith
lt-isnt (negsuc a) (pos b) h = never (sym h)
lt-isnt (negsuc a) (negsuc b) h = omega (arith, ltb-false b a h)

pub not-lt : (a b : ℤ) → P b + N a ≤ N b + P a → lt_z a b ≡ false
unfolding P N
not-lt (pos a) (pos b) h = le-ltb a b (omega arith)
not-lt (pos a) (negsuc b) h = refl
not-lt (negsuc a) (pos b) h = absurd (omega arith)
not-lt (negsuc a) (negsuc b) h = le-ltb b a (omega arith)

pub ≤ℤ-is : {a b : ℤ} → a ≤ℤ b → P a + N b ≤ N a + P b
≤ℤ-is {a} {b} h = le_is a b (T_true h.le)

pub is-≤ℤ : {a b : ℤ} → P a + N b ≤ N a + P b → a ≤ℤ b
is-≤ℤ {a} {b} h = record { le = true-T (le_test a b h) }

-- ── sizes ──
size_is : (a : ℤ) → nat_abs a ≡ P a + N a
unfolding P N
size_is (pos n) = omega arith
size_is (negsuc n) = omega arith

-- an integer p - q has at most the size p + q
size-least : (a : ℤ) (p q : ℕ) → P a + q ≡ N a + p → nat_abs a ≤ p + q
unfolding P N
size-least (pos n) p q h = omega arith
size-least (negsuc n) p q h = omega arith

pub size-minus : (a b : ℤ) → nat_abs (a -ℤ b) ≤ nat_abs a + nat_abs b
size-minus a b = omega (arith, size_is a, size_is b, size-least (a -ℤ b) (P a + N b) (N a + P b) (minus a b))

pub size-plus : (a b : ℤ) → nat_abs (a +ℤ b) ≤ nat_abs a + nat_abs b
size-plus a b = omega (arith, size_is a, size_is b, size-least (a +ℤ b) (P a + P b) (N a + N b) (plus a b))

-- ── sums ──

-- a sum in ℤ is a difference of two sums in ℕ
sumℤ-is : (n : ℕ) (f : ℕ → ℤ) → P (sumℤ n f) + sum n (λ i. N (f i)) ≡ N (sumℤ n f) + sum n (λ i. P (f i))
unfolding fold P N
sumℤ-is zero f = refl
sumℤ-is (suc n) f = omega (arith, sumℤ-is n f, plus (sumℤ n f) (f n))

-- the first term before the others
pub sumℤ-front : (n : ℕ) (f : ℕ → ℤ) → sumℤ (suc n) f ≡ f 0 +ℤ sumℤ n (λ i. f (suc i))
unfolding fold P N
sumℤ-front zero f = eqℤ _ _ (omega (arith, plus (pos 0) (f 0), plus (f 0) (pos 0)))
sumℤ-front (suc n) f =
    let rest = sumℤ n (λ i. f (suc i)) in
    ap (λ (a : ℤ). a +ℤ f (suc n)) (sumℤ-front n f)
    ∙ eqℤ _ _
    (omega (
      arith,
      plus (f 0 +ℤ rest) (f (suc n)),
      plus (f 0) rest,
      plus (f 0) (rest +ℤ f (suc n)),
      plus rest (f (suc n)),
    ))

-- greater terms have a greater sum
pub sumℤ-le : (n : ℕ) (f g : ℕ → ℤ) → ((i : ℕ) → i < n → f i ≤ℤ g i) → sumℤ n f ≤ℤ sumℤ n g
unfolding fold
sumℤ-le zero f g h = is-≤ℤ (omega arith)
sumℤ-le (suc n) f g h =
    is-≤ℤ
    (omega (
      arith,
      plus (sumℤ n f) (f n),
      plus (sumℤ n g) (g n),
      ≤ℤ-is (sumℤ-le n f g (λ i l. h i (omega arith))),
      ≤ℤ-is (h n (omega arith)),
    ))

-- f and g agree but at r, x, y, z: sum f and g's four terms are sum g and f's four terms
pub sumℤ-change-four : {n r x y z : ℕ} → Four n r x y z → (f g : ℕ → ℤ)
    → ((i : ℕ) → i < n → i ≢ r → i ≢ x → i ≢ y → i ≢ z → f i ≡ g i)
    → (P (sumℤ n f) + (P (g r) + P (g x) + P (g y) + P (g z))) +
    (N (sumℤ n g) + (N (f r) + N (f x) + N (f y) + N (f z)))
    ≡ (N (sumℤ n f) + (N (g r) + N (g x) + N (g y) + N (g z))) +
    (P (sumℤ n g) + (P (f r) + P (f x) + P (f y) + P (f z)))
sumℤ-change-four {n} q f g h = omega (
  arith,
  sumℤ-is n f,
  sumℤ-is n g,
  sum-change-four q (λ i. P (f i)) (λ i. P (g i)) (λ i l a b c d. ap P (h i l a b c d)),
  sum-change-four q (λ i. N (f i)) (λ i. N (g i)) (λ i l a b c d. ap N (h i l a b c d)),
)

-- an edge at no cost adds nothing, counted or not
pub nothing : (t : Bool) → cond t (pos 0) (pos 0) ≡ pos 0
nothing true = refl
nothing false = refl

pub sumℤ-zeros : (n : ℕ) → sumℤ n (λ i. pos 0) ≡ pos 0
unfolding fold
sumℤ-zeros zero = refl
sumℤ-zeros (suc n) = rw (sumℤ-zeros n)

-- a sum whose terms are zero but for four
pub sumℤ-four : {n r x y z : ℕ} → Four n r x y z → (f : ℕ → ℤ)
    → ((i : ℕ) → i < n → i ≢ r → i ≢ x → i ≢ y → i ≢ z → f i ≡ pos 0)
    → (a b c d : ℤ) → f r ≡ a → f x ≡ b → f y ≡ c → f z ≡ d
    → P (sumℤ n f) + (N a + N b + N c + N d) ≡ N (sumℤ n f) + (P a + P b + P c + P d)
unfolding P N
sumℤ-four {n} q f h a b c d at-r at_x at_y at_z = omega (
  arith,
  halves at-r,
  halves at_x,
  halves at_y,
  halves at_z,
  halves (sumℤ-zeros n),
  sumℤ-change-four q f (λ i. pos 0) h,
)

-- the size of a sum is at most the sum of the sizes
pub sumℤ-size : (n : ℕ) (f : ℕ → ℤ) → nat_abs (sumℤ n f) ≤ sum n (λ i. nat_abs (f i))
unfolding fold
sumℤ-size zero f = omega arith
sumℤ-size (suc n) f = omega (arith, sumℤ-size n f, size-plus (sumℤ n f) (f n))

-- the magnitude by which the code tells what fits is at most the size
pub mag-within : (a : ℤ) → mag a ≤ nat_abs a
mag-within (pos n) = omega arith
mag-within (negsuc n) = omega arith

-- a number so small is read back from its 64 bits
pub size_fits : (a : ℤ) → nat_abs a < 2 ^ 63 → SFits w64 a
size_fits a h = record { sfits = omega (arith, mag-within a) }

pub read_back : (a : ℤ) → nat_abs a < 2 ^ 63 → to_z w64 (of_z w64 a) ≡ a
read_back a h = to_z-of_z (size_fits a h)
