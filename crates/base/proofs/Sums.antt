-- Laws of sums, conjunctions and tables over the numbers below n.
use mathlib.Core.Path.{◌≡◌, refl, sym, ◌∙◌, ap, ap₂}
use mathlib.Core.Logic.{◌≢◌}
use mathlib.Core.Bool.{Bool, true, false, cond, ◌&&◌, or-true}
use mathlib.Core.List.{List}
use Prim.Native.Nat.{ℕ, zero, suc, ◌+◌, ◌*◌, ◌≤◌, ◌<◌, ◌%◌}
use native.Mathlib.Numerals.{add-one}
use native.Mathlib.Omega.{arith}
use native.Mathlib.Nat.{add-zero}
use native.Mathlib.Decide.{ℕ_discrete, dec_lt}
use lib.Dec.{eqb}
use lib.ListN.{length, get_or}
use lib.Seq.{ext_get_or}
use Rattle.base.specs.Fold.{fold, sum, each, any, tabulate}
use Rattle.base.proofs.Bools.{never, eqb-self, eqb_no, and_left, and_right, or_right}

-- functions that agree below n have the same sum, conjunction and so on
pub fold-ext : {A : Type 0} (op : A → A → A) (unit : A) (n : ℕ) (f g : ℕ → A) → ((i : ℕ) → i < n → f i ≡ g i)
    → fold op unit n f ≡ fold op unit n g
unfolding fold
fold-ext op unit zero f g h = refl
fold-ext op unit (suc n) f g h = ap₂ op (fold-ext op unit n f g (λ i l. h i (omega arith))) (h n (omega arith))

-- one number more, as a loop counts it
pub fold_more : {A : Type 0} (op : A → A → A) (unit : A) (n : ℕ) (f : ℕ → A)
    → fold op unit (n + 1) f ≡ op (fold op unit n f) (f n)
unfolding fold
fold_more op unit n f = rw add-one

pub sum-ext : (n : ℕ) (f g : ℕ → ℕ) → ((i : ℕ) → i < n → f i ≡ g i) → sum n f ≡ sum n g
sum-ext = fold-ext ◌+◌ 0

pub sum-le : (n : ℕ) (f g : ℕ → ℕ) → ((i : ℕ) → i < n → f i ≤ g i) → sum n f ≤ sum n g
unfolding fold
sum-le zero f g h = omega arith
sum-le (suc n) f g h = omega (arith, sum-le n f g (λ i l. h i (omega arith)), h n (omega arith))

pub sum-add : (n : ℕ) (f g : ℕ → ℕ) → sum n (λ i. f i + g i) ≡ sum n f + sum n g
unfolding fold
sum-add zero f g = refl
sum-add (suc n) f g = omega (arith, sum-add n f g)

pub sum_zeros : (n : ℕ) → sum n (λ i. 0) ≡ 0
unfolding fold
sum_zeros zero = refl
sum_zeros (suc n) = omega (arith, sum_zeros n)

pub sum_ones : (n : ℕ) → sum n (λ i. 1) ≡ n
unfolding fold
sum_ones zero = refl
sum_ones (suc n) = omega (arith, sum_ones n)

pub sum_bound : (n k : ℕ) (f : ℕ → ℕ) → ((i : ℕ) → i < n → f i ≤ k) → sum n f ≤ n * k
unfolding fold
sum_bound zero k f h = omega arith
sum_bound (suc n) k f h = omega (arith, sum_bound n k f (λ i l. h i (omega arith)), h n (omega arith))

pub sum-even : (n : ℕ) (f : ℕ → ℕ) → ((i : ℕ) → i < n → f i % 2 ≡ 0) → sum n f % 2 ≡ 0
unfolding fold
sum-even zero f h = refl
sum-even (suc n) f h = omega (arith, sum-even n f (λ i l. h i (omega arith)), h n (omega arith))

-- fewer terms have a lesser sum
pub sum-fewer : (k n : ℕ) (f : ℕ → ℕ) → k ≤ n → sum k f ≤ sum n f
unfolding fold
sum-fewer k zero f h = let e : k ≡ 0 = omega arith in rw e (omega arith)
sum-fewer k (suc n) f h = elim (ℕ_discrete k (suc n)) [
  | yes e ↦ rw e (omega arith)
  | no ne ↦ omega (arith, sum-fewer k n f (omega arith))
]

-- a sum over two ranges, one behind the other
pub sum-join : (m n : ℕ) (f : ℕ → ℕ) → sum (m + n) f ≡ sum m f + sum n (λ i. f (m + i))
unfolding fold
sum-join m zero f = simp add-zero
sum-join m (suc n) f = let e : m + suc n ≡ suc (m + n) = omega arith in rw e (omega (arith, sum-join m n f))

-- the first term, and the later ones
pub sum_first : (n : ℕ) (f : ℕ → ℕ) → sum (suc n) f ≡ f 0 + sum n (λ i. f (suc i))
unfolding fold
sum_first zero f = omega arith
sum_first (suc n) f = omega (arith, sum_first n f)

-- a sum of zero has no other terms, and a positive one has a positive term
pub sum-zero-at : (n : ℕ) (f : ℕ → ℕ) → sum n f ≡ 0 → (i : ℕ) → i < n → f i ≡ 0
unfolding fold
sum-zero-at zero f h i l = absurd (omega arith)
sum-zero-at (suc n) f h i l = elim (ℕ_discrete i n) [
  | yes e ↦ rw e (omega arith)
  | no e ↦ sum-zero-at n f (omega arith) i (omega arith)
]

pub sum-positive : (n : ℕ) (f : ℕ → ℕ) → 1 ≤ sum n f → (i : ℕ) × (1 ≤ f i)
unfolding fold
sum-positive zero f h = absurd (omega arith)
sum-positive (suc n) f h = elim (dec_lt 0 (f n)) [ yes k ↦ (n, k) | no k ↦ sum-positive n f (omega arith) ]

-- ── functions that agree but at a few places ──

-- f and g agree but at j
pub sum-change : (n j : ℕ) (f g : ℕ → ℕ) → j < n → ((i : ℕ) → i < n → i ≢ j → f i ≡ g i) → sum n f + g j ≡ sum n g + f j
unfolding fold
sum-change zero j f g l h = absurd (omega arith)
sum-change (suc n) j f g l h = elim (ℕ_discrete n j) [
  | yes e ↦ omega (arith, sum-ext n f g (λ i k. h i (omega arith) (omega arith)), ap f e, ap g e)
  | no ne ↦ omega (arith, sum-change n j f g (omega arith) (λ i k. h i (omega arith)), h n (omega arith) ne)
]

-- f with 0 at j
unfoldable pub out : ℕ → (ℕ → ℕ) → ℕ → ℕ
out j f i = cond (eqb i j) 0 (f i)

pub out-same : (j : ℕ) (f : ℕ → ℕ) → out j f j ≡ 0
unfolding out
out-same j f = rw eqb-self

pub out-other : (j : ℕ) (f : ℕ → ℕ) (i : ℕ) → i ≢ j → out j f i ≡ f i
unfolding out
out-other j f i h = simp eqb_no

out-ext : (j : ℕ) (f g : ℕ → ℕ) (i : ℕ) → (i ≢ j → f i ≡ g i) → out j f i ≡ out j g i
out-ext j f g i h = elim (ℕ_discrete i j) [
  | yes e ↦ ap (out j f) e ∙ out-same j f ∙ sym (out-same j g) ∙ ap (out j g) (sym e)
  | no ne ↦ out-other j f i ne ∙ h ne ∙ sym (out-other j g i ne)
]

pub sum-out : (n j : ℕ) (f : ℕ → ℕ) → j < n → sum n f ≡ sum n (out j f) + f j
sum-out n j f l = omega (arith, out-same j f, sum-change n j f (out j f) l (λ i k ne. sym (out-other j f i ne)))

pub term-le : (n : ℕ) (f : ℕ → ℕ) (i : ℕ) → i < n → f i ≤ sum n f
term-le n f i l = omega (arith, sum-out n i f l)

-- four different places below n
pub record Four (n r x y z : ℕ) : Type 0 where
  pub r< : r < n
  pub x< : x < n
  pub y< : y < n
  pub z< : z < n
  pub rx : r ≢ x
  pub ry : r ≢ y
  pub rz : r ≢ z
  pub xy : x ≢ y
  pub xz : x ≢ z
  pub yz : y ≢ z

module _ {n r x y z : ℕ} (q : Four n r x y z) where
  out4 : (ℕ → ℕ) → ℕ → ℕ
  out4 f = out z (out y (out x (out r f)))

  sum-out4 : (f : ℕ → ℕ) → sum n f ≡ sum n (out4 f) + (f r + f x + f y + f z)
  unfolding out4
  sum-out4 f =
      let f1 = out r f in
      let f2 = out x f1 in
      let f3 = out y f2 in
      omega (
        arith,
        sum-out n r f q.r<,
        sum-out n x f1 q.x<,
        sum-out n y f2 q.y<,
        sum-out n z f3 q.z<,
        out-other r f x (omega arith),
        out-other x f1 y (omega arith),
        out-other r f y (omega arith),
        out-other y f2 z (omega arith),
        out-other x f1 z (omega arith),
        out-other r f z (omega arith),
      )

  -- f and g agree but at r, x, y, z: their sums differ by these terms alone. All that a step does to sums is this
  pub sum-change-four : (f g : ℕ → ℕ) → ((i : ℕ) → i < n → i ≢ r → i ≢ x → i ≢ y → i ≢ z → f i ≡ g i)
      → sum n f + (g r + g x + g y + g z) ≡ sum n g + (f r + f x + f y + f z)
  unfolding out4
  sum-change-four f g h =
      omega (
        arith,
        sum-out4 f,
        sum-out4 g,
        sum-ext n (out4 f) (out4 g)
            (λ i l. out-ext z _ _ i
            (λ nz. out-ext y _ _ i (λ ny. out-ext x _ _ i (λ nx. out-ext r f g i (λ nr. h i l nr nx ny nz))))),
      )

-- ── conjunction and disjunction ──

pub each_at : (n : ℕ) (p : ℕ → Bool) → each n p ≡ true → (i : ℕ) → i < n → p i ≡ true
unfolding fold
each_at zero p h i l = absurd (omega arith)
each_at (suc n) p h i l = elim (ℕ_discrete i n) [
  | yes e ↦ rw e (and_right (each n p) (p n) h)
  | no e ↦ each_at n p (and_left (each n p) (p n) h) i (omega arith)
]

pub each-each-at : (f : ℕ → ℕ → Bool) (m n : ℕ) → each m (λ j. each n (f j)) ≡ true
    → (j k : ℕ) → j < m → k < n → f j k ≡ true
each-each-at f m n e j k h l = each_at n (f j) (each_at m (λ i. each n (f i)) e j h) k l

pub each_in : (n : ℕ) (p : ℕ → Bool) → ((i : ℕ) → i < n → p i ≡ true) → each n p ≡ true
unfolding fold
each_in zero p h = refl
each_in (suc n) p h = rw (each_in n p (λ i l. h i (omega arith)), h n (omega arith))

pub each-fails : (n : ℕ) (p : ℕ → Bool) → each n p ≡ false → (i : ℕ) × (i < n) × (p i ≡ false)
unfolding fold
each-fails zero p h = never (sym h)
each-fails (suc n) p h = go (each n p) refl (each-fails n p)
  where
    go : (t : Bool) → each n p ≡ t → (each n p ≡ false → (i : ℕ) × (i < n) × (p i ≡ false))
        → (i : ℕ) × (i < suc n) × (p i ≡ false)
    go false e f = let w = f e in (w.0, omega (arith, w.1), w.2)
    go true e f = (n, omega arith, rw e at h)

pub each_more : (n : ℕ) (p : ℕ → Bool) → each n p ≡ true → p n ≡ true → each (n + 1) p ≡ true
each_more n p below here = fold_more ◌&&◌ true n p ∙ rw (below, here)

pub each-false : (n : ℕ) (p : ℕ → Bool) (i : ℕ) → i < n → p i ≡ false → each n p ≡ false
each-false n p i l e = go (each n p) refl
  where
    go : (t : Bool) → each n p ≡ t → each n p ≡ false
    go true h = never (sym e ∙ each_at n p h i l)
    go false h = h

pub any-in : (n : ℕ) (p : ℕ → Bool) (i : ℕ) → i < n → p i ≡ true → any n p ≡ true
unfolding fold
any-in zero p i l h = absurd (omega arith)
any-in (suc n) p i l h = elim (ℕ_discrete i n) [
  | yes e ↦ rw (← e, h) (or-true (any i p))
  | no e ↦ rw (any-in n p i (omega arith) h)
]

pub any_out : (n : ℕ) (p : ℕ → Bool) → any n p ≡ true → (i : ℕ) × (i < n) × (p i ≡ true)
unfolding fold
any_out zero p h = never h
any_out (suc n) p h = go (any n p) refl (any_out n p)
  where
    go : (t : Bool) → any n p ≡ t → (any n p ≡ true → (i : ℕ) × (i < n) × (p i ≡ true))
        → (i : ℕ) × (i < suc n) × (p i ≡ true)
    go true e f = let w = f e in (w.0, omega (arith, w.1), w.2)
    go false e f = (n, omega arith, or_right (any n p) (p n) h e)

-- ── lists by index ──

pub tabulate-length : {A : Type 0} (n : ℕ) (f : ℕ → A) → length (tabulate n f) ≡ n
unfolding tabulate
tabulate-length zero f = refl
tabulate-length (suc n) f = ap suc (tabulate-length n (λ i. f (suc i)))

pub tabulate-at : {A : Type 0} (n : ℕ) (f : ℕ → A) (d : A) (i : ℕ) → i < n → get_or (tabulate n f) i d ≡ f i
unfolding tabulate
tabulate-at zero f d i l = absurd (omega arith)
tabulate-at (suc n) f d zero l = refl
tabulate-at (suc n) f d (suc i) l = tabulate-at n (λ i. f (suc i)) d i (omega arith)

pub tabulate-is : {A : Type 0} (n : ℕ) (f : ℕ → A) (d : A) (l : List A) → length l ≡ n
    → ((i : ℕ) → i < n → get_or l i d ≡ f i) → l ≡ tabulate n f
tabulate-is n f d l e h =
    ext_get_or d l (tabulate n f) (e ∙ sym (tabulate-length n f))
    (λ i k. h i (omega arith) ∙ sym (tabulate-at n f d i (omega arith)))
