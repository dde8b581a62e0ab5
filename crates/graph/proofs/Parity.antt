-- Parity: where every degree is even, every crossing count is even.
use mathlib.Core.Path.{◌≡◌, refl, sym, ◌∙◌, ap}
use mathlib.Core.Logic.{⊎_elim}
use mathlib.Core.Bool.{Bool, true, false, cond}
use Prim.Native.Nat.{ℕ, zero, suc, ◌+◌, ◌≤◌, ◌<◌, ◌%◌}
use native.Mathlib.Omega.{arith}
use native.Mathlib.Decide.{ℕ_discrete}
use lib.Dec.{eqb}
use Rattle.base.specs.Fold.{bit}
use Rattle.graph.specs.Network.{low_end, high_end, here, ends_at, degree}
use Rattle.graph.specs.Cut.{Side, differ, crosses, crossings_of, crossings}
use Rattle.graph.specs.Sound.{Formed, Joins, Sound}
use Rattle.graph.specs.declared.Network.{Network}
use Rattle.base.proofs.Bools.{never, eqb-self, eqb_no, eqb_is}
use Rattle.base.proofs.Sums.{sum-add, sum-even}
use Rattle.graph.proofs.EveryCut.{crossings-agree}
use Rattle.graph.proofs.Stars.{put}

-- moving k into part `true` changes an edge's crossing by as much as it has ends at k, but for an even number
flip : (g : Network) (S : Side) (k e : ℕ) → S k ≡ false
    → (crosses g (put k true S) e + crosses g S e + ends_at g k e) % 2 ≡ 0
unfolding crosses ends_at differ
flip g S k e h = go (eqb (low_end g e) k) (eqb (high_end g e) k) refl refl
  where
    out : (v : ℕ) → eqb v k ≡ true → S v ≡ false
    out v q = ap S (eqb_is q) ∙ h

    one : (a : Bool) → (differ true a + differ false a + 1) % 2 ≡ 0
    one true = refl
    one false = refl

    other : (a : Bool) → (differ a true + differ a false + 1) % 2 ≡ 0
    other true = refl
    other false = refl

    go : (p q : Bool) → eqb (low_end g e) k ≡ p → eqb (high_end g e) k ≡ q
        → (crosses g (put k true S) e + crosses g S e + ends_at g k e) % 2 ≡ 0
    go false false i j = rw (i, j) (omega arith)
    go true true i j = rw (i, j, out _ i, out _ j)
    go true false i j = rw (i, j, out _ i) (one (S (high_end g e)))
    go false true i j = rw (i, j, out _ j) (other (S (low_end g e)))

crossings-flip : (g : Network) (S : Side) (k : ℕ) → S k ≡ false
    → (crossings g (put k true S) + crossings g S + degree g k) % 2 ≡ 0
unfolding crossings_of degree
crossings-flip g S k h =
    let n = g.edges in
    let f = crosses g (put k true S) in
    let i = crosses g S in
    let d = ends_at g k in
    omega (
      arith,
      sum-even n (λ e. f e + i e + d e) (λ e l. flip g S k e h),
      sum-add n (λ e. f e + i e) d,
      sum-add n f i,
    )

-- the vertices of S below k
below : ℕ → Side → Side
below zero S = λ v. false
below (suc k) S = cond (S k) (put k true (below k S)) (below k S)

below_out : (k : ℕ) (S : Side) (v : ℕ) → k ≤ v → below k S v ≡ false
unfolding below
below_out zero S v h = refl
below_out (suc k) S v h = go (S k) refl (below_out k S v (omega arith))
  where
    go : (t : Bool) → S k ≡ t → below k S v ≡ false → below (suc k) S v ≡ false
    go true e ih = rw e (rw (eqb_no {a = v} {b = k} (omega arith)) ih)
    go false e ih = rw e ih

below_in : (k : ℕ) (S : Side) (v : ℕ) → v < k → below k S v ≡ S v
unfolding below
below_in zero S v h = absurd (omega arith)
below_in (suc k) S v h = go (S k) refl (below_in k S v) (ℕ_discrete v k)
  where
    go : (t : Bool) → S k ≡ t → (v < k → below k S v ≡ S v) → Dec (v ≡ k) → below (suc k) S v ≡ S v
    go true e ih (yes q) = rw (q, e, eqb-self)
    go true e ih (no q) = rw (e, eqb_no q) (ih (omega arith))
    go false e ih (yes q) = rw (q, e) (below_out k S k (omega arith))
    go false e ih (no q) = rw e (ih (omega arith))

module _ (g : Network) (even : (v : ℕ) → degree g v % 2 ≡ 0) where
  below-even : (S : Side) (k : ℕ) → crossings g (below k S) % 2 ≡ 0
  unfolding below crossings_of crosses differ
  below-even S zero = sum-even g.edges (λ e. crosses g (λ v. false) e) (λ e l. refl)
  below-even S (suc k) = go (S k) refl (below-even S k)
    where
      go : (t : Bool) → S k ≡ t → crossings g (below k S) % 2 ≡ 0 → crossings g (below (suc k) S) % 2 ≡ 0
      go true e ih = rw e (omega (arith, crossings-flip g (below k S) k (below_out k S k (omega arith)), even k))
      go false e ih = rw e ih

  -- S is reached from the empty side, which nothing crosses, by moving its vertices in one by one; each move changes
  -- the count by the vertex's degree, but for an even number
  crossings-even : Formed g → (S : Side) → crossings g S % 2 ≡ 0
  crossings-even f S =
      omega (
        arith,
        below-even S g.vertices,
        crossings-agree f (λ e. true) (below g.vertices S) S (below_in g.vertices S),
      )

-- an edge that joins present vertices or is a loop has an even number of ends at an absent vertex
absent-even : (g : Network) (v e : ℕ) → here g v ≡ false → Joins g e → ends_at g v e % 2 ≡ 0
unfolding ends_at
absent-even g v e h =
    ⊎_elim
    (λ j. rw (
      eqb_no {a = low_end g e} {b = v} (λ q. never (sym h ∙ (rw q at j.0))),
      eqb_no {a = high_end g e} {b = v} (λ q. never (sym h ∙ (rw q at j.1))),
    ))
    (λ q. rw q (twice (eqb (high_end g e) v)))
  where
    twice : (b : Bool) → (bit b + bit b) % 2 ≡ 0
    twice true = refl
    twice false = refl

-- every crossing count of a sound network is even: present vertices have degree 4, and absent ones have loops alone
pub sound-even : {g : Network} → Sound g → (S : Side) → crossings g S % 2 ≡ 0
sound-even {g} sound = crossings-even g even sound.formed
  where
    even : (v : ℕ) → degree g v % 2 ≡ 0
    even v = go (here g v) refl
      where
        go : (t : Bool) → here g v ≡ t → degree g v % 2 ≡ 0
        go true e = omega (arith, sound.degrees v e)
        go false e = unfold degree in sum-even g.edges (ends_at g v) (λ i l. absent-even g v i e (sound.joins i l))
