-- Laws of points that fall.
use mathlib.Core.Bool.{Bool}
use mathlib.Core.List.{List}
use mathlib.Core.Logic.{◌⊎◌, inl, inr, ⊎_elim}
use mathlib.Core.Path.{◌≡◌, ◌∙◌}
use Prim.Native.Nat.{ℕ, ◌≤◌, ◌<◌}
use native.Mathlib.Decide.{ℕ_discrete, dec_lt}
use native.Mathlib.Omega.{arith}
use borrow.Author.Tests.{lt-ltb, le-ltb}
use lib.ListN.{length, set, length-set, get_or-eq_default}
use lib.Seq.{get_or-set_same, get_or-set_other}
use Rattle.base.specs.Columns.{at}
use Rattle.forest.specs.Forest.{DepthFirst}
use Rattle.forest.specs.declared.Forest.{Forest}
use Rattle.bridges.specs.LowPoints.{upper, lower, fallen, From, Points}

module _ (points : List ℕ) (i p : ℕ) where
  pub fallen-less : p < at points i → fallen points i p ≡ set points i p
  unfolding fallen
  fallen-less h = rw (lt-ltb _ _ h)

  pub fallen-not : at points i ≤ p → fallen points i p ≡ points
  unfolding fallen
  fallen-not h = rw (le-ltb _ _ h)

  -- a point that is not 0 is in the column
  inside : p < at points i → i < length points
  inside h = elim (dec_lt i (length points)) [
    | yes l ↦ l
    | no l ↦ absurd (omega (arith, get_or-eq_default points 0 {n = i} (omega arith)))
  ]

  fallen-long : length (fallen points i p) ≡ length points
  fallen-long = elim (dec_lt p (at points i)) [
    | yes h ↦ rw (fallen-less h) (length-set points i p)
    | no h ↦ rw (fallen-not (omega arith))
  ]

  pub fallen-at : at (fallen points i p) i ≤ p
  fallen-at = elim (dec_lt p (at points i)) [
    | yes h ↦ rw (fallen-less h) (omega (arith, get_or-set_same points i p 0 (inside h)))
    | no h ↦ rw (fallen-not (omega arith)) (omega arith)
  ]

  -- a point stays, or is i's and falls to p
  fallen-which : (k : ℕ) → (at (fallen points i p) k ≡ at points k)
      ⊎ ((k ≡ i) × (at (fallen points i p) k ≡ p) × (p < at points i))
  fallen-which k = elim (dec_lt p (at points i)) [
    | yes h ↦ elim (ℕ_discrete k i) [
      | yes q ↦ inr (q, rw (fallen-less h, q) (get_or-set_same points i p 0 (inside h)), h)
      | no q ↦ inl (rw (fallen-less h) (get_or-set_other points i k p 0 q))
    ]
    | no h ↦ inl (rw (fallen-not (omega arith)))
  ]

  fallen-falls : (k : ℕ) → at (fallen points i p) k ≤ at points k
  fallen-falls k = ⊎_elim (λ same. omega arith) (λ is. rw (is.1, is.0) (omega (arith, is.2))) (fallen-which k)

module _ {low high : List ℕ} {K : List Bool} {m n : ℕ} {t : Forest} {f : DepthFirst low high K m n t}
    {done left : ℕ} {points : List ℕ} where
  -- a point may fall to the earlier place of an edge from its subtree
  pub points-fall : Points low high K m n t f done left points → (i p : ℕ)
      → (p < i → i < t.count → (e : ℕ) × From low high K m n t f i e × (upper low high t.number e ≡ p))
      → Points low high K m n t f done left (fallen points i p)
  points-fall w i p real = record {
    long = fallen-long points i p ∙ w.long;
    own = λ k h. omega (arith, fallen-falls points i p k, w.own k h);
    real = λ k h l. ⊎_elim
        (λ same. rw same (w.real k h (rw same at l)))
        (λ is. rw (is.1, is.0) (real (rw (is.1, is.0) at l) (rw is.0 at h)))
        (fallen-which points i p k);
    reaches = λ e h b. omega (arith, fallen-falls points i p (lower low high t.number e), w.reaches e h b);
    passes_up = λ k e h l q b. omega (arith, fallen-falls points i p (at t.parent k), w.passes_up k e h l q b);
  }
