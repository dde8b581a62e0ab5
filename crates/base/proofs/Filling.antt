-- A column that is filled from its start, one store a turn.
use mathlib.Core.Path.{◌≡◌, refl, sym, ◌∙◌, ap}
use mathlib.Core.List.{List, [], ◌∷◌, ◌++◌}
use Prim.Native.Nat.{ℕ, suc, ◌+◌, ◌≤◌, ◌<◌}
use native.Mathlib.Omega.{arith}
use native.Mathlib.Decide.{ℕ_discrete}
use native.Mathlib.Numerals.{add-one}
use lib.ListN.{length, take, drop, get_or, set, length-append, length-set}
use lib.Seq.{get_or-set_same, get_or-set_other, append_snoc, drop-cons, length-take-le, set_at, take-suc}
use Rattle.base.specs.Answer.{over}
use Rattle.base.specs.Fold.{tabulate}
use Rattle.base.proofs.Sums.{tabulate-is}

-- the first i elements of a column of length n are those of f
pub record Filled {A : Type 0} (n : ℕ) (f : ℕ → A) (d : A) (i : ℕ) (out : List A) : Type 0 where
  pub within : i ≤ n
  pub size : length out ≡ n
  pub done : (k : ℕ) → k < i → get_or out k d ≡ f k

module _ {A : Type 0} {n : ℕ} {f : ℕ → A} {d : A} where
  pub filled_none : (out : List A) → length out ≡ n → Filled n f d 0 out
  filled_none out e = record { within = omega arith; size = e; done = λ k l. absurd (omega arith) }

  pub filled_more : {i : ℕ} {out : List A} → Filled n f d i out → i < n → {a : A} → a ≡ f i
      → Filled n f d (i + 1) (set out i a)
  filled_more {i} {out} w l {a} e = record {
    within = omega arith;
    size = length-set out i a ∙ w.size;
    done = λ k h. elim (ℕ_discrete k i) [
      | yes q ↦ rw q (get_or-set_same out i a d (omega (arith, w.size)) ∙ e)
      | no q ↦ get_or-set_other out i k a d q ∙ w.done k (omega arith)
    ];
  }

  pub filled-all : {i : ℕ} {out : List A} → Filled n f d i out → n ≤ i → out ≡ tabulate n f
  filled-all {out = out} w h =
      tabulate-is n f d out w.size (λ k l. w.done k (omega arith))

-- one element more
module _ {A : Type 0} where
  pub take_next : (xs : List A) (i : ℕ) (d : A) → i < length xs → take (i + 1) xs ≡ take i xs ++ (get_or xs i d ∷ [])
  take_next xs i d h = rw add-one (take-suc xs i d h)

  pub over-set : (xs old : List A) (i : ℕ) (a : A) → i ≡ length xs → i < length old
      → set (over xs old) i a ≡ over (xs ++ (a ∷ [])) old
  unfolding over
  over-set xs old i a e h =
      let n : length (xs ++ (a ∷ [])) ≡ suc i = length-append xs (a ∷ []) ∙ omega arith in
      rw (n, ← e, drop-cons old i a)
      (set_at xs (get_or old i a) (drop (suc i) old) a i (sym e) ∙ sym (append_snoc xs a (drop (suc i) old)))

  -- one element more of a column that is copied
  over-copy : (from old : List A) (d : A) (i : ℕ) → i < length from → i < length old
      → set (over (take i from) old) i (get_or from i d) ≡ over (take (i + 1) from) old
  over-copy from old d i h l =
      rw (take_next from i d)
      (over-set (take i from) old i (get_or from i d) (sym (length-take-le i from (omega arith))) l)

  -- i elements of those that are due are copied
  pub record Copying (from to₀ to : List A) (count i : ℕ) : Type 0 where
    pub within : i ≤ count
    pub size : length to ≡ length to₀
    pub copied : to ≡ over (take i from) to₀

  pub copying-none : {from to : List A} {count : ℕ} → Copying from to to count 0
  unfolding over
  copying-none = record { within = omega arith; size = refl; copied = refl }

  module _ {from to₀ to : List A} {count i : ℕ} (c : Copying from to₀ to count i) where
    pub copying-next : (d : A) → i < count → count ≤ length from → count ≤ length to₀
        → Copying from to₀ (set to i (get_or from i d)) count (i + 1)
    copying-next d h k l =
        record {
          within = omega arith;
          size = length-set to i (get_or from i d) ∙ c.size;
          copied =
              ap (λ (xs : List A). set xs i (get_or from i d)) c.copied
              ∙ over-copy from to₀ d i (omega arith) (omega arith);
        }

    pub copying-all : count ≤ i → to ≡ over (take count from) to₀
    copying-all h = let e : i ≡ count = omega (arith, c.within) in rw e at c.copied
