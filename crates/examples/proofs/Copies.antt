-- A loop that copies a list to the start of an array of one value.
use mathlib.Core.List.{List}
use mathlib.Core.Path.{◌≡◌, refl, sym, ap, ◌∙◌}
use Prim.Native.Nat.{ℕ, ◌+◌, ◌≤◌, ◌<◌}
use native.Mathlib.Nat.{zero-add}
use native.Mathlib.Numerals.{add-one}
use native.Mathlib.Omega.{arith}
use lib.ListN.{length, get_or, set, replicate, length-replicate}
use lib.Seq.{paste, paste-suc, take-length}
use Rattle.examples.specs.District.{filled}

-- an array of n elements d, to whose start k elements of s are copied
pub record Copied {A : Type 0} (n : ℕ) (s : List A) (d : A) (array : List A) (k : ℕ) : Type 0 where
  pub within : k ≤ length s
  pub so_far : array ≡ paste (replicate n d) 0 s k

module _ {A : Type 0} {n : ℕ} {s : List A} {d : A} where
  pub copied_none : Copied n s d (replicate n d) 0
  copied_none = record { within = omega arith; so_far = refl }

  pub copied_more : {array : List A} {k : ℕ} → length s ≤ n → k < length s → Copied n s d array k
      → Copied n s d (set array k (get_or s k d)) (k + 1)
  copied_more {array} {k} room more h =
      record {
        within = omega arith;
        so_far =
            ap (λ xs. set xs k (get_or s k d)) h.so_far
            ∙ ap (λ i. set (paste (replicate n d) 0 s k) i (get_or s k d)) (sym (zero-add k))
            ∙ paste-suc (replicate n d) 0 s k d (omega (arith, length-replicate n d)) more
            ∙ ap (paste (replicate n d) 0 s) (sym (add-one k));
      }

  pub copied_all : {array : List A} {k : ℕ} → length s ≤ k → Copied n s d array k → array ≡ filled n s d
  copied_all {array} {k} done h =
      let e : k ≡ length s = omega arith in h.so_far ∙ rw (e, take-length, zero-add)
