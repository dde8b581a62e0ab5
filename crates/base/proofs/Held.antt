-- A working column: its first elements stored one after the other, and what it holds of an answer afterwards.
-- Assumes nothing.
use mathlib.Core.Path.{◌≡◌, refl, sym, ◌∙◌, ap}
use mathlib.Core.List.{List, [], ◌∷◌, ◌++◌, map, map-append}
use Prim.Native.Nat.{ℕ, ◌≤◌, ◌<◌}
use native.Mathlib.Omega.{arith}
use lib.ListN.{length, take, drop, set, length-append, length-map, length-set}
use lib.Seq.{take_at}
use Rattle.base.specs.Answer.{Answer, answer, over, Held}
use Rattle.base.proofs.Filling.{over-set}

-- a column that starts with a list, has its old elements behind it, and its old length
pub record Storing {A : Type 0} (xs old column : List A) : Type 0 where
  pub size : length column ≡ length old
  pub holds : column ≡ over xs old

module _ {A : Type 0} where
  pub storing-none : {old : List A} → Storing [] old old
  unfolding over
  storing-none = record { size = refl; holds = refl }

  -- one element more
  pub storing-next : {xs old column : List A} → Storing xs old column → {i : ℕ} → length xs ≡ i → i < length old
      → (a : A) → Storing (xs ++ (a ∷ [])) old (set column i a)
  storing-next {xs} {old} {column} s {i} n h a =
      record {
        size = length-set column i a ∙ s.size;
        holds = ap (λ (c : List A). set c i a) s.holds ∙ over-set xs old i a (sym n) h;
      }

-- a column of one part of each element of a list, with one element more
pub part-next : {E A : Type 0} (part : E → A) (es : List E) (e : E) {old column : List A}
    → Storing (map part es) old column → {i : ℕ} → length es ≡ i → i < length old
    → Storing (map part (es ++ (e ∷ []))) old (set column i (part e))
part-next part es e s n h = rw map-append (storing-next s (length-map es part ∙ n) h (part e))

-- a column that starts with a list of so many elements
pub record Starts {A : Type 0} (k : ℕ) (xs column : List A) : Type 0 where
  pub count : length xs ≡ k
  pub within : k ≤ length column
  pub first : take k column ≡ xs

-- what an answer says of a working column
pub held-starts : {M A : Type 0} (part : M → List A) (old : List A) {a : Answer M} {column : List A} {m : M} {k : ℕ}
    → a ≡ answer m → Held part a old column → length (part m) ≡ k → Starts k (part m) column
unfolding over
held-starts part old {column = column} {m = m} {k = k} e h n =
    let x : column ≡ over (part m) old = rw e at h in
    record {
      count = n;
      within = rw x (omega (arith, length-append (part m) (drop (length (part m)) old)));
      first = rw x (take_at (part m) (drop (length (part m)) old) k n);
    }
