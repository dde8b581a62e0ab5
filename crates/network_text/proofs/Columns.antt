-- Columns of edges: the length of one of three.
-- Assumes nothing.
use mathlib.Core.Logic.{◌⊎◌, inl, inr}
use mathlib.Core.List.{List}
use Prim.Native.Nat.{ℕ}
use lib.ListN.{length}
use lib.IntN.{ℤ}

-- a fact of the length of one of three columns
abbrev pub SomeOf : (ℕ → Type 0) → List ℕ → List ℕ → List ℤ → Type 0
SomeOf P low high cost = P (length low) ⊎ (P (length high) ⊎ P (length cost))

pub one_of : {A B C P Q R : Type 0} → (A → P) → (B → Q) → (C → R) → A ⊎ (B ⊎ C) → P ⊎ (Q ⊎ R)
one_of f g h (inl a) = inl (f a)
one_of f g h (inr (inl b)) = inr (inl (g b))
one_of f g h (inr (inr c)) = inr (inr (h c))
