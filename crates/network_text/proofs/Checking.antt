-- What is known while the edges of columns are checked, one after the other.
-- Assumes nothing.
use mathlib.Core.Path.{◌≡◌, refl}
use mathlib.Core.Logic.{inl, inr}
use mathlib.Core.List.{List, [], ◌∷◌, ◌++◌}
use Prim.Native.Nat.{ℕ, zero, suc, ◌+◌, ◌*◌, ◌-◌, ◌≤◌, ◌<◌}
use native.Mathlib.Omega.{arith}
use native.Mathlib.Numerals.{add-one}
use lib.ListN.{length, drop, length-drop, drop_of_length-le}
use lib.Seq.{drop-cons}
use lib.IntN.{ℤ, pos}
use Rattle.base.specs.Answer.{Answer, refused, answer, and_then, number_of, refusal_of}
use Rattle.base.specs.Refusals.{FORM}
use Rattle.base.specs.declared.refusals.Refusal.{Refusal}
use Rattle.base.proofs.Answers.{number-above}
use Rattle.frame.specs.declared.kinds.Edge.{Edge}
use Rattle.network_frames.specs.Frames.{edge_refusal}
use Rattle.network_text.specs.Text.{Edges, finished, interrupted, next, checked, in_columns}
use Rattle.network_text.specs.Columns.{EdgeThere, edge_at}
use Rattle.network_text.proofs.Columns.{SomeOf, one_of}
use Rattle.network_text.proofs.Edges.{Passing, passing-none, passing-end, passing-stop, passing-refused}
use Rattle.network_text.proofs.Edges.{passing-next, edge-stops, edge_goes}

-- a column lacks an edge that is due
missing : (k place : ℕ) (ls hs : List ℕ) (cs : List ℤ) → SomeOf (λ n. n ≤ 0) ls hs cs
    → in_columns (suc k) place ls hs cs ≡ interrupted
unfolding in_columns
missing k place [] hs cs s = refl
missing k place (l ∷ ls) [] cs s = refl
missing k place (l ∷ ls) (h ∷ hs) [] s = refl
missing k place (l ∷ ls) (h ∷ hs) (c ∷ cs) (inl m) = absurd (omega arith)
missing k place (l ∷ ls) (h ∷ hs) (c ∷ cs) (inr (inl m)) = absurd (omega arith)
missing k place (l ∷ ls) (h ∷ hs) (c ∷ cs) (inr (inr m)) = absurd (omega arith)

-- a column has an edge beyond the last
beyond : (place : ℕ) (ls hs : List ℕ) (cs : List ℤ) → SomeOf (λ n. 0 < n) ls hs cs
    → in_columns zero place ls hs cs ≡ interrupted
unfolding in_columns
beyond place (l ∷ ls) hs cs s = refl
beyond place [] (h ∷ hs) cs s = refl
beyond place [] [] (c ∷ cs) s = refl
beyond place [] [] [] (inl m) = absurd (omega arith)
beyond place [] [] [] (inr (inl m)) = absurd (omega arith)
beyond place [] [] [] (inr (inr m)) = absurd (omega arith)

-- all edges of columns; and those that are left, from the i-th on
abbrev whole : ℕ → List ℕ → List ℕ → List ℤ → Edges
whole n low high cost = in_columns (2 * n) 0 low high cost

abbrev left : ℕ → List ℕ → List ℕ → List ℤ → ℕ → Edges
left n low high cost i = in_columns (2 * n - i) i (drop i low) (drop i high) (drop i cost)

-- the edges before the i-th have passed
pub record Checking (n : ℕ) (low high : List ℕ) (cost : List ℤ) (i : ℕ) : Type 0 where
  pub passed : List Edge
  pub edges : Passing (checked n 0 (whole n low high cost)) (λ es. es) n passed i (left n low high cost i)
  pub within : i ≤ 2 * n

as-it-is : {A : Type 0} (a : Answer A) → a ≡ and_then a (λ x. answer x)
unfolding and_then
as-it-is (refused k) = refl
as-it-is (answer x) = refl

pub checking-none : {n : ℕ} {low high : List ℕ} {cost : List ℤ} → Checking n low high cost 0
checking-none {n} {low} {high} {cost} =
    let e : 2 * n - 0 ≡ 2 * n = omega arith in
    record {
      passed = [];
      edges = rw e (passing-none (as-it-is (checked n 0 (whole n low high cost))));
      within = omega arith;
    }

module _ {n : ℕ} {low high : List ℕ} {cost : List ℤ} {i : ℕ} (c : Checking n low high cost i) where
  -- what is replied
  abbrev Replies : ℕ → Type 0
  Replies k = k ≡ refusal_of (checked n 0 (whole n low high cost))

  refuses : (k : ℕ) → checked n 0 (whole n low high cost) ≡ refused k → Replies k
  unfolding refusal_of
  refuses k x = rw x

  module _ (h : i < 2 * n) where
    one_more : 2 * n - i ≡ suc (2 * n - (i + 1))
    one_more = omega arith

    pub checking-missing : SomeOf (λ k. k ≤ i) low high cost → Replies FORM
    checking-missing s =
        refuses FORM
        (passing-stop c.edges (rw one_more (missing _ i _ _ _ (one_of (gone low) (gone high) (gone cost) s))))
      where
        gone : {A : Type 0} (xs : List A) → length xs ≤ i → length (drop i xs) ≤ 0
        gone xs m = omega (arith, length-drop i xs)

    -- an edge that all columns have
    module _ (t : EdgeThere low high cost i) {e : Edge} (q : e ≡ edge_at low high cost i) where
      left-next : left n low high cost i ≡ next e (left n low high cost (i + 1))
      unfolding in_columns edge_at
      left-next =
          rw (
            one_more,
            add-one,
            drop-cons low i 0 t.low_there,
            drop-cons high i 0 t.high_there,
            drop-cons cost i (pos 0) t.cost_there,
            q,
          )

      pub checking-refused : (r : Refusal) → number_of r ≡ edge_refusal n i e → Replies (number_of r)
      checking-refused r x =
          let above = number-above r in
          rw x
          (refuses (edge_refusal n i e)
          (passing-refused c.edges (edge-stops n i left-next (omega arith))))

      pub checking-next : 0 ≡ edge_refusal n i e → Checking n low high cost (i + 1)
      checking-next x =
          record {
            passed = c.passed ++ (e ∷ []);
            edges = passing-next c.edges (edge_goes n i left-next (omega arith));
            within = omega arith;
          }

  module _ (h : 2 * n ≤ i) where
    none_left : 2 * n - i ≡ zero
    none_left = omega arith

    pub checking-beyond : SomeOf (λ k. 2 * n < k) low high cost → Replies FORM
    checking-beyond s =
        refuses FORM
        (passing-stop c.edges (rw none_left (beyond i _ _ _ (one_of (there low) (there high) (there cost) s))))
      where
        there : {A : Type 0} (xs : List A) → 2 * n < length xs → 0 < length (drop i xs)
        there xs m = omega (arith, length-drop i xs, c.within)

    pub checking-end : length low ≤ 2 * n → length high ≤ 2 * n → length cost ≤ 2 * n → Replies 0
    unfolding refusal_of in_columns
    checking-end l m o =
        let e : left n low high cost i ≡ finished = rw (none_left, ended low l, ended high m, ended cost o) in
        rw (passing-end c.edges e)
      where
        ended : {A : Type 0} (xs : List A) → length xs ≤ 2 * n → drop i xs ≡ []
        ended xs k = drop_of_length-le xs {i = i} (omega arith)
