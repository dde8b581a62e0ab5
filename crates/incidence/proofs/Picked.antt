-- The partners found so far, edge by edge.
use mathlib.Core.Bool.{Bool, true, false}
use mathlib.Core.List.{List, [], ◌∷◌, ◌++◌, append-nil}
use mathlib.Core.Path.{◌≡◌, refl, sym, ◌∙◌}
use Prim.Native.Nat.{ℕ, suc, ◌+◌, ◌≤◌}
use native.Mathlib.Nat.{zero-add}
use native.Mathlib.Numerals.{add-one}
use native.Mathlib.Omega.{arith}
use borrow.Author.Tests.{ne_eqb}
use lib.ListN.{length, length-append}
use Rattle.base.specs.Fold.{pick}
use Rattle.base.proofs.Picks.{pick-few, pick_more}
use Rattle.incidence.specs.Partners.{first_three, one_more}
use Rattle.incidence.specs.declared.partners.Partners.{Partners}

more-found : (is : List ℕ) (e : ℕ) → first_three (is ++ e ∷ []) ≡ one_more (first_three is) e
more-found [] e = refl
more-found (a ∷ []) e = refl
more-found (a ∷ b ∷ []) e = refl
more-found (a ∷ b ∷ c ∷ is) e =
    rw (
      ne_eqb _ 0 (λ (q : suc (suc (suc (length is))) ≡ 0). omega arith),
      ne_eqb _ 1 (λ (q : suc (suc (suc (length is))) ≡ 1). omega arith),
      ne_eqb _ 2 (λ (q : suc (suc (suc (length is))) ≡ 2). omega arith),
      length-append,
    ) refl

module _ (p : ℕ → Bool) where
  -- what is found among the first e edges
  abbrev pub found : ℕ → Partners
  found e = first_three (pick e 0 p)

  -- four zeros are what is found among no edges
  pub none-found : {n a b c : ℕ} → (n ≡ 0) × ((a ≡ 0) × ((b ≡ 0) × (c ≡ 0)))
      → record { count = n; first = a; second = b; third = c } ≡ found 0
  unfolding pick
  none-found h = cc

  pub found_below : (e : ℕ) → (found e).count ≤ e
  found_below e = pick-few e 0 p

  pub found-more : (e : ℕ) → p e ≡ true → one_more (found e) e ≡ found (e + 1)
  found-more e h = sym (more-found (pick e 0 p) e) ∙ rw (add-one e, pick_more e 0 p, zero-add e, h)

  pub found-same : (e : ℕ) → p e ≡ false → found e ≡ found (e + 1)
  found-same e h = rw (add-one e, pick_more e 0 p, zero-add e, h, append-nil)
