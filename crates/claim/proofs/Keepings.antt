-- Writing the kept text of marked edges.
use mathlib.Core.Path.{◌≡◌, sym, ◌∙◌, ap, ap₂}
use mathlib.Core.Bool.{Bool}
use mathlib.Core.List.{List}
use Prim.Native.Nat.{ℕ}
use native.Mathlib.Omega.{arith}
use lib.ListN.{length}
use lib.IntN.{ℤ, nat_abs}
use mir.Syntax.{w64}
use mir.Val.{to_z, of_z}
use Rattle.kept_text.specs.Text.{kept_edges, kept_text, costs_in, kept_length}
use Rattle.kept_text.proofs.Texts.{length-kept, costs-read, cost_room}
use Rattle.graph.specs.Network.{kept_cost, all_but_reserved}
use Rattle.graph.specs.Sound.{Light}
use Rattle.graph.specs.declared.Network.{Network}
use Rattle.rules.specs.Running.{Keeping}
use Rattle.claim.specs.Services.{kept_text_of}
use Rattle.base.proofs.Integers.{read_back}
use Rattle.costs.proofs.Totals.{kept_small, reserved-small}

-- how long the text is
pub kept-length-is : (g : Network) (K : List Bool)
    → length (kept_text_of g K) ≡ kept_length (length (kept_edges g.edges K))
unfolding kept_text_of
kept-length-is g K = length-kept (kept_edges g.edges K) (kept_cost g K) (all_but_reserved g)

-- the two costs as the code hands them over
module _ (g : Network) (light : Light g) where
  pub kept_back : (K : List Bool) (kept : ℤ) → kept ≡ kept_cost g K → to_z w64 (of_z w64 kept) ≡ kept_cost g K
  kept_back K kept e = read_back kept (omega (arith, ap nat_abs e, kept_small g light K)) ∙ e

  pub unreserved-back : (unreserved : ℤ) → unreserved ≡ all_but_reserved g
      → to_z w64 (of_z w64 unreserved) ≡ all_but_reserved g
  unreserved-back unreserved e = read_back unreserved (omega (arith, ap nat_abs e, reserved-small g light)) ∙ e

-- and as they are read from a text, whatever edges it lists
pub costs-in : (g : Network) → Light g → (K : List Bool) (es : List ℕ)
    → costs_in (kept_text es (kept_cost g K) (all_but_reserved g))
    ≡ record { kept = kept_cost g K; unreserved = all_but_reserved g }
costs-in g light K es =
    costs-read es (kept_cost g K) (all_but_reserved g)
    (cost_room (kept_cost g K) (kept_small g light K)).0 (cost_room (all_but_reserved g) (reserved-small g light)).1

module _ {g : Network} {K : List Bool} (k : Keeping g K) where
  pub kept-size : (n : ℕ) → n ≡ kept_length (length (kept_edges g.edges K)) → n ≡ length (kept_text_of g K)
  kept-size n e = e ∙ sym (kept-length-is g K)

  -- the text with these costs
  module _ (kept unreserved : ℤ) (ek : kept ≡ kept_cost g K) (eu : unreserved ≡ all_but_reserved g) where
    pub kept-text : kept_text (kept_edges g.edges K) (to_z w64 (of_z w64 kept)) (to_z w64 (of_z w64 unreserved))
        ≡ kept_text_of g K
    unfolding kept_text_of
    kept-text =
        ap₂ (kept_text (kept_edges g.edges K)) (kept_back g k.light K kept ek)
        (unreserved-back g k.light unreserved eu)
