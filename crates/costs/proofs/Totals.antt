-- Sums of costs, edge by edge, and that they fit.
use mathlib.Core.Path.{◌≡◌, refl, ◌∙◌, ap}
use mathlib.Core.Bool.{Bool, true, false, not, cond}
use mathlib.Core.List.{List}
use Prim.Native.Nat.{ℕ, ◌+◌, ◌^◌, ◌≤◌, ◌<◌}
use native.Mathlib.Omega.{arith}
use native.Mathlib.Decide.{ℕ_discrete}
use lib.Dec.{eqb}
use lib.ListN.{set, replicate, get_or-replicate, length-replicate}
use lib.Seq.{get_or-set_same, get_or-set_other}
use lib.IntN.{ℤ, pos, nat_abs, ◌+ℤ◌, +ℤ_idr}
use mir.Syntax.{w64}
use mir.Val.{SFits, to_z, of_z}
use Rattle.base.specs.Fold.{fold, sumℤ}
use Rattle.graph.specs.Network.{cost_of, cost_over, kept, kept_cost, all_but_reserved}
use Rattle.graph.specs.Sound.{weight, Light}
use Rattle.graph.specs.declared.Network.{Network}
use Rattle.graph.proofs.Differences.{cost-below}
use Rattle.base.proofs.Bools.{eqb-self, eqb_no}
use Rattle.base.proofs.Sums.{fold_more, fold-ext, sum-le, sum-fewer}
use Rattle.base.proofs.Integers.{size-plus, size_fits, read_back, sumℤ-size}

-- the cost of the marked edges among the first e
abbrev pub cost_among : Network → List Bool → ℕ → ℤ
cost_among g K e = sumℤ e (λ i. cond (kept K i) (cost_of g i) (pos 0))

module _ (g : Network) (K : List Bool) where
  pub among_none : cost_among g K 0 ≡ pos 0
  unfolding fold
  among_none = refl

  pub among-marked : (e : ℕ) → kept K e ≡ true → cost_among g K (e + 1) ≡ cost_among g K e +ℤ cost_of g e
  among-marked e h = fold_more ◌+ℤ◌ (pos 0) e (λ i. cond (kept K i) (cost_of g i) (pos 0)) ∙ rw h

  pub among-unmarked : (e : ℕ) → kept K e ≡ false → cost_among g K (e + 1) ≡ cost_among g K e
  among-unmarked e h =
      fold_more ◌+ℤ◌ (pos 0) e (λ i. cond (kept K i) (cost_of g i) (pos 0)) ∙ rw h (+ℤ_idr (cost_among g K e))

  pub among-all : cost_among g K g.edges ≡ kept_cost g K
  unfolding cost_over
  among-all = refl

-- ── sums that fit ──

-- sizes below 2 to the power 62 leave room for a sum
module _ (a b : ℤ) (ha : nat_abs a < 2 ^ 62) (hb : nat_abs b < 2 ^ 62) where
  small : nat_abs (a +ℤ b) < 2 ^ 63
  small = omega (arith, size-plus a b)

  pub sum_fits : SFits w64 (to_z w64 (of_z w64 a) +ℤ to_z w64 (of_z w64 b))
  sum_fits =
      rw (read_back a (omega arith), read_back b (omega arith)) (size_fits (a +ℤ b) small)

  pub sum_is : to_z w64 (of_z w64 (to_z w64 (of_z w64 a) +ℤ to_z w64 (of_z w64 b))) ≡ a +ℤ b
  sum_is = rw (read_back a (omega arith), read_back b (omega arith)) (read_back (a +ℤ b) small)

-- ── the cost of marked edges ──

-- the cost of any of the first edges is no further from 0 than the sum of all costs' sizes
module _ (g : Network) where
  over-weight : (p : ℕ → Bool) (e : ℕ) → e ≤ g.edges
      → nat_abs (sumℤ e (λ i. cond (p i) (cost_of g i) (pos 0))) ≤ weight g
  unfolding weight
  over-weight p e l =
      omega (
        arith,
        sumℤ-size e (λ i. cond (p i) (cost_of g i) (pos 0)),
        sum-le e (λ i. nat_abs (cond (p i) (cost_of g i) (pos 0))) (λ i. nat_abs (cost_of g i))
            (λ i k. less (p i) (cost_of g i)),
        sum-fewer e g.edges (λ i. nat_abs (cost_of g i)) l,
      )
    where
      less : (t : Bool) (c : ℤ) → nat_abs (cond t c (pos 0)) ≤ nat_abs c
      less true c = omega arith
      less false c = omega arith

  pub kept-weight : (K : List Bool) → nat_abs (kept_cost g K) ≤ weight g
  unfolding cost_over
  kept-weight K = over-weight (kept K) g.edges (omega arith)

  pub reserved-weight : nat_abs (all_but_reserved g) ≤ weight g
  unfolding cost_over
  reserved-weight = over-weight (λ e. not (eqb e g.reserved)) g.edges (omega arith)

-- so in a light network it is small
module _ (g : Network) (light : Light g) where
  pub among-small : (K : List Bool) (e : ℕ) → e ≤ g.edges → nat_abs (cost_among g K e) < 2 ^ 62
  among-small K e l = omega (arith, over-weight g (kept K) e l)

  pub kept_small : (K : List Bool) → nat_abs (kept_cost g K) < 2 ^ 62
  kept_small K = omega (arith, kept-weight g K)

  pub reserved-small : nat_abs (all_but_reserved g) < 2 ^ 62
  reserved-small = omega (arith, reserved-weight g)

  -- the cost of one more edge fits behind the cost of the marked edges below it, and is read back from its bits
  module _ (K : List Bool) (e : ℕ) (l : e < g.edges) {a : ℤ} (so-far : a ≡ cost_among g K e) where
    pub next-fits : SFits w64 (a +ℤ to_z w64 (of_z w64 (cost_of g e)))
    next-fits =
        let before = among-small K e (omega arith) in
        let w = sum_fits (cost_among g K e) (cost_of g e) before (cost-below g light e l) in
        rw so-far (rw (read_back (cost_among g K e) (omega (arith, before))) at w)

    pub next-is : to_z w64 (of_z w64 (a +ℤ to_z w64 (of_z w64 (cost_of g e)))) ≡ cost_among g K e +ℤ cost_of g e
    next-is =
        let before = among-small K e (omega arith) in
        let w = sum_is (cost_among g K e) (cost_of g e) before (cost-below g light e l) in
        rw so-far (rw (read_back (cost_among g K e) (omega (arith, before))) at w)

-- n marks but the reserved one
pub all-marks : (n : ℕ) (g : Network) → g.edges ≤ n → g.reserved < n
    → kept_cost g (set (replicate n true) g.reserved false) ≡ all_but_reserved g
unfolding cost_over
all-marks n g room r =
    fold-ext ◌+ℤ◌ (pos 0) g.edges _ _ (λ e l. ap (λ t. cond t (cost_of g e) (pos 0)) (mark e (omega arith)))
  where
    mark : (e : ℕ) → e < n → kept (set (replicate n true) g.reserved false) e ≡ not (eqb e g.reserved)
    mark e l = elim (ℕ_discrete e g.reserved) [
      | yes q ↦
          rw (q, eqb-self g.reserved)
          (get_or-set_same (replicate n true) g.reserved false false (rw length-replicate r))
      | no q ↦
          rw (eqb_no q)
          (get_or-set_other (replicate n true) g.reserved e false false q ∙ get_or-replicate n e true false l)
    ]
