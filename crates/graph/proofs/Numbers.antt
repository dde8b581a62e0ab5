-- Which numbers the refusals of a step, of an ending and of a network that reads can be.
use mathlib.Core.Path.{◌≡◌, refl}
use mathlib.Core.Logic.{◌⊎◌, inl, inr}
use mathlib.Core.Bool.{Bool, true, false, not, cond, ◌&&◌}
use Prim.Native.Nat.{ℕ, ◌≤◌}
use native.Mathlib.Omega.{arith}
use lib.Dec.{eqb}
use lib.Signed.{lt_z}
use Rattle.base.specs.Fold.{among}
use Rattle.graph.specs.Network.{cost_of, same_cost, touches}
use Rattle.graph.specs.Cut.{every_cut, four_each, network_refusal}
use Rattle.graph.specs.Split.{partners, admissible, step_given}
use Rattle.graph.specs.Chain.{step_refusal, last_edges, dearest, end_refusal}
use Rattle.graph.specs.declared.Network.{Network}
use Rattle.graph.specs.declared.Step.{Step}

pub step-number : (g : Network) (t : Step)
    → (step_refusal g t ≡ 0) ⊎ ((8 ≤ step_refusal g t) × (step_refusal g t ≤ 11)) ⊎ (step_refusal g t ≡ 17)
unfolding step_refusal
step-number g t =
    let ps = partners g t.v in
    let due = step_given g t.v t.x t.y in
    go (touches g t.v g.reserved) (among t.x ps && among t.y ps && not (eqb t.x t.y))
    (admissible g t.v t.x && admissible g t.v t.y) (lt_z (cost_of g t.x) (cost_of g t.y))
    (eqb t.z due.z && same_cost t.cost due.cost)
  where
    go : (a b c d e : Bool) → let k : ℕ = cond a (cond b (cond c (cond d 11 (cond e 0 17)) 10) 9) 8 in
        (k ≡ 0) ⊎ ((8 ≤ k) × (k ≤ 11)) ⊎ (k ≡ 17)
    go true true true true e = inr (inl (omega arith, omega arith))
    go true true true false true = inl refl
    go true true true false false = inr (inr refl)
    go true true false d e = inr (inl (omega arith, omega arith))
    go true false c d e = inr (inl (omega arith, omega arith))
    go false b c d e = inr (inl (omega arith, omega arith))

pub ending-number : (g : Network) (d : ℕ) → (end_refusal g d ≡ 0) ⊎ (end_refusal g d ≡ 12)
unfolding end_refusal
ending-number g d = go (among d (last_edges g) && dearest g d (last_edges g))
  where
    go : (a : Bool) → let k : ℕ = cond a 0 12 in (k ≡ 0) ⊎ (k ≡ 12)
    go true = inl refl
    go false = inr refl

pub network-number : (g : Network) → network_refusal g ≤ 7
unfolding network_refusal
network-number g = go (four_each g) (every_cut 4 g)
  where
    go : (a b : Bool) → cond {A = ℕ} a (cond b 0 7) 6 ≤ 7
    go true true = omega arith
    go true false = omega arith
    go false b = omega arith
