-- The three partners at an end of the reserved edge of a running network.
use mathlib.Core.Path.{◌≡◌, sym, ◌∙◌, ap}
use mathlib.Core.Logic.{◌≢◌}
use mathlib.Core.Bool.{true, or-true}
use mathlib.Core.List.{[], ◌∷◌}
use Prim.Native.Nat.{ℕ, ◌<◌}
use native.Mathlib.Omega.{arith}
use Rattle.base.specs.Fold.{only, without, among}
use Rattle.graph.specs.Network.{here, touches, far}
use Rattle.graph.specs.Split.{partners, third}
use Rattle.graph.specs.State.{Splittable}
use Rattle.incidence.specs.Partners.{first_three}
use Rattle.graph.specs.declared.Network.{Network}
use Rattle.incidence.specs.declared.partners.Partners.{Partners}
use Rattle.base.proofs.Bools.{eqb-self, eqb_no}
use Rattle.graph.proofs.Stars.{Star}
use Rattle.graph.proofs.Partners.{another, three-partners, star, first-others, second-others}
use Rattle.graph.proofs.Rules.{end-here}
use Rattle.cuts.specs.Partnered.{Partnered}
use Rattle.rules.specs.Running.{Running, Costed}

-- x, y and z are the partners at v, in rising order
pub record Trio (g : Network) (v x y z : ℕ) : Type 0 where
  pub held : touches g v g.reserved ≡ true
  pub v_here : here g v ≡ true
  pub listed : partners g v ≡ x ∷ y ∷ z ∷ []
  pub at : Star g v x y z (far g v g.reserved) (far g v x) (far g v y) (far g v z)

pub trio : {g : Network} → Running g → (v : ℕ) → touches g v g.reserved ≡ true → (p : Partners)
    → p ≡ first_three (partners g v)
    → Trio g v p.first p.second p.third
trio {g} run v held p e =
    let sound = run.sound in
    let hv = end-here sound v held in
    let o = another sound.formed run.left v hv in
    let ps = three-partners sound hv o.1 o.2 held in
    let q : p ≡ first_three (ps.0 ∷ ps.1 ∷ ps.2 ∷ []) = e ∙ ap first_three ps.3 in
    rw q (record { held = held; v_here = hv; listed = ps.3; at = star sound hv o.1 o.2 held ps.3 })

module _ {g : Network} (run : Running g) {v x y z u a b c : ℕ} (s : Star g v x y z u a b c) where
  pub splittable : Splittable g x y z
  splittable =
      let f = s.four in
      record {
        left = omega (arith, run.left);
        room = run.edge_room;
        reserved_edge = f.r<;
        x_edge = f.x<;
        y_edge = f.y<;
        z_edge = f.z<;
        light = run.light;
      }

pub costed : {g : Network} → Running g → {i j : ℕ} → i < g.edges → j < g.edges → Costed g i j
costed run p q = record { light = run.light; room = run.edge_room; i_edge = p; j_edge = q }

-- each of the three can be tested
module _ {g : Network} (run : Running g) {v x y z : ℕ} (t : Trio g v x y z) where
  partnered : (i j k : ℕ) → among i (x ∷ y ∷ z ∷ []) ≡ true → without i (partners g v) ≡ j ∷ k ∷ []
      → Partnered g v i j k
  partnered i j k m e = record {
    sound = run.sound;
    light = run.light;
    several = run.left;
    at_end = t.held;
    partner = ap (among i) t.listed ∙ m;
    others = e;
  }

  pub first-tested : Partnered g v x y z
  unfolding among
  first-tested = partnered x y z (rw eqb-self) (first-others t.at t.listed)

  pub second-tested : Partnered g v y x z
  unfolding among
  second-tested = partnered y x z (rw (eqb-self y, or-true)) (second-others t.at t.listed)

-- ── the third partner ──
module _ (g : Network) (v x y : ℕ) {i j : ℕ} (others : without x (partners g v) ≡ i ∷ j ∷ []) (i≢j : i ≢ j) where
  pub third_last : y ≡ i → third g v x y ≡ j
  unfolding third only
  third_last e = rw (others, e, eqb-self i, eqb_no {a = j} {b = i} (λ q. i≢j (sym q)))

  pub third-first : y ≡ j → third g v x y ≡ i
  unfolding third only
  third-first e = rw (others, e, eqb-self j, eqb_no i≢j)
