-- How the tests of a proposed step decide its refusal.
use mathlib.Core.Path.{◌≡◌, refl, sym, ◌∙◌, ap}
use mathlib.Core.Logic.{◌≢◌}
use mathlib.Core.Bool.{Bool, true, false, cond, or-false}
use mathlib.Core.List.{[], ◌∷◌}
use Rattle.std.proofs.Common.{Option, Some, None}
use Prim.Native.Nat.{ℕ}
use lib.Dec.{eqb}
use lib.Signed.{lt_z}
use borrow.Author.Tests.{eq-eqb, ne_eqb, eqb-false}
use Rattle.base.specs.Fold.{among, without}
use Rattle.base.specs.Refusals.{NOT_GIVEN}
use Rattle.graph.specs.Network.{cost_of, touches, far}
use Rattle.graph.specs.Split.{partners, admissible, third}
use Rattle.graph.specs.Chain.{step_refusal}
use Rattle.graph.specs.declared.Network.{Network}
use Rattle.graph.specs.declared.Step.{Step}
use Rattle.incidence.specs.declared.partners.Partners.{Partners}
use Rattle.base.proofs.Bools.{no_answer, eqb_is}
use Rattle.graph.proofs.Stars.{Star, swap-first, swap-others}
use Rattle.graph.proofs.Partners.{first-others, second-others, third-others, among-without}
use Rattle.cuts.specs.Partnered.{Partnered}
use Rattle.rules.specs.Running.{Running}
use Rattle.rules.specs.Others.{others_of, other_of}
use Rattle.rules.specs.Judgements.{names}
use Rattle.rules.proofs.Trios.{Trio, third-first, third_last}

-- x is a partner at v, and i and j are the others
pub record Named (g : Network) (v x i j : ℕ) : Type 0 where
  pub u : ℕ
  pub a : ℕ
  pub b : ℕ
  pub c : ℕ
  pub at : Star g v x i j u a b c
  pub x_in : among x (partners g v) ≡ true
  pub others : without x (partners g v) ≡ i ∷ j ∷ []

-- the others of a partner
abbrev two : ℕ → ℕ → Option (ℕ × ℕ)
two i j = Some (i, j)

module _ {g : Network} {v : ℕ} (p : Partners) (t : Trio g v p.first p.second p.third) (x : ℕ) where
  pub others-found : {i j : ℕ} → others_of p x ≡ two i j → Named g v x i j
  others-found {i} {j} h = go (eqb x p.first) (eqb x p.second) (eqb x p.third) refl refl refl h
    where
      s : Star g v p.first p.second p.third (far g v g.reserved) (far g v p.first) (far g v p.second)
          (far g v p.third)
      s = t.at

      make : {k y z a b c : ℕ} → x ≡ k → Star g v k y z (far g v g.reserved) a b c
          → without k (partners g v) ≡ y ∷ z ∷ []
          → among x (p.first ∷ p.second ∷ p.third ∷ []) ≡ true → two y z ≡ two i j → Named g v x i j
      make {k} {y} {z} {a} {b} {c} q s others x_in e =
          let both : ◌≡◌ {A = ℕ × ℕ} (y, z) (i, j) = cc in
          let ey : y ≡ i = ap (λ p. p.0) both in
          let ez : z ≡ j = ap (λ p. p.1) both in
          rw (q, ← ey, ← ez)
          (record {
            u = far g v g.reserved;
            a = a;
            b = b;
            c = c;
            at = s;
            x_in = ap (among k) t.listed ∙ (rw q at x_in);
            others = others;
          })

      go : (a b c : Bool) → eqb x p.first ≡ a → eqb x p.second ≡ b → eqb x p.third ≡ c
          → cond a (two p.second p.third)
          (cond b (two p.first p.third) (cond c (two p.first p.second) None)) ≡ two i j
          → Named g v x i j
      go true b c ea eb ec h = make (eqb_is ea) s (first-others s t.listed) (unfold among in rw ea) h
      go false true c ea eb ec h =
          make (eqb_is eb) (swap-first s) (second-others s t.listed) (unfold among in rw (ea, eb)) h
      go false false true ea eb ec h =
          make (eqb_is ec) (swap-first (swap-others s)) (third-others s t.listed) (unfold among in rw (ea, eb, ec)) h
      go false false false ea eb ec h = no_answer (cc)

  pub others-missing : others_of p x ≡ None → among x (partners g v) ≡ false
  unfolding among
  others-missing h =
      ap (among x) t.listed ∙ go (eqb x p.first) (eqb x p.second) (eqb x p.third) refl refl refl h
    where
      go : (a b c : Bool) → eqb x p.first ≡ a → eqb x p.second ≡ b → eqb x p.third ≡ c
          → cond a (two p.second p.third)
          (cond b (two p.first p.third) (cond c (two p.first p.second) None)) ≡ None
          → among x (p.first ∷ p.second ∷ p.third ∷ []) ≡ false
      go false false false i j k h = rw (i, j, k)
      go true b c i j k h = no_answer (cc)
      go false true c i j k h = no_answer (cc)
      go false false true i j k h = no_answer (cc)

pub partnered : {g : Network} → Running g → {v x i j : ℕ} → touches g v g.reserved ≡ true → Named g v x i j
    → Partnered g v x i j
partnered run held n = record {
  sound = run.sound;
  light = run.light;
  several = run.left;
  at_end = held;
  partner = n.x_in;
  others = n.others;
}

-- of x's others the one that is not y is the third partner
pub third-other : {g : Network} {v x y i j : ℕ} → Named g v x i j → among y (partners g v) ≡ true → x ≢ y
    → third g v x y ≡ other_of i j y
unfolding among
third-other {g} {v} {x} {y} {i} {j} n y-in xy = go (eqb i y) refl
  where
    go : (b : Bool) → eqb i y ≡ b → third g v x y ≡ cond b j i
    go true e = third_last g v x y n.others n.at.four.yz (sym (eqb_is e))
    go false e =
        let m : among y (i ∷ j ∷ []) ≡ true =
        ap (among y) (sym n.others) ∙ among-without x y (λ q. xy (sym q)) (partners g v) ∙ y-in in
        third-first g v x y n.others n.at.four.yz
        (eqb_is (rw (ne_eqb y i (λ q. eqb-false i y e (sym q)), or-false) at m))

-- ── the refusals in order ──
module _ (g : Network) (t : Step) where
  pub no_end : touches g t.v g.reserved ≡ false → 8 ≡ step_refusal g t
  unfolding step_refusal
  no_end h = rw h

  module _ {v : ℕ} (at_v : t.v ≡ v) (held : touches g v g.reserved ≡ true) where
    pub no-partner-x : among t.x (partners g v) ≡ false → 9 ≡ step_refusal g t
    unfolding step_refusal
    no-partner-x h = rw (at_v, held, h)

    module _ (x_in : among t.x (partners g v) ≡ true) where
      pub no-partner-y : among t.y (partners g v) ≡ false → 9 ≡ step_refusal g t
      unfolding step_refusal
      no-partner-y h = rw (at_v, held, x_in, h)

      module _ (y-in : among t.y (partners g v) ≡ true) where
        pub one-partner : t.x ≡ t.y → 9 ≡ step_refusal g t
        unfolding step_refusal
        one-partner e = rw (at_v, held, x_in, y-in, eq-eqb t.x t.y e)

        module _ (different : t.x ≢ t.y) where
          pub not-admissible-x : admissible g v t.x ≡ false → 10 ≡ step_refusal g t
          unfolding step_refusal
          not-admissible-x h = rw (at_v, held, x_in, y-in, ne_eqb t.x t.y different, h)

          module _ (x-ok : admissible g v t.x ≡ true) where
            pub not-admissible-y : admissible g v t.y ≡ false → 10 ≡ step_refusal g t
            unfolding step_refusal
            not-admissible-y h = rw (at_v, held, x_in, y-in, ne_eqb t.x t.y different, x-ok, h)

            module _ (y-ok : admissible g v t.y ≡ true) where
              pub x-cheaper : lt_z (cost_of g t.x) (cost_of g t.y) ≡ true → 11 ≡ step_refusal g t
              unfolding step_refusal
              x-cheaper h = rw (at_v, held, x_in, y-in, ne_eqb t.x t.y different, x-ok, y-ok, h)

              module _ (no_cheaper : lt_z (cost_of g t.x) (cost_of g t.y) ≡ false) {z : ℕ}
                  (z-is : third g v t.x t.y ≡ z) where
                tested : step_refusal g t ≡ cond (names g t z) 0 NOT_GIVEN
                unfolding step_refusal names
                tested =
                    rw (
                      at_v,
                      held,
                      x_in,
                      y-in,
                      ne_eqb t.x t.y different,
                      x-ok,
                      y-ok,
                      no_cheaper,
                      z-is,
                    )

                pub not-given : names g t z ≡ false → 17 ≡ step_refusal g t
                not-given n = sym (tested ∙ rw n)

                pub by-rule : names g t z ≡ true → 0 ≡ step_refusal g t
                by-rule n = sym (tested ∙ rw n)
