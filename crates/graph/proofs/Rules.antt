-- The check of a step and of an ending says what the rules say.
use mathlib.Core.Path.{◌≡◌, refl, sym, ◌∙◌, ap, ap₂}
use mathlib.Core.Logic.{◌≢◌, ◌⊎◌}
use mathlib.Core.Bool.{Bool, true, false, not, cond, ◌&&◌, or-false, or-true}
use mathlib.Core.List.{List, [], ◌∷◌}
use Prim.Native.Nat.{ℕ, suc, ◌≤◌}
use native.Mathlib.Omega.{arith}
use native.Mathlib.Decide.{ℕ_discrete}
use lib.Dec.{eqb}
use lib.Signed.{le_z, ◌≤ℤ◌}
use Rattle.base.specs.Fold.{only, among}
use Rattle.graph.specs.Network.{cost_of, same_cost, here, touches, far, low_end, high_end}
use Rattle.graph.specs.Cut.{EveryCut}
use Rattle.graph.specs.Split.{is_partner, partners, split, Admissible, admissible, third, step_given, after}
use Rattle.graph.specs.Split.{swapped}
use Rattle.graph.specs.Chain.{step_refusal, last_edges, dearest, end_refusal, Partner, StepByRule, EndingByRule}
use Rattle.graph.specs.Sound.{Formed, Sound}
use Rattle.graph.specs.declared.Network.{Network}
use Rattle.graph.specs.declared.Step.{Step}
use Rattle.base.proofs.Bools.{never, true-T, T_true, eqb-self, eqb_no, eqb_is, and_left, and_right, and_both}
use Rattle.base.proofs.Picks.{pick-among, among-pick}
use Rattle.graph.proofs.EveryCut.{every-cut-sound, every-cut-complete}
use Rattle.graph.proofs.Stars.{differ_comm, Runs, forward, backward, Star, swap-others, crossings-split, cost-z}
use Rattle.graph.proofs.Partners.{another, touch-ends, touches_at, touches-ends, touches-runs, runs_here}
use Rattle.graph.proofs.Partners.{three-partners, starts-at, star, Chosen, chosen, among-without}
use Rattle.graph.proofs.Splitting.{split-with, formed-after, sound-after}
use Rattle.base.proofs.Integers.{≤ℤ-is, is-≤ℤ, lt-isnt, not-lt}
use Rattle.graph.proofs.Differences.{same-cost, cost-same}
use Rattle.graph.proofs.Endings.{dearest-at, last_of, of-last}

-- ── partners ──
module _ (g : Network) (v e : ℕ) where
  pub partner-of : among e (partners g v) ≡ true → Partner g v e
  unfolding partners is_partner
  partner-of h =
      let w = pick-among g.edges 0 (is_partner g v) e h in
      record {
        number = omega (arith, w.1);
        at_v = touches-ends g v e (and_left (touches g v e) _ w.2);
        not_reserved = λ q. never (rw (q, eqb-self) at (and_right (touches g v e) _ w.2));
      }

  pub of-partner : Partner g v e → among e (partners g v) ≡ true
  unfolding partners is_partner
  of-partner p = among-pick g.edges 0 (is_partner g v) e (omega arith) (omega (arith, p.number))
      (rw (touches_at g v e p.at_v, eqb_no p.not_reserved))

-- an end of the reserved edge is present
pub end-here : {g : Network} → Sound g → (v : ℕ) → touches g v g.reserved ≡ true → here g v ≡ true
end-here {g} sound v h = go (touches-runs g v g.reserved h)
  where
    go : {f : ℕ} → Runs g g.reserved v f → here g v ≡ true
    go (forward a b) = rw (← a) sound.held
    go (backward a b) = runs_here sound sound.formed.reserved_below (forward a b) (rw (← a) sound.held)

-- ── the partners that a step names ──

-- the order of the other two does not matter: b and c are parted as c and b are
either_order : {g : Network} → Formed g → {v x y z u a b c : ℕ} → Star g v x y z u a b c → EveryCut 4 (split g v x y z)
    → EveryCut 4 (split g v x z y)
unfolding split
either_order f {b = b} {c = c} s h S d =
    omega (
      arith,
      crossings-split f s S,
      crossings-split f (swap-others s) S,
      differ_comm (S b) (S c),
      h S (record {
        inner = d.inner;
        outer = d.outer;
        inner_here = d.inner_here;
        outer_here = d.outer_here;
        inner_in = d.inner_in;
        outer_out = d.outer_out;
      }),
    )

-- x, y and z are the three partners at v, and an admissible x may be split with
pub record Around (g : Network) (v x y z : ℕ) : Type 0 where
  pub u : ℕ
  pub a : ℕ
  pub b : ℕ
  pub c : ℕ
  pub at : Star g v x y z u a b c
  pub cuts : Admissible g v x → EveryCut 4 (split g v x y z)

around-are : (g : Network) (v x : ℕ) {y z j k u a b c : ℕ} → Star g v x j k u a b c → y ≡ j → z ≡ k
    → (Admissible g v x → EveryCut 4 (split g v x j k)) → Around g v x y z
around-are g v x {u = u} {a = a} {b = b} {c = c} s ey ez h =
    record { u = u; a = a; b = b; c = c; at = rw (ez, ey) s; cuts = rw (ez, ey) h }

module _ {g : Network} (sound : Sound g) (two : 2 ≤ g.remaining) (v : ℕ) (held : touches g v g.reserved ≡ true)
  where
    pub named : (x : ℕ) → among x (partners g v) ≡ true → Chosen g v (far g v g.reserved) x
    named x h =
        let hv = end-here sound v held in
        let o = another sound.formed two v hv in
        let ps = three-partners sound hv o.1 o.2 held in
        chosen (star sound hv o.1 o.2 held ps.3) ps.3 x h

    -- the computed test of a partner is the statement over all sides, as the network after its split is well formed
    pub admissible-sound : (x : ℕ) → among x (partners g v) ≡ true → admissible g v x ≡ true → Admissible g v x
    unfolding admissible
    admissible-sound x m h =
        let w = named x m in
        every-cut-sound _ (λ e. true)
        (rw (split-with g v x w.others) (formed-after sound.formed w.at (end-here sound v held))) h

    -- two partners and the third
    pub around : (x y : ℕ) → among x (partners g v) ≡ true → among y (partners g v) ≡ true → x ≢ y
        → Around g v x y (third g v x y)
    unfolding third among only
    around x y x_in y-in different =
        let w = named x x_in in
        let f = w.at.four in
        let cuts : Admissible g v x → EveryCut 4 (split g v x w.y w.z) =
        λ h. rw (split-with g v x w.others) at h in
        let y_of : among y (w.y ∷ w.z ∷ []) ≡ true =
        ap (among y) (sym w.others) ∙ among-without x y (λ k. different (sym k)) (partners g v) ∙ y-in in
        elim (ℕ_discrete y w.y) [
          | yes q ↦ around-are g v x w.at q
              (rw (q, w.others, eqb-self, eqb_no {a = w.z} {b = w.y} (λ k. f.yz (sym k)))) cuts
          | no q ↦ let yz : y ≡ w.z = eqb_is (rw (eqb_no q, or-false) at y_of) in
              around-are g v x (swap-others w.at) yz (rw (yz, w.others, eqb-self w.z, eqb_no f.yz))
              (λ h. either_order sound.formed w.at (cuts h))
        ]

-- the third of them is a partner, and there is no other: an edge at v is the reserved one, x, y or z
module _ {g : Network} {v x y z : ℕ} (w : Around g v x y z) where
  third-partner : Partner g v z
  third-partner =
      let f = w.at.four in
      record { number = f.z<; at_v = starts-at w.at.to_c; not_reserved = λ q. f.rz (sym q) }

  one-third : {e : ℕ} → Partner g v e → e ≢ x → e ≢ y → e ≡ z
  one-third {e} p not-x not-y = elim (ℕ_discrete e z) [
    | yes q ↦ q
    | no q ↦ absurd (omega (
      arith,
      w.at.rest e p.number p.not_reserved not-x not-y q,
      touch-ends g v e (touches_at g v e p.at_v),
    ))
  ]

pub admissible-complete : (g : Network) (v x : ℕ) → Admissible g v x → admissible g v x ≡ true
unfolding admissible
admissible-complete g v x h = every-cut-complete _ _ (λ e. true) h

-- ── a step ──
cond-zero : (b : Bool) (k n : ℕ) → cond b n (suc k) ≡ 0 → (b ≡ true) × (n ≡ 0)
cond-zero true k n h = (refl, h)
cond-zero false k n h = absurd (omega arith)

not-zero : (b : Bool) (k n : ℕ) → cond b (suc k) n ≡ 0 → (b ≡ false) × (n ≡ 0)
not-zero true k n h = absurd (omega arith)
not-zero false k n h = (refl, h)

-- a step that gives what is due is by rule: z is the third partner, and its cost is the one after the step
pub given-ruled : {g : Network} → Sound g → 2 ≤ g.remaining → (t : Step) → touches g t.v g.reserved ≡ true
    → among t.x (partners g t.v) ≡ true → among t.y (partners g t.v) ≡ true → t.x ≢ t.y
    → admissible g t.v t.x ≡ true → admissible g t.v t.y ≡ true → cost_of g t.y ≤ℤ cost_of g t.x
    → t ≡ step_given g t.v t.x t.y → StepByRule g t
given-ruled {g} sound two t held x_in y-in different x-ok y-ok no_cheaper due =
    let tested = admissible-sound sound two t.v held in
    let w = around sound two t.v held t.x t.y x_in y-in different in
    let f = w.at.four in
    let ez : t.z ≡ third g t.v t.x t.y = ap (λ t. t.z) due in
    record {
      at_end = touches-ends g t.v g.reserved held;
      x_partner = partner-of g t.v t.x x_in;
      y_partner = partner-of g t.v t.y y-in;
      different = different;
      x_admissible = tested _ (search) x-ok;
      y_admissible = tested _ (search) y-ok;
      no_cheaper = no_cheaper;
      z_partner = rw ez (third-partner w);
      z_not_x = λ q. f.xz (sym q ∙ ez);
      z_not_y = λ q. f.yz (sym q ∙ ez);
      z_cost = ap (λ t. t.cost) due ∙ rw ez;
    }

-- a step that is not refused keeps the rules: the refusals are tests in a row, and 0 says that each was passed
pub step-ruled : {g : Network} → Sound g → 2 ≤ g.remaining → (t : Step) → step_refusal g t ≡ 0 → StepByRule g t
unfolding step_refusal
step-ruled {g} sound two t h =
    let ps = partners g t.v in
    let due = step_given g t.v t.x t.y in
    let B = among t.x ps in
    let C = among t.y ps in
    let D = eqb t.x t.y in
    let E = admissible g t.v t.x in
    let Z = eqb t.z due.z in
    let eight = cond-zero (touches g t.v g.reserved) 7 _ h in
    let nine = cond-zero (B && C && not D) 8 _ eight.1 in
    let ten = cond-zero _ 9 _ nine.1 in
    let eleven = not-zero _ 10 _ ten.1 in
    let seventeen = (cond-zero (Z && same_cost t.cost due.cost) 16 0 eleven.1).0 in
    let x_in = and_left B C (and_left (B && C) (not D) nine.0) in
    let y-in = and_right B C (and_left (B && C) (not D) nine.0) in
    let z-is : t.z ≡ due.z = eqb_is (and_left Z _ seventeen) in
    let cost-is : t.cost ≡ due.cost = same-cost _ _ (and_right Z _ seventeen) in
    given-ruled sound two t eight.0 x_in y-in
    (λ e. never (rw (e, eqb-self t.y) at (and_right (B && C) (not D) nine.0))) (and_left E _ ten.0)
    (and_right E _ ten.0) (is-≤ℤ (lt-isnt (cost_of g t.x) (cost_of g t.y) eleven.0))
    (ap₂ (λ z c. record { v = t.v; x = t.x; y = t.y; z = z; cost = c }) z-is cost-is)

-- and a step by rule is not refused
pub ruled_step : {g : Network} → Sound g → 2 ≤ g.remaining → (t : Step) → StepByRule g t → step_refusal g t ≡ 0
unfolding step_refusal
ruled_step {g} sound two t r =
    let held = touches_at g t.v g.reserved r.at_end in
    let x_in = of-partner g t.v t.x r.x_partner in
    let y-in = of-partner g t.v t.y r.y_partner in
    let w = around sound two t.v held t.x t.y x_in y-in r.different in
    rw (
      held,
      x_in,
      y-in,
      eqb_no r.different,
      and_both (admissible-complete g t.v _ r.x_admissible) (admissible-complete g t.v _ r.y_admissible),
      not-lt (cost_of g t.x) (cost_of g t.y) (≤ℤ-is r.no_cheaper),
      ← one-third w r.z_partner r.z_not_x r.z_not_y,
      eqb-self t.z,
      r.z_cost,
      cost-same _,
    )

-- ── what a step by rule leaves ──
pub record Stepped (g : Network) (t : Step) : Type 0 where
  pub u : ℕ
  pub a : ℕ
  pub b : ℕ
  pub c : ℕ
  pub at : Star g t.v t.x t.y t.z u a b c
  pub v_here : here g t.v ≡ true
  pub cuts : EveryCut 4 (after g t)

-- splitting with an admissible partner x, the others being y and z
split_by : {g : Network} → Sound g → 2 ≤ g.remaining → (t : Step)
    → (low_end g g.reserved ≡ t.v) ⊎ (high_end g g.reserved ≡ t.v)
    → Partner g t.v t.x → Partner g t.v t.y → t.x ≢ t.y → Admissible g t.v t.x
    → Partner g t.v t.z → t.z ≢ t.x → t.z ≢ t.y → Stepped g t
unfolding after
split_by {g} sound two t at_end x_partner y_partner different x_admissible z_partner not-x not-y =
    let held = touches_at g t.v g.reserved at_end in
    let w = around sound two t.v held t.x t.y (of-partner g t.v t.x x_partner)
    (of-partner g t.v t.y y_partner) different in
    let ez = one-third w z_partner not-x not-y in
    record {
      u = w.u;
      a = w.a;
      b = w.b;
      c = w.c;
      at = rw ez w.at;
      v_here = end-here sound t.v held;
      cuts = rw ez (w.cuts x_admissible);
    }

pub stepped : {g : Network} → Sound g → 2 ≤ g.remaining → (t : Step) → StepByRule g t → Stepped g t
stepped sound two t r =
    split_by sound two t r.at_end r.x_partner r.y_partner r.different r.x_admissible r.z_partner
    r.z_not_x r.z_not_y

-- y too may be split with
swapped-stepped : {g : Network} → Sound g → 2 ≤ g.remaining → (t : Step) → StepByRule g t → Stepped g (swapped t)
swapped-stepped sound two t r =
    split_by sound two (swapped t) r.at_end r.y_partner r.x_partner (λ e. r.different (sym e))
    r.y_admissible r.z_partner r.z_not_y r.z_not_x

-- z costs after the step what the step says
pub cost-named : {g : Network} → Sound g → 2 ≤ g.remaining → (t : Step) → StepByRule g t
    → cost_of (after g t) t.z ≡ t.cost
unfolding after
cost-named sound two t r = cost-z sound.formed (stepped sound two t r).at ∙ sym r.z_cost

-- the network after a step by rule is sound, with one vertex less
pub sound-step : {g : Network} → Sound g → (t : Step) → Stepped g t → Sound (after g t)
unfolding after
sound-step sound t w = sound-after sound w.at w.v_here w.cuts

-- whichever of its partners is split with: for this a step tests both
pub sound-either : {g : Network} → Sound g → 2 ≤ g.remaining → (t : Step) → StepByRule g t
    → Sound (after g t) × Sound (after g (swapped t))
sound-either sound two t r =
    (sound-step sound t (stepped sound two t r), sound-step sound (swapped t) (swapped-stepped sound two t r))

-- ── an ending ──
module _ (g : Network) where
  pub dearest-in : (d : ℕ) (l : List ℕ) → ((e : ℕ) → among e l ≡ true → le_z (cost_of g e) (cost_of g d) ≡ true)
      → dearest g d l ≡ true
  unfolding dearest among
  dearest-in d [] h = refl
  dearest-in d (k ∷ l) h = rw (h k (rw eqb-self), dearest-in d l (λ e m. h e (rw (m, or-true))))

  -- an ending that is not refused drops a dearest of the last three, and one by rule is not refused
  pub ending-ruled : (d : ℕ) → end_refusal g d ≡ 0 → EndingByRule g d
  unfolding end_refusal
  ending-ruled d h =
      let b = (cond-zero (among d (last_edges g) && dearest g d (last_edges g)) 11 0 h).0 in
      record {
        one = last_of g d (and_left (among d (last_edges g)) (dearest g d (last_edges g)) b);
        no_dearer = λ e l. record {
          le = true-T (dearest-at g d e (last_edges g)
              (and_right (among d (last_edges g)) (dearest g d (last_edges g)) b) (of-last g e l));
        };
      }

  pub ruled-ending : (d : ℕ) → EndingByRule g d → end_refusal g d ≡ 0
  unfolding end_refusal
  ruled-ending d r =
      rw (of-last g d r.one, dearest-in d (last_edges g) (λ e m. T_true (r.no_dearer e (last_of g e m)).le))
