-- How the tests of an ending decide what is kept.
use mathlib.Core.Path.{◌≡◌, refl, sym, ◌∙◌, ap}
use mathlib.Core.Logic.{◌≢◌}
use mathlib.Core.Bool.{Bool, true, false, not, cond, ◌&&◌, or-false, or-true}
use mathlib.Core.List.{[], ◌∷◌}
use Prim.Native.Nat.{ℕ, ◌<◌}
use native.Mathlib.Omega.{arith}
use native.Mathlib.Decide.{ℕ_discrete}
use lib.ListN.{length, get_or, set, replicate, length-set, length-replicate, get_or-replicate}
use lib.Seq.{ext_get_or, get_or-set_same, get_or-set_other}
use lib.IntN.{ℤ}
use lib.Signed.{le_z, lt_z}
use Rattle.base.specs.Fold.{without, among, tabulate}
use Rattle.graph.specs.Network.{low_end, cost_of}
use Rattle.graph.specs.Split.{partners}
use Rattle.graph.specs.Chain.{last_edges, dearest, end_refusal, marks, end_kept}
use Rattle.graph.specs.Plan.{dearest_of, chosen_drop}
use Rattle.incidence.specs.Partners.{first_three}
use Rattle.base.specs.Limits.{edge_limit}
use Rattle.graph.specs.declared.Network.{Network}
use Rattle.incidence.specs.declared.partners.Partners.{Partners}
use Rattle.base.proofs.Bools.{eqb-self, eqb_no, eqb_is}
use Rattle.base.proofs.Sums.{tabulate-length, tabulate-at}
use Rattle.base.proofs.Integers.{le_test, le_is, lt-is, lt-isnt}
use Rattle.graph.proofs.Partners.{first-others, second-others, third-others, chosen, among-without}
use Rattle.graph.proofs.Endings.{dearest-at, of-last, held-v, last-is}
use Rattle.graph.proofs.Rules.{dearest-in, ending-ruled}
use Rattle.graph.proofs.Backs.{end-marks}
use Rattle.rules.specs.declared.ending.Drop.{Drop}
use Rattle.rules.specs.Running.{Last}
use Rattle.base.specs.Refusals.{NOT_DEAREST}
use Rattle.rules.specs.Endings.{kept_with, chosen_ending}
use Rattle.rules.proofs.Trios.{Trio, trio}
use Rattle.rules.proofs.Judging.{Named}

-- at most is not more than
le_not_lt : (a b : ℤ) → le_z a b ≡ not (lt_z b a)
le_not_lt a b = go (lt_z b a) refl
  where
    more : lt_z b a ≡ true → (t : Bool) → le_z a b ≡ t → le_z a b ≡ false
    more h true e = absurd (omega (arith, le_is a b e, lt-is b a h))
    more h false e = e

    go : (t : Bool) → lt_z b a ≡ t → le_z a b ≡ not t
    go true h = more h (le_z a b) refl
    go false h = le_test a b (lt-isnt b a h)

-- ── the last three ──
module _ {g : Network} (l : Last g) where
  pub last-three : last_edges g ≡ partners g (low_end g g.reserved)
  last-three = last-is l.run.sound l.two

  pub last-trio : (p : Partners) → p ≡ first_three (last_edges g)
      → Trio g (low_end g g.reserved) p.first p.second p.third
  last-trio p e =
      trio l.run (low_end g g.reserved) (held-v l.run.sound l.two) p (e ∙ ap first_three last-three)

-- ── a proposed ending ──
module _ {g : Network} (l : Last g) (d : ℕ) where
  pub none-of-last : among d (partners g (low_end g g.reserved)) ≡ false → NOT_DEAREST ≡ end_refusal g d
  unfolding end_refusal
  none-of-last h = rw (last-three l, h)

  module _ {i j : ℕ} (n : Named g (low_end g g.reserved) d i j) where
    -- an edge of the last three is d, i or j
    one_of : (e : ℕ) → among e (last_edges g) ≡ true → (P : ℕ → Type 0) → P d → P i → P j → P e
    unfolding among
    one_of e m P pd pi pj =
        elim (ℕ_discrete e d) [
          | yes q ↦ rw q pd
          | no nd ↦
              let k : among e (i ∷ j ∷ []) ≡ true =
              ap (among e) (sym n.others)
              ∙ among-without d e nd (partners g (low_end g g.reserved))
              ∙ ap (among e) (sym (last-three l))
              ∙ m in
              elim (ℕ_discrete e i) [
                | yes q ↦ rw q pi
                | no ni ↦
                    let q : e ≡ j = eqb_is (rw (eqb_no ni, or-false) at k) in
                    rw q pj
              ]
        ]

    in-last : (e : ℕ) → among e (i ∷ j ∷ []) ≡ true → e ≢ d → among e (last_edges g) ≡ true
    in-last e h nd =
        ap (among e) (last-three l)
        ∙ sym (among-without d e nd (partners g (low_end g g.reserved)))
        ∙ ap (among e) n.others
        ∙ h

    cheap : (e : ℕ) → among e (last_edges g) ≡ true → lt_z (cost_of g d) (cost_of g e) ≡ true → NOT_DEAREST ≡ end_refusal g d
    unfolding end_refusal
    cheap e m h = go (dearest g d (last_edges g)) refl
      where
        go : (t : Bool) → dearest g d (last_edges g) ≡ t
            → NOT_DEAREST ≡ cond (among d (last_edges g) && dearest g d (last_edges g)) 0 NOT_DEAREST
        go true q =
            absurd (omega (
              arith,
              le_is (cost_of g e) (cost_of g d) (dearest-at g d e (last_edges g) q m),
              lt-is (cost_of g d) (cost_of g e) h,
            ))
        go false q = rw (ap (among d) (last-three l) ∙ n.x_in, q)

    pub cheaper-low : lt_z (cost_of g d) (cost_of g i) ≡ true → NOT_DEAREST ≡ end_refusal g d
    unfolding among
    cheaper-low = cheap i (in-last i (rw eqb-self) (λ e. n.at.four.xy (sym e)))

    pub cheaper-high : lt_z (cost_of g d) (cost_of g j) ≡ true → NOT_DEAREST ≡ end_refusal g d
    unfolding among
    cheaper-high = cheap j (in-last j (rw (eqb-self j, or-true)) (λ e. n.at.four.xz (sym e)))

    pub dearer-two : lt_z (cost_of g d) (cost_of g i) ≡ false → lt_z (cost_of g d) (cost_of g j) ≡ false
        → 0 ≡ end_refusal g d
    unfolding end_refusal
    dearer-two hi hj =
        let dear : dearest g d (last_edges g) ≡ true =
        dearest-in g d (last_edges g) (λ e m. one_of e m (λ e. le_z (cost_of g e) (cost_of g d) ≡ true)
        (le_test (cost_of g d) (cost_of g d) (omega arith)) (le_not_lt (cost_of g i) (cost_of g d) ∙ ap not hi)
        (le_not_lt (cost_of g j) (cost_of g d) ∙ ap not hj)) in
        rw (ap (among d) (last-three l) ∙ n.x_in, dear)

-- the two edges that an ending by rule keeps, and their marks
module _ {g : Network} (l : Last g) (d : ℕ) (passed : end_refusal g d ≡ 0) where
  pub record Two (i j : ℕ) : Type 0 where
    pub low_below : i < edge_limit
    pub high_below : j < edge_limit
    pub marks_are : end_kept g d ≡ tabulate edge_limit (λ e. among e (i ∷ j ∷ []))

  pub two-of : (i j : ℕ) → i ≡ get_or (kept_with g d) 0 0 → j ≡ get_or (kept_with g d) 1 0 → Two i j
  unfolding marks
  two-of i j ei ej =
      let t = last-trio l (first_three (last_edges g)) refl in
      let w = chosen t.at t.listed d (ap (among d) (sym (last-three l)) ∙ of-last g d (ending-ruled g d passed).one) in
      let others : kept_with g d ≡ w.y ∷ w.z ∷ [] = ap (without d) (last-three l) ∙ w.others in
      let qi : i ≡ w.y = rw others at ei in
      let qj : j ≡ w.z = rw others at ej in
      record {
        low_below = omega (arith, qi, w.at.four.y<, l.run.edge_room);
        high_below = omega (arith, qj, w.at.four.z<, l.run.edge_room);
        marks_are = end-marks g d ∙ rw (l.run.long, others, qi, qj);
      }

-- ── the planner's ending ──
module _ {g : Network} (l : Last g) {x y z : ℕ} (t : Trio g (low_end g g.reserved) x y z) where
  listed : last_edges g ≡ x ∷ y ∷ z ∷ []
  listed = last-three l ∙ t.listed

  -- what is dropped, and the others
  ends_with : (d i j : ℕ) → dearest_of g x (x ∷ y ∷ z ∷ []) ≡ d
      → without d (partners g (low_end g g.reserved)) ≡ i ∷ j ∷ []
      → ◌≡◌ {A = Drop} (record { dropped = d; low = i; high = j }) (chosen_ending g)
  unfolding chosen_ending chosen_drop
  ends_with d i j e o = let q : chosen_drop g ≡ d = rw listed e in rw (q, last-three l, o)

  same : le_z (cost_of g x) (cost_of g x) ≡ true
  same = le_test (cost_of g x) (cost_of g x) (omega arith)

  pub drops-first : lt_z (cost_of g y) (cost_of g x) ≡ true → lt_z (cost_of g z) (cost_of g x) ≡ true
      → ◌≡◌ {A = Drop} (record { dropped = x; low = y; high = z }) (chosen_ending g)
  unfolding dearest_of
  drops-first h k =
      ends_with x y z (rw (same, le_not_lt (cost_of g x) (cost_of g y), h, le_not_lt (cost_of g x) (cost_of g z), k))
      (first-others t.at t.listed)

  pub drops-third-of-first : lt_z (cost_of g y) (cost_of g x) ≡ true → lt_z (cost_of g z) (cost_of g x) ≡ false
      → ◌≡◌ {A = Drop} (record { dropped = z; low = x; high = y }) (chosen_ending g)
  unfolding dearest_of
  drops-third-of-first h k =
      ends_with z x y (rw (same, le_not_lt (cost_of g x) (cost_of g y), h, le_not_lt (cost_of g x) (cost_of g z), k))
      (third-others t.at t.listed)

  pub drops-second : lt_z (cost_of g y) (cost_of g x) ≡ false → lt_z (cost_of g z) (cost_of g y) ≡ true
      → ◌≡◌ {A = Drop} (record { dropped = y; low = x; high = z }) (chosen_ending g)
  unfolding dearest_of
  drops-second h k =
      ends_with y x z (rw (same, le_not_lt (cost_of g x) (cost_of g y), h, le_not_lt (cost_of g y) (cost_of g z), k))
      (second-others t.at t.listed)

  pub drops-third : lt_z (cost_of g y) (cost_of g x) ≡ false → lt_z (cost_of g z) (cost_of g y) ≡ false
      → ◌≡◌ {A = Drop} (record { dropped = z; low = x; high = y }) (chosen_ending g)
  unfolding dearest_of
  drops-third h k =
      ends_with z x y (rw (same, le_not_lt (cost_of g x) (cost_of g y), h, le_not_lt (cost_of g y) (cost_of g z), k))
      (third-others t.at t.listed)

-- ── marks ──

-- two marks set among none
pub two-marks : (n i j : ℕ) → i < n → j < n
    → set (set (replicate n false) i true) j true ≡ tabulate n (λ e. among e (i ∷ j ∷ []))
two-marks n i j hi hj =
    let long : length (replicate n false) ≡ n = length-replicate n false in
    ext_get_or false _ _ (simp (length-set, tabulate-length) long) (λ e l. at e (omega (arith, simp length-set at l)))
  where
    at : (e : ℕ) → e < n
        → get_or (set (set (replicate n false) i true) j true) e false
        ≡ get_or (tabulate n (λ e. among e (i ∷ j ∷ []))) e false
    at e l = mark (ℕ_discrete e j) (ℕ_discrete e i) ∙ sym (tabulate-at n (λ e. among e (i ∷ j ∷ [])) false e l)
      where
        mark : Dec (e ≡ j) → Dec (e ≡ i)
            → get_or (set (set (replicate n false) i true) j true) e false ≡ among e (i ∷ j ∷ [])
        mark (yes q) k = unfold among in
            let r : j < length (set (replicate n false) i true) = simp (length-set, length-replicate) hj in
            rw (q, get_or-set_same (set (replicate n false) i true) j true false r, eqb-self j, or-true)
        mark (no q) (yes k) = unfold among in
            let r : i < length (replicate n false) = simp length-replicate hi in
            rw (
              get_or-set_other (set (replicate n false) i true) j e true false q,
              k,
              get_or-set_same (replicate n false) i true false r,
              eqb-self i,
            )
        mark (no q) (no k) = unfold among in
            rw (
              get_or-set_other (set (replicate n false) i true) j e true false q,
              get_or-set_other (replicate n false) i e true false k,
              get_or-replicate n e false false l,
              eqb_no k,
              eqb_no q,
            )
