-- Two vertices are left: the last three edges, and what the ending keeps.
use mathlib.Core.Path.{◌≡◌, refl, sym, ◌∙◌, ap}
use mathlib.Core.Logic.{◌≢◌, inl, inr, ⊎_elim}
use mathlib.Core.Bool.{Bool, true, false, not, cond, ◌&&◌, or-true}
use mathlib.Core.List.{List, [], ◌∷◌}
use Prim.Native.Nat.{ℕ, ◌+◌, ◌<◌}
use native.Mathlib.Omega.{arith}
use native.Mathlib.Decide.{ℕ_discrete}
use lib.Dec.{eqb}
use lib.IntN.{ℤ, pos, ◌*ℤ◌}
use lib.Signed.{le_z, ◌≤ℤ◌}
use Rattle.base.specs.Fold.{among}
use Rattle.graph.specs.Network.{low_end, high_end, cost_of, here, touches, ends_at, cost_over, kept, unreserved}
use Rattle.graph.specs.Network.{kept_cost, all_but_reserved}
use Rattle.graph.specs.Cut.{Side, differ, crosses, crossings_of, Divides, EveryCutOf}
use Rattle.graph.specs.Split.{is_partner, partners}
use Rattle.graph.specs.Chain.{last_edges, dearest, LastEdge, EndingByRule}
use Rattle.graph.specs.Back.{EndKeeps}
use Rattle.graph.specs.Sound.{Sound}
use Rattle.graph.specs.Condition.{Good}
use Rattle.graph.specs.declared.Network.{Network}
use Rattle.base.proofs.Bools.{never, eqb-self, eqb_no, and_left, and_right}
use Rattle.base.proofs.Sums.{sum-change-four, sum_zeros}
use Rattle.base.proofs.Picks.{pick-ext, pick-among, among-pick}
use Rattle.base.proofs.Integers.{P, N, nothing, times-P, times-N, ≤ℤ-is, is-≤ℤ, sumℤ-four}
use Rattle.graph.proofs.Stars.{counted, Runs, runs-crosses, Star}
use Rattle.graph.proofs.Partners.{another, no_third, touch-ends, touches_at, touches-ends, no_loop, runs_here}
use Rattle.graph.proofs.Partners.{three-partners, star, Chosen, chosen, among-without}

-- a dearest of a list is dearer than each of it
pub dearest-at : (g : Network) (d e : ℕ) (l : List ℕ) → dearest g d l ≡ true → among e l ≡ true
    → le_z (cost_of g e) (cost_of g d) ≡ true
unfolding dearest among
dearest-at g d e [] h m = never m
dearest-at g d e (k ∷ l) h m = elim (ℕ_discrete e k) [
  | yes q ↦ rw q (and_left _ _ h)
  | no q ↦ dearest-at g d e l (and_right (le_z (cost_of g k) (cost_of g d)) _ h) (rw (eqb_no q) at m)
]

-- the last three as a list and as a rule
module _ (g : Network) where
  pub last_of : (e : ℕ) → among e (last_edges g) ≡ true → LastEdge g e
  unfolding last_edges
  last_of e h =
      let w = pick-among g.edges 0 (λ e. here g (low_end g e) && not (eqb e g.reserved)) e h in
      record {
        number = omega (arith, w.1);
        not_retired = and_left (here g (low_end g e)) (not (eqb e g.reserved)) w.2;
        not_reserved = λ q. never
            (rw (q, eqb-self) at (and_right (here g (low_end g e)) (not (eqb e g.reserved)) w.2));
      }

  pub of-last : (e : ℕ) → LastEdge g e → among e (last_edges g) ≡ true
  unfolding last_edges
  of-last e p =
      among-pick g.edges 0 (λ e. here g (low_end g e) && not (eqb e g.reserved)) e (omega arith)
      (omega (arith, p.number)) (rw (p.not_retired, eqb_no p.not_reserved))

  pub not_last : (e : ℕ) → among e (last_edges g) ≡ false → LastEdge g e → ⊥
  not_last e h p = never (sym h ∙ of-last e p)

module _ {g : Network} (sound : Sound g) (two : g.remaining ≡ 2) where
  -- the two vertices: the low end of the reserved edge, and the other one
  abbrev pub v : ℕ
  v = low_end g g.reserved

  pub v_here : here g v ≡ true
  v_here = sound.held

  pub o : ℕ
  o = (another sound.formed (omega arith) v v_here).0

  pub o-here : here g o ≡ true
  unfolding o
  o-here = (another sound.formed (omega arith) v v_here).1

  pub o≢v : o ≢ v
  unfolding o
  o≢v = (another sound.formed (omega arith) v v_here).2

  pub held-v : touches g v g.reserved ≡ true
  unfolding touches
  held-v = rw eqb-self

  -- a present vertex other than v is o
  is-o : (w : ℕ) → here g w ≡ true → w ≢ v → w ≡ o
  is-o w h ne = no_third sound.formed two v o w v_here o-here o≢v h ne

  no-loop-o : (e : ℕ) → e < g.edges → low_end g e ≡ o → high_end g e ≡ o → ⊥
  no-loop-o = no_loop sound o-here v_here (λ q. o≢v (sym q))

  -- an edge that is not retired ends at v: else both its ends are o, and there is no loop
  touches-here : (e : ℕ) → e < g.edges → touches g v e ≡ here g (low_end g e)
  touches-here e l = go (here g (low_end g e)) refl
    where
      live : here g (low_end g e) ≡ true → touches g v e ≡ true
      live h = elim (ℕ_discrete (low_end g e) v) [
        | yes q ↦ touches_at g v e (inl q)
        | no ne ↦
            elim (ℕ_discrete (high_end g e) v) [
              | yes q ↦ touches_at g v e (inr q)
              | no nh ↦
                  let lo = is-o (low_end g e) h ne in
                  absurd (no-loop-o e l lo
                  (⊎_elim (λ j. is-o (high_end g e) j.1 nh) (λ q. sym q ∙ lo) (sound.joins e l)))
            ]
      ]

      dead : here g (low_end g e) ≡ false → touches g v e ≡ true → ⊥
      dead h t = ⊎_elim (λ q. never (sym h ∙ ap (here g) q ∙ v_here))
          (λ q. ⊎_elim (λ j. never (sym h ∙ j.0)) (λ k. never (sym h ∙ ap (here g) (k ∙ q) ∙ v_here))
          (sound.joins e l))
          (touches-ends g v e t)

      go : (t : Bool) → here g (low_end g e) ≡ t → touches g v e ≡ here g (low_end g e)
      go true h = live h ∙ sym h
      go false h = pick-false (touches g v e) refl ∙ sym h
        where
          pick-false : (t : Bool) → touches g v e ≡ t → touches g v e ≡ false
          pick-false true k = absurd (dead h k)
          pick-false false k = k

  -- the last three edges are the partners at v
  pub last-is : last_edges g ≡ partners g v
  unfolding last_edges partners is_partner
  last-is = pick-ext g.edges 0 _ _
      (λ e a b. ap (λ t. t && not (eqb e g.reserved)) (sym (touches-here e (omega arith))))

  -- a cut parts the two
  parted : (S : Side) → Divides g S → differ (S v) (S o) ≡ 1
  unfolding differ
  parted S d = go (S v) (S o) refl refl
    where
      all_in : (t : Bool) → S v ≡ t → S o ≡ t → (w : ℕ) → here g w ≡ true → S w ≡ t
      all_in t p q w h = elim (ℕ_discrete w v) [ yes e ↦ ap S e ∙ p | no e ↦ ap S (is-o w h e) ∙ q ]

      go : (a b : Bool) → S v ≡ a → S o ≡ b → differ (S v) (S o) ≡ 1
      go true true p q = never (sym d.outer_out ∙ all_in true p q d.outer d.outer_here)
      go false false p q = never (sym (all_in false p q d.inner d.inner_here) ∙ d.inner_in)
      go true false p q = rw (p, q)
      go false true p q = rw (p, q)

  -- an edge that is none of the four at v costs nothing
  costless : (e : ℕ) → e < g.edges → ends_at g v e ≡ 0 → cost_of g e ≡ pos 0
  costless e l h = sound.free e l (sym (touches-here e l) ∙ go (touches g v e) refl)
    where
      go : (t : Bool) → touches g v e ≡ t → touches g v e ≡ false
      go false q = q
      go true q = absurd (omega (arith, h, touch-ends g v e q))

  -- d is dropped, and K are the marks of the other two
  module _ {d u : ℕ} (w : Chosen g v u d) {K : List Bool} (k : EndKeeps g d K) where
    s : Star g v d w.y w.z u w.a w.b w.c
    s = w.at

    far-is : {e f : ℕ} → e < g.edges → Runs g e v f → f ≢ v → f ≡ o
    far-is {f = f} l t ne = is-o f (runs_here sound l t v_here) ne

    -- of the last three, all but d are y and z
    among_two : (e : ℕ) → e ≢ d → among e (last_edges g) ≡ among e (w.y ∷ w.z ∷ [])
    among_two e ne = ap (among e) last-is ∙ sym (among-without d e ne (partners g v)) ∙ ap (among e) w.others

    y-last : LastEdge g w.y
    y-last = last_of g w.y (among_two w.y (λ e. w.at.four.xy (sym e)) ∙ unfold among in rw eqb-self)

    z-last : LastEdge g w.z
    z-last = last_of g w.z
        (among_two w.z (λ e. w.at.four.xz (sym e)) ∙ unfold among in rw (eqb-self w.z, or-true))

    kept_reserved : kept K g.reserved ≡ false
    kept_reserved = k.rest g.reserved (λ p. p.not_reserved refl) w.at.four.rx

    kept-y : kept K w.y ≡ true
    kept-y = k.others w.y y-last (λ e. w.at.four.xy (sym e))

    kept-z : kept K w.z ≡ true
    kept-z = k.others w.z z-last (λ e. w.at.four.xz (sym e))

    kept-other : (e : ℕ) → e ≢ d → e ≢ w.y → e ≢ w.z → kept K e ≡ false
    kept-other e nd ny nz = k.rest e (λ p. never (out ∙ of-last g e p)) nd
      where
        out : false ≡ among e (last_edges g)
        out = sym (among_two e nd ∙ unfold among in rw (eqb_no ny, eqb_no nz))

    -- the two kept edges join v and o, and a cut parts these
    end-twice : EveryCutOf 2 g (kept K)
    unfolding crossings_of s
    end-twice S D =
        let p : ℕ → ℕ = λ e. cond (kept K e) (crosses g S e) 0 in
        let one = parted S D in
        let py : p w.y ≡ 1 = rw (kept-y, runs-crosses S s.to_b, far-is s.four.y< s.to_b s.b≢) one in
        let pz : p w.z ≡ 1 = rw (kept-z, runs-crosses S s.to_c, far-is s.four.z< s.to_c s.c≢) one in
        omega (
          arith,
          sum_zeros g.edges,
          py,
          pz,
          sum-change-four s.four p (λ e. 0) (λ e l nr nx ny nz. rw (kept-other e nx ny nz)),
        )

    kept_is : P (kept_cost g K) + (N (cost_of g w.y) + N (cost_of g w.z))
        ≡ N (kept_cost g K) + (P (cost_of g w.y) + P (cost_of g w.z))
    unfolding cost_over P N
    kept_is =
        let p : ℕ → ℤ = λ e. cond (kept K e) (cost_of g e) (pos 0) in
        let z = sumℤ-four s.four p (λ e l nr nx ny nz. rw (kept-other e nx ny nz)) (pos 0) (pos 0) (cost_of g w.y)
        (cost_of g w.z) (rw kept_reserved) (rw k.dropped) (rw kept-y) (rw kept-z) in
        omega (arith, z)

    all-is : P (all_but_reserved g) + (N (cost_of g d) + N (cost_of g w.y) + N (cost_of g w.z))
        ≡ N (all_but_reserved g) + (P (cost_of g d) + P (cost_of g w.y) + P (cost_of g w.z))
    unfolding cost_over P N
    all-is =
        let p : ℕ → ℤ = λ e. cond (unreserved g e) (cost_of g e) (pos 0) in
        let q = s.four in
        let apart : (e : ℕ) → g.reserved ≢ e → p e ≡ cost_of g e =
        λ e ne. ap (λ t. cond t (cost_of g e) (pos 0)) (counted g e ne) in
        let z = sumℤ-four q p
        (λ e l nr nx ny nz. rw (costless e l (s.rest e l nr nx ny nz)) (nothing (unreserved g e))) (pos 0)
        (cost_of g d) (cost_of g w.y) (cost_of g w.z) (rw (eqb-self g.reserved)) (apart d q.rx)
        (apart w.y q.ry) (apart w.z q.rz) in
        omega (arith, z)

    -- twice a dearest is no less than the two others, so three times these are at most twice all three
    end-ratio : EndingByRule g d → (pos 3 *ℤ kept_cost g K) ≤ℤ (pos 2 *ℤ all_but_reserved g)
    end-ratio r =
        let C = kept_cost g K in
        let A = all_but_reserved g in
        is-≤ℤ (omega (
          arith,
          kept_is,
          all-is,
          times-P 3 C,
          times-N 3 C,
          times-P 2 A,
          times-N 2 A,
          ≤ℤ-is (r.no_dearer w.y y-last),
          ≤ℤ-is (r.no_dearer w.z z-last),
        ))

  -- an ending by rule keeps a good set: the other two cross every cut, and cost at most twice the dropped one
  pub end-good : {d : ℕ} {K : List Bool} → EndingByRule g d → EndKeeps g d K → Good g K
  end-good {d} r k =
      let ps = three-partners sound v_here o-here o≢v held-v in
      let m : among d (partners g v) ≡ true = rw last-is at (of-last g d r.one) in
      let w = chosen (star sound v_here o-here o≢v held-v ps.3) ps.3 d m in
      record { sized = k.sized; leaves_out = kept_reserved w k; twice = end-twice w k; ratio = end-ratio w k r }
