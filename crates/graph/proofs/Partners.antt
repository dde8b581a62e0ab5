-- A vertex of a sound network has four edges to other vertices; at
-- an end of the reserved edge, that edge and three partners.
use mathlib.Core.Path.{◌≡◌, refl, sym, ◌∙◌, ap}
use mathlib.Core.Logic.{◌≢◌, ◌⊎◌, inl, inr, ⊎_elim}
use mathlib.Core.Bool.{Bool, true, false, cond, ◌&&◌, ◌||◌, and-true, or-true, or-false}
use mathlib.Core.List.{List, [], ◌∷◌}
use Prim.Native.Nat.{ℕ, suc, ◌+◌, ◌*◌, ◌≤◌, ◌<◌}
use native.Mathlib.Omega.{arith}
use native.Mathlib.Nat.{zero-add}
use native.Mathlib.Decide.{ℕ_discrete, dec_lt}
use lib.Dec.{eqb}
use lib.ListN.{length}
use Rattle.base.specs.Fold.{fold, sum, bit, only, without, among}
use Rattle.graph.specs.Network.{low_end, high_end, here, ends_at, degree, touches, far}
use Rattle.graph.specs.Cut.{Side, differ, crosses, crossings_of}
use Rattle.graph.specs.Split.{is_partner, partners}
use Rattle.graph.specs.Sound.{Formed, Sound}
use Rattle.graph.specs.declared.Network.{Network}
use Rattle.base.proofs.Bools.{never, eqb-self, eqb_no, eqb_is, and_left, and_right, bit-true}
use Rattle.base.proofs.Sums.{sum-ext, sum-add, sum-change, sum-zero-at, sum-positive, sum-out, term-le, out, out-same}
use Rattle.base.proofs.Sums.{out-other}
use Rattle.base.proofs.Picks.{pick-length, Picked, pick-cons, pick-nil}
use Rattle.graph.proofs.Stars.{Runs, forward, backward, Star, swap-others, swap-first}

-- ── present vertices ──

-- where two vertices are present, one is not v
pub another : {g : Network} → Formed g → 2 ≤ g.remaining → (v : ℕ) → here g v ≡ true
    → (o : ℕ) × (here g o ≡ true) × (o ≢ v)
another {g} f h v hv =
    let n = g.vertices in
    let p : ℕ → ℕ = λ w. bit (here g w) in
    let w = sum-positive n (out v p) (omega (arith, f.counted, sum-out n v p (f.here_below v hv), ap bit hv)) in
    let ne : w.0 ≢ v = λ e. omega (arith, w.1, ap (out v p) e, out-same v p) in
    (w.0, bit-true (here g w.0) (omega (arith, w.1, out-other v p w.0 ne)), ne)

-- where two are present, there is no third
pub no_third : {g : Network} → Formed g → g.remaining ≡ 2 → (v o w : ℕ) → here g v ≡ true → here g o ≡ true → o ≢ v
    → here g w ≡ true → w ≢ v → w ≡ o
no_third {g} f h v o w hv ho ov hw wv = elim (ℕ_discrete w o) [
  | yes e ↦ e
  | no wo ↦
      let n = g.vertices in
      let p : ℕ → ℕ = λ w. bit (here g w) in
      let q = out v p in
      absurd (omega (
        arith,
        f.counted,
        sum-out n v p (f.here_below v hv),
        sum-out n o q (f.here_below o ho),
        term-le n (out o q) w (f.here_below w hw),
        ap bit hv,
        ap bit ho,
        ap bit hw,
        out-other v p o ov,
        out-other o q w wo,
        out-other v p w wv,
      ))
]

-- ── edges at a vertex ──

-- 1 for an edge with both ends at v
loop : Network → ℕ → ℕ → ℕ
loop g v e = bit (eqb (low_end g e) v && eqb (high_end g e) v)

-- the side of v alone
abbrev only-v : ℕ → Side
only-v v w = eqb w v

ends-are : (g : Network) (v e : ℕ) → ends_at g v e ≡ crosses g (only-v v) e + 2 * loop g v e
unfolding loop ends_at crosses differ
ends-are g v e = go (eqb (low_end g e) v) (eqb (high_end g e) v)
  where
    go : (p q : Bool) → bit p + bit q ≡ differ p q + 2 * bit (p && q)
    go true true = refl
    go true false = refl
    go false true = refl
    go false false = refl

touch_is : (g : Network) (v e : ℕ) → bit (touches g v e) + loop g v e ≡ ends_at g v e
unfolding loop ends_at touches
touch_is g v e = go (eqb (low_end g e) v) (eqb (high_end g e) v)
  where
    go : (p q : Bool) → bit (p || q) + bit (p && q) ≡ bit p + bit q
    go true true = refl
    go true false = refl
    go false true = refl
    go false false = refl

pub touch-ends : (g : Network) (v e : ℕ) → touches g v e ≡ true → 1 ≤ ends_at g v e
touch-ends g v e h = omega (arith, touch_is g v e, ap bit h)

pub touches-runs : (g : Network) (v e : ℕ) → touches g v e ≡ true → Runs g e v (far g v e)
unfolding touches far
touches-runs g v e h = go (eqb (low_end g e) v) (eqb (high_end g e) v) refl refl h
  where
    go : (p q : Bool) → eqb (low_end g e) v ≡ p → eqb (high_end g e) v ≡ q → (p || q) ≡ true
        → Runs g e v (cond (eqb (low_end g e) v) (high_end g e) (low_end g e))
    go true q i j h = rw i (forward (eqb_is i) refl)
    go false true i j h = rw i (backward refl (eqb_is j))
    go false false i j h = never h

-- an edge touches the vertices where it ends
pub touches_at : (g : Network) (v e : ℕ) → (low_end g e ≡ v) ⊎ (high_end g e ≡ v) → touches g v e ≡ true
unfolding touches
touches_at g v e = ⊎_elim (λ q. rw (q, eqb-self)) (λ q. rw (q, eqb-self) (or-true (eqb (low_end g e) v)))

-- an edge that runs from v ends there
pub starts-at : {g : Network} {e v f : ℕ} → Runs g e v f → (low_end g e ≡ v) ⊎ (high_end g e ≡ v)
starts-at (forward a b) = inl a
starts-at (backward a b) = inr b

pub touches-ends : (g : Network) (v e : ℕ) → touches g v e ≡ true → (low_end g e ≡ v) ⊎ (high_end g e ≡ v)
touches-ends g v e h = starts-at (touches-runs g v e h)

one-loop : (g : Network) (v e : ℕ) → low_end g e ≡ v → high_end g e ≡ v → loop g v e ≡ 1
unfolding loop
one-loop g v e a b = rw (a, b, eqb-self)

far-leaves : (g : Network) (v e : ℕ) → touches g v e ≡ true → loop g v e ≡ 0 → far g v e ≢ v
far-leaves g v e h l q = go (touches-runs g v e h)
  where
    go : Runs g e v (far g v e) → ⊥
    go (forward a b) = omega (arith, one-loop g v e a (b ∙ q))
    go (backward a b) = omega (arith, one-loop g v e (a ∙ q) b)

-- an end of an edge that is no loop at a present vertex is present
pub runs_here : {g : Network} → Sound g → {e v f : ℕ} → e < g.edges → Runs g e v f → here g v ≡ true → here g f ≡ true
runs_here sound {e} {v} {f} l (forward a b) h =
    ⊎_elim (λ j. rw b at j.1) (λ q. rw (sym b ∙ sym q ∙ a) h) (sound.joins e l)
runs_here sound {e} {v} {f} l (backward a b) h =
    ⊎_elim (λ j. rw a at j.0) (λ q. rw (sym a ∙ q ∙ b) h) (sound.joins e l)

list-three : (l : List ℕ) → length l ≡ 3 → (x : ℕ) × (y : ℕ) × (z : ℕ) × (l ≡ x ∷ y ∷ z ∷ [])
list-three [] h = absurd (omega arith)
list-three (x ∷ []) h = absurd (omega arith)
list-three (x ∷ y ∷ []) h = absurd (omega arith)
list-three (x ∷ y ∷ z ∷ []) h = (x, y, z, refl)
list-three (x ∷ y ∷ z ∷ w ∷ l) h = absurd (omega arith)

module _ {g : Network} (sound : Sound g) {v o : ℕ} (v_here : here g v ≡ true) (o-here : here g o ≡ true) (o≢v : o ≢ v)
  where
    -- the degree 4 is the crossing count of v alone, which is at least 4, and two for each loop: so there is no loop
    no-loop-at : (e : ℕ) → e < g.edges → loop g v e ≡ 0
    unfolding degree crossings_of
    no-loop-at =
        let m = g.edges in
        let L = loop g v in
        let C = crosses g (only-v v) in
        sum-zero-at m L (omega (
          arith,
          sound.degrees v v_here,
          sound.cuts (only-v v)
              (record {
                inner = v;
                outer = o;
                inner_here = v_here;
                outer_here = o-here;
                inner_in = eqb-self v;
                outer_out =
                    eqb_no o≢v;
              }),
          sum-ext m (ends_at g v) (λ e. C e + (L e + L e)) (λ e l. omega (arith, ends-are g v e)),
          sum-add m C (λ e. L e + L e),
          sum-add m L L,
        ))

    -- no loop at a vertex
    pub no_loop : (e : ℕ) → e < g.edges → low_end g e ≡ v → high_end g e ≡ v → ⊥
    no_loop e l a b = omega (arith, one-loop g v e a b, no-loop-at e l)

    -- without loops each of the four ends at v is an edge of its own
    touch-count : sum g.edges (λ e. bit (touches g v e)) ≡ 4
    unfolding degree
    touch-count =
        sum-ext g.edges (λ e. bit (touches g v e)) (ends_at g v)
        (λ e l. omega (arith, touch_is g v e, no-loop-at e l))
        ∙ sound.degrees v v_here

    module _ (held : touches g v g.reserved ≡ true) where
      partner-count : sum g.edges (λ e. bit (is_partner g v e)) ≡ 3
      unfolding is_partner
      partner-count =
          let r = g.reserved in
          let f : ℕ → ℕ = λ e. bit (touches g v e) in
          let p : ℕ → ℕ = λ e. bit (is_partner g v e) in
          let fr : f r ≡ 1 = rw held in
          let pr : p r ≡ 0 = rw (held, eqb-self) in
          omega (
            arith,
            touch-count,
            fr,
            pr,
            sum-change g.edges r f p sound.formed.reserved_below (λ e l ne. rw (eqb_no ne, and-true)),
          )

      -- exactly three partners: the four edges at v but the reserved one
      pub three-partners : (x : ℕ) × (y : ℕ) × (z : ℕ) × (partners g v ≡ x ∷ y ∷ z ∷ [])
      unfolding partners fold
      three-partners =
          list-three (partners g v)
          (omega (
            arith,
            pick-length g.edges 0 (is_partner g v),
            partner-count,
            ap (λ n. sum n (λ e. bit (is_partner g v e))) (zero-add g.edges),
          ))

      away : (e : ℕ) → e < g.edges → e ≢ g.reserved → is_partner g v e ≡ false → ends_at g v e ≡ 0
      unfolding is_partner
      away e l ne h = let t : touches g v e ≡ false =
          rw (eqb_no ne, and-true) at h in omega (arith, touch_is g v e, no-loop-at e l, ap bit t)

      partner-is : (e : ℕ) → is_partner g v e ≡ true → (touches g v e ≡ true) × (g.reserved ≢ e)
      unfolding is_partner
      partner-is e h = (
        and_left (touches g v e) _ h,
        λ q. never (rw (q, eqb-self) at (and_right (touches g v e) _ h)),
      )

      -- the star of the three partners
      pub star : {x y z : ℕ} → partners g v ≡ x ∷ y ∷ z ∷ []
          → Star g v x y z (far g v g.reserved) (far g v x) (far g v y) (far g v z)
      unfolding partners
      star {x} {y} {z} e =
          let m = g.edges in
          let p = is_partner g v in
          let r = g.reserved in
          let rm = sound.formed.reserved_below in
          let wx : Picked m 0 p x (y ∷ z ∷ []) = pick-cons m 0 p x (y ∷ z ∷ []) e in
          let wy : Picked wx.left (suc x) p y (z ∷ []) = pick-cons wx.left (suc x) p y (z ∷ []) wx.next in
          let wz : Picked wy.left (suc y) p z [] = pick-cons wy.left (suc y) p z [] wy.next in
          let tx = partner-is x wx.passes in
          let ty = partner-is y wy.passes in
          let tz = partner-is z wz.passes in
          let lx : x < m = omega arith in
          let ly : y < m = omega arith in
          let lz : z < m = omega arith in
          record {
            four = record {
              r< = rm;
              x< = lx;
              y< = ly;
              z< = lz;
              rx = tx.1;
              ry = ty.1;
              rz = tz.1;
              xy = omega arith;
              xz =
                  omega arith;
              yz = omega arith;
            };
            to_u = touches-runs g v r held;
            to_a = touches-runs g v x tx.0;
            to_b = touches-runs g v y ty.0;
            to_c = touches-runs g v z tz.0;
            u≢ = far-leaves g v r held (no-loop-at r rm);
            a≢ = far-leaves g v x tx.0 (no-loop-at x lx);
            b≢ = far-leaves g v y ty.0 (no-loop-at y ly);
            c≢ = far-leaves g v z tz.0 (no-loop-at z lz);
            rest = λ i l nr nx ny nz. away i l nr
                (elim (dec_lt i x) [
                  | yes a ↦ wx.skipped i (omega arith) a
                  | no a ↦
                      elim (dec_lt i y) [
                        | yes b ↦ wy.skipped i (omega arith) b
                        | no b ↦
                            elim (dec_lt i z) [
                              | yes c ↦ wz.skipped i (omega arith) c
                              | no c ↦
                                  pick-nil wz.left (suc z) p wz.next i (omega arith) (omega arith)
                            ]
                      ]
                ]);
          }

-- ── a partner that is named ──

-- partner x with the two others, in the order of the partners
pub record Chosen (g : Network) (v u x : ℕ) : Type 0 where
  pub y : ℕ
  pub z : ℕ
  pub a : ℕ
  pub b : ℕ
  pub c : ℕ
  pub at : Star g v x y z u a b c
  pub others : without x (partners g v) ≡ y ∷ z ∷ []

module _ {g : Network} {v p q w u a b c : ℕ} (s : Star g v p q w u a b c) (e : partners g v ≡ p ∷ q ∷ w ∷ []) where
  pub first-others : without p (partners g v) ≡ q ∷ w ∷ []
  unfolding only
  first-others = let f =
      s.four in rw (
        e,
        eqb-self,
        eqb_no {a = q} {b = p} (λ k. f.xy (sym k)),
        eqb_no {a = w} {b = p} (λ k. f.xz (sym k)),
      )

  pub second-others : without q (partners g v) ≡ p ∷ w ∷ []
  unfolding only
  second-others = let f = s.four in rw (e, eqb-self q, eqb_no f.xy, eqb_no {a = w} {b = q} (λ k. f.yz (sym k)))

  pub third-others : without w (partners g v) ≡ p ∷ q ∷ []
  unfolding only
  third-others = let f = s.four in rw (e, eqb-self w, eqb_no f.xz, eqb_no f.yz)

  pub chosen : (x : ℕ) → among x (partners g v) ≡ true → Chosen g v u x
  unfolding among
  chosen x h =
      elim (ℕ_discrete x p) [
        | yes xp ↦ rw xp (record { y = q; z = w; a = a; b = b; c = c; at = s; others = first-others })
        | no np ↦ elim (ℕ_discrete x q) [
          | yes xq ↦ rw xq (record { y = p; z = w; a = b; b = a; c = c; at = swap-first s; others = second-others })
          | no nq ↦ let xw : x ≡ w = eqb_is (rw (e, eqb_no np, eqb_no nq, or-false) at h) in
              rw xw (record {
                y = p;
                z = q;
                a = c;
                b = a;
                c = b;
                at = swap-first (swap-others s);
                others =
                    third-others;
              })
        ]
      ]

pub among-without : (x y : ℕ) → y ≢ x → (l : List ℕ) → among y (without x l) ≡ among y l
unfolding among only
among-without x y ne [] = refl
among-without x y ne (k ∷ l) = go (eqb k x) refl (among-without x y ne l)
  where
    go : (t : Bool) → eqb k x ≡ t → among y (without x l) ≡ among y l → among y (without x (k ∷ l)) ≡ among y (k ∷ l)
    go true e ih = let kx : k ≡ x = eqb_is e in rw (e, kx, eqb_no ne) ih
    go false e ih = rw (e, ih)
