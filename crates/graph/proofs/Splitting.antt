-- Splitting off a vertex: who is present afterwards, degrees, and that
-- a split with an admissible partner leaves a sound network.
use mathlib.Core.Path.{◌≡◌, sym, ◌∙◌, ap, ap₂}
use mathlib.Core.Logic.{◌≢◌, inl, inr, ⊎_elim}
use mathlib.Core.Bool.{Bool, true, false, cond}
use mathlib.Core.List.{[], ◌∷◌}
use Prim.Native.Nat.{ℕ, ◌+◌, ◌-◌, ◌<◌}
use native.Mathlib.Omega.{arith}
use native.Mathlib.Decide.{ℕ_discrete}
use lib.Dec.{eqb}
use lib.ListN.{length, get_or, set, length-set}
use lib.Seq.{get_or-set_same, get_or-set_other}
use Rattle.base.specs.Fold.{sum, bit, without}
use lib.IntN.{pos}
use Rattle.graph.specs.Network.{low_end, high_end, cost_of, here, ends_at, degree}
use Rattle.graph.specs.Cut.{Side, differ, crosses, crossings_of, EveryCut}
use Rattle.graph.specs.Split.{partners, split, split_with}
use Rattle.graph.specs.Sound.{Formed, Joins, Sound}
use Rattle.graph.specs.declared.Network.{Network}
use Rattle.base.proofs.Bools.{never, eqb-self, eqb_no}
use Rattle.base.proofs.Sums.{sum-ext, sum-change, sum-change-four}
use Rattle.graph.proofs.Stars.{differ_same, Runs, forward, backward, Star, split-reserved, split-z, split-x}
use Rattle.graph.proofs.Stars.{split-y, split-low, split-high, cost-x, cost-y, cost-other}
use Rattle.graph.proofs.Partners.{runs_here}

-- splitting with a partner whose others are known
pub split-with : (g : Network) (v x : ℕ) {y z : ℕ} → without x (partners g v) ≡ y ∷ z ∷ []
    → split_with g v x ≡ split g v x y z
unfolding split_with
split-with g v x e = rw e

-- ── who is present ──
module _ {g : Network} (f : Formed g) (v x y z : ℕ) (v_here : here g v ≡ true) where
  v-in : v < length g.present
  v-in = omega (arith, f.here_below v v_here, f.present_room)

  pub split-here : (w : ℕ) → here (split g v x y z) w ≡ true → (here g w ≡ true) × (w ≢ v)
  unfolding split
  split-here w h = elim (ℕ_discrete w v) [
    | yes e ↦ never (sym (get_or-set_same g.present v false false v-in) ∙ (rw e at h))
    | no ne ↦ ((rw (get_or-set_other g.present v w false false ne) at h), ne)
  ]

  split-counted : sum g.vertices (λ w. bit (here (split g v x y z) w)) ≡ g.remaining - 1
  unfolding split
  split-counted =
      let p : ℕ → ℕ = λ w. bit (here (split g v x y z) w) in
      let q : ℕ → ℕ = λ w. bit (here g w) in
      omega (
        arith,
        f.counted,
        ap bit v_here,
        ap bit (get_or-set_same g.present v false false v-in),
        sum-change g.vertices v p q (f.here_below v v_here)
            (λ w l ne. ap bit (get_or-set_other g.present v w false false ne)),
      )

pub still-here : (g : Network) (v x y z w : ℕ) → here g w ≡ true → w ≢ v → here (split g v x y z) w ≡ true
unfolding split
still-here g v x y z w h ne = rw (get_or-set_other g.present v w false false ne) h

-- ── ends and degrees ──
runs-below : {g : Network} → Formed g → {e v f : ℕ} → e < g.edges → Runs g e v f
    → (v < g.vertices) × (f < g.vertices)
runs-below f {e} l (forward a b) = (rw (← a) (f.low_below e l), rw (← b) (f.high_below e l))
runs-below f {e} l (backward a b) = (rw (← b) (f.high_below e l), rw (← a) (f.low_below e l))

ends-below : {g : Network} {e v f n : ℕ} → Runs g e v f → v < n → f < n → (low_end g e < n) × (high_end g e < n)
ends-below (forward a b) h k = (rw a h, rw b k)
ends-below (backward a b) h k = (rw a k, rw b h)

runs-joins : {g : Network} {e v f : ℕ} → Runs g e v f → here g v ≡ true → here g f ≡ true → Joins g e
runs-joins (forward a b) h k = inl (rw a h, rw b k)
runs-joins (backward a b) h k = inl (rw a k, rw b h)

loop-joins : {g : Network} {e v : ℕ} → Runs g e v v → Joins g e
loop-joins (forward a b) = inr (a ∙ sym b)
loop-joins (backward a b) = inr (a ∙ sym b)

-- the low end of an edge between present vertices is present
pub runs-low : {g : Network} {e v f : ℕ} → Runs g e v f → here g v ≡ true → here g f ≡ true
    → here g (low_end g e) ≡ true
runs-low (forward a b) h k = rw a h
runs-low (backward a b) h k = rw a k

-- how many ends an edge from v has at another vertex
runs-ends : {g : Network} {e v f : ℕ} (w : ℕ) → Runs g e v f → ends_at g w e ≡ bit (eqb v w) + bit (eqb f w)
unfolding ends_at
runs-ends w (forward a b) = rw (a, b)
runs-ends w (backward a b) = rw (a, b) (omega arith)

-- an edge with no end at v ends elsewhere
elsewhere : (g : Network) (v e : ℕ) → ends_at g v e ≡ 0 → (low_end g e ≢ v) × (high_end g e ≢ v)
unfolding ends_at
elsewhere g v e h = ((λ q. omega (arith, rw (q, eqb-self) at h)), (λ q. omega (arith, rw (q, eqb-self) at h)))

-- one of the four edges of a star, or another
pub data Place (g : Network) (x y z e : ℕ) : Type 0 where
  at_reserved : e ≡ g.reserved → Place g x y z e
  at_x : e ≡ x → Place g x y z e
  at_y : e ≡ y → Place g x y z e
  at_z : e ≡ z → Place g x y z e
  beside : e ≢ g.reserved → e ≢ x → e ≢ y → e ≢ z → Place g x y z e

pub place : (g : Network) (x y z e : ℕ) → Place g x y z e
place g x y z e =
    elim (ℕ_discrete e g.reserved) [
      | yes q ↦ at_reserved q
      | no nr ↦
          elim (ℕ_discrete e x) [
            | yes q ↦ at_x q
            | no nx ↦
                elim (ℕ_discrete e y) [
                  | yes q ↦ at_y q
                  | no ny ↦
                      elim (ℕ_discrete e z) [ yes q ↦ at_z q | no nz ↦ beside nr nx ny nz ]
                ]
          ]
    ]

module _ {g : Network} (f : Formed g) {v x y z u a b c : ℕ} (s : Star g v x y z u a b c) where
  after-below : (e : ℕ) → e < g.edges
      → (low_end (split g v x y z) e < g.vertices) × (high_end (split g v x y z) e < g.vertices)
  after-below e l = go (place g x y z e)
    where
      reaches : {e f : ℕ} → e < g.edges → Runs g e v f → f < g.vertices
      reaches l t = (runs-below f l t).1

      v< : v < g.vertices
      v< = (runs-below f s.four.r< s.to_u).0

      go : Place g x y z e → (low_end (split g v x y z) e < g.vertices) × (high_end (split g v x y z) e < g.vertices)
      go (at_reserved q) =
          rw q (ends-below (split-reserved f s) (reaches s.four.r< s.to_u) (reaches s.four.x< s.to_a))
      go (at_x q) = rw q (ends-below (split-x f s) v< v<)
      go (at_y q) = rw q (ends-below (split-y f s) v< v<)
      go (at_z q) = rw q (ends-below (split-z f s) (reaches s.four.y< s.to_b) (reaches s.four.z< s.to_c))
      go (beside nr nx ny nz) =
          rw (split-low f s e nr nx ny nz, split-high f s e nr nx ny nz) (f.low_below e l, f.high_below e l)

  pub formed-after : here g v ≡ true → Formed (split g v x y z)
  formed-after h = record {
    low_room = unfold split in simp length-set f.low_room;
    high_room = unfold split in simp length-set f.high_room;
    cost_room = unfold split in simp length-set f.cost_room;
    present_room = unfold split in simp length-set f.present_room;
    low_below = unfold split in λ e l. (after-below e l).0;
    high_below = unfold split in λ e l. (after-below e l).1;
    here_below = unfold split in λ w k. f.here_below w (split-here f v x y z h w k).0;
    counted = unfold split in split-counted f v x y z h;
    reserved_below = unfold split in f.reserved_below;
  }

  -- degrees of the others stay: off v, the four edges have the ends u, a, b, c before and after
  pub degrees-after : (w : ℕ) → w ≢ v → degree (split g v x y z) w ≡ degree g w
  unfolding degree split
  degrees-after w ne =
      let n : bit (eqb v w) ≡ 0 = ap bit (eqb_no (λ q. ne (sym q))) in
      omega (
        arith,
        sum-change-four s.four (ends_at (split g v x y z) w) (ends_at g w) (λ e l nr nx ny nz. same e nr nx ny nz),
        runs-ends w s.to_u,
        runs-ends w s.to_a,
        runs-ends w s.to_b,
        runs-ends w s.to_c,
        runs-ends w (split-reserved f s),
        runs-ends w (split-z f s),
        runs-ends w (split-x f s),
        runs-ends w (split-y f s),
      )
    where
      same : (e : ℕ) → e ≢ g.reserved → e ≢ x → e ≢ y → e ≢ z → ends_at (split g v x y z) w e ≡ ends_at g w e
      same e nr nx ny nz = unfold ends_at in rw (split-low f s e nr nx ny nz, split-high f s e nr nx ny nz)

module _ {g : Network} (sound : Sound g) {v x y z u a b c : ℕ} (s : Star g v x y z u a b c) (v_here : here g v ≡ true)
  where
    -- the far end of an edge at v is present, before and after
    pub far-here : {e f : ℕ} → e < g.edges → Runs g e v f → here g f ≡ true
    far-here l t = runs_here sound l t v_here

    pub far-stays : {e f : ℕ} → e < g.edges → Runs g e v f → f ≢ v → here (split g v x y z) f ≡ true
    far-stays {f = f} l t ne = still-here g v x y z f (far-here l t) ne

    pub joins_after : (e : ℕ) → e < g.edges → Joins (split g v x y z) e
    joins_after e l = go (place g x y z e)
      where
        form : Formed g
        form = sound.formed

        go : Place g x y z e → Joins (split g v x y z) e
        go (at_reserved q) =
            rw q (runs-joins (split-reserved form s) (far-stays s.four.r< s.to_u s.u≢)
            (far-stays s.four.x< s.to_a s.a≢))
        go (at_x q) = rw q (loop-joins (split-x form s))
        go (at_y q) = rw q (loop-joins (split-y form s))
        go (at_z q) = rw q (runs-joins (split-z form s) (far-stays s.four.y< s.to_b s.b≢)
            (far-stays s.four.z< s.to_c s.c≢))
        go (beside nr nx ny nz) =
            let lo = split-low form s e nr nx ny nz in
            let hi = split-high form s e nr nx ny nz in
            let w = elsewhere g v e (s.rest e l nr nx ny nz) in
            ⊎_elim
            (λ j. inl (rw lo (still-here g v x y z _ j.0 w.0), rw hi (still-here g v x y z _ j.1 w.1)))
            (λ q. inr (lo ∙ q ∙ sym hi))
            (sound.joins e l)

    low_held : here (split g v x y z) (low_end (split g v x y z) g.reserved) ≡ true
    low_held =
        runs-low (split-reserved sound.formed s) (far-stays s.four.r< s.to_u s.u≢)
        (far-stays s.four.x< s.to_a s.a≢)

    low-z : here (split g v x y z) (low_end (split g v x y z) z) ≡ true
    low-z =
        runs-low (split-z sound.formed s) (far-stays s.four.y< s.to_b s.b≢)
        (far-stays s.four.z< s.to_c s.c≢)

    -- retired edges cost nothing
    free-after : (e : ℕ) → e < g.edges → here (split g v x y z) (low_end (split g v x y z) e) ≡ false
        → cost_of (split g v x y z) e ≡ pos 0
    free-after e l h = go (place g x y z e)
      where
        form : Formed g
        form = sound.formed

        go : Place g x y z e → cost_of (split g v x y z) e ≡ pos 0
        go (at_reserved q) = never (sym h ∙ rw q low_held)
        go (at_x q) = rw q (cost-x form s)
        go (at_y q) = rw q (cost-y form s)
        go (at_z q) = never (sym h ∙ rw q low-z)
        go (beside nr nx ny nz) =
            let lo = split-low form s e nr nx ny nz in
            let w = elsewhere g v e (s.rest e l nr nx ny nz) in
            cost-other form s e nx ny nz
            ∙ sound.free e l (sym (get_or-set_other g.present v (low_end g e) false false w.0)
            ∙ away (rw lo at h))
          where
            away : here (split g v x y z) (low_end g e) ≡ false
                → get_or (set g.present v false) (low_end g e) false ≡ false
            away k = unfold split in k

    -- soundness is kept by an admissible split: degrees stay, the reserved edge and z join present vertices,
    -- x and y are loops at no cost, and the cuts are what admissible says
    pub sound-after : EveryCut 4 (split g v x y z) → Sound (split g v x y z)
    sound-after h = record {
      formed = formed-after sound.formed s v_here;
      joins = unfold split in joins_after;
      degrees = λ w k. let e =
          split-here sound.formed v x y z v_here w k in degrees-after sound.formed s w e.1
          ∙ sound.degrees w e.0;
      cuts = h;
      held = unfold split in low_held;
      free = unfold split in free-after;
    }

    -- ── which edges retire: x and y, and no other ──

    -- an edge that is not retired afterwards was not before, and is neither x nor y
    pub live-before : (e : ℕ) → e < g.edges → here (split g v x y z) (low_end (split g v x y z) e) ≡ true
        → (e ≢ x) × (e ≢ y) × (here g (low_end g e) ≡ true)
    live-before e l h = go (place g x y z e)
      where
        form : Formed g
        form = sound.formed

        was : {w : ℕ} → here (split g v x y z) w ≡ true → (here g w ≡ true) × (w ≢ v)
        was {w} = split-here form v x y z v_here w

        -- a loop at v is retired
        at-loop : Runs (split g v x y z) e v v → ⊥
        at-loop (forward a b) = (was h).1 a
        at-loop (backward a b) = (was h).1 a

        go : Place g x y z e → (e ≢ x) × (e ≢ y) × (here g (low_end g e) ≡ true)
        go (at_reserved q) =
            (λ p. s.four.rx (sym q ∙ p), λ p. s.four.ry (sym q ∙ p), rw q sound.held)
        go (at_x q) = absurd (at-loop (rw q (split-x form s)))
        go (at_y q) = absurd (at-loop (rw q (split-y form s)))
        go (at_z q) = (
          λ p. s.four.xz (sym p ∙ q),
          λ p. s.four.yz (sym p ∙ q),
          rw q (runs-low s.to_c v_here (far-here s.four.z< s.to_c)),
        )
        go (beside nr nx ny nz) = (nx, ny, (was (rw (split-low form s e nr nx ny nz) at h)).0)

    -- and another edge that is not retired stays so
    pub live-after : (e : ℕ) → e < g.edges → here g (low_end g e) ≡ true → e ≢ x → e ≢ y
        → here (split g v x y z) (low_end (split g v x y z) e) ≡ true
    live-after e l h not-x not-y = go (place g x y z e)
      where
        go : Place g x y z e → here (split g v x y z) (low_end (split g v x y z) e) ≡ true
        go (at_reserved q) = rw q low_held
        go (at_x q) = absurd (not-x q)
        go (at_y q) = absurd (not-y q)
        go (at_z q) = rw q low-z
        go (beside nr nx ny nz) =
            rw (split-low sound.formed s e nr nx ny nz)
            (still-here g v x y z (low_end g e) h (elsewhere g v e (s.rest e l nr nx ny nz)).0)

-- sides that agree on the present vertices are crossed alike
pub crossings-here : (g : Network) → ((e : ℕ) → e < g.edges → Joins g e) → (K : ℕ → Bool) (S U : Side)
    → ((w : ℕ) → here g w ≡ true → S w ≡ U w) → crossings_of g K S ≡ crossings_of g K U
unfolding crossings_of
crossings-here g joins K S U h =
    sum-ext g.edges (λ e. cond (K e) (crosses g S e) 0) (λ e. cond (K e) (crosses g U e) 0)
    (λ e l. ap (λ n. cond (K e) n 0) (same e (joins e l)))
  where
    same : (e : ℕ) → Joins g e → crosses g S e ≡ crosses g U e
    same e j = unfold crosses in ⊎_elim
        (λ w. ap₂ differ (h (low_end g e) w.0) (h (high_end g e) w.1))
        (λ q. rw q (differ_same (S (high_end g e)) ∙ sym (differ_same (U (high_end g e))))) j
