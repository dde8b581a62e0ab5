-- The four edges at a vertex, and what splitting it off does to the columns and to a crossing count.
use mathlib.Core.Path.{◌≡◌, refl, sym, ◌∙◌, ap₂}
use mathlib.Core.Logic.{◌≢◌}
use mathlib.Core.Bool.{Bool, true, false, cond}
use mathlib.Core.List.{List}
use Prim.Native.Nat.{ℕ, ◌+◌, ◌≤◌, ◌<◌}
use native.Mathlib.Omega.{arith}
use lib.Dec.{eqb}
use lib.ListN.{length, get_or}
use lib.IntN.{pos}
use lib.Seq.{lt-length-set, get_or-set_same, get_or-set_other}
use Rattle.graph.specs.Network.{low_end, high_end, cost_of, ends_at, far, unreserved}
use Rattle.graph.specs.Cut.{Side, differ, crosses, crossings_of, crossings}
use Rattle.graph.specs.Split.{split_ends, cost_after, split}
use Rattle.graph.specs.Sound.{Formed}
use Rattle.graph.specs.declared.Network.{Network}
use Rattle.base.proofs.Bools.{eqb-self, eqb_no}
use Rattle.base.proofs.Sums.{sum-change-four, Four}

-- an edge other than the reserved one counts among all but it
pub counted : (g : Network) (e : ℕ) → g.reserved ≢ e → unreserved g e ≡ true
counted g e ne = let h : eqb e g.reserved ≡ false = eqb_no (λ q. ne (sym q)) in search h

pub differ_comm : (a b : Bool) → differ a b ≡ differ b a
unfolding differ
differ_comm true true = refl
differ_comm true false = refl
differ_comm false true = refl
differ_comm false false = refl

pub differ_same : (a : Bool) → differ a a ≡ 0
unfolding differ
differ_same true = refl
differ_same false = refl

-- the side S, but v in part t
abbrev pub put : ℕ → Bool → Side → Side
put v t S w = cond (eqb w v) t (S w)

pub put_same : (v : ℕ) (t : Bool) (S : Side) → put v t S v ≡ t
put_same v t S = simp eqb-self

pub put_other : (v : ℕ) (t : Bool) (S : Side) (w : ℕ) → w ≢ v → put v t S w ≡ S w
put_other v t S w h = simp eqb_no

-- an edge that runs from v to f, either way round
pub data Runs (g : Network) (e v f : ℕ) : Type 0 where
  forward : low_end g e ≡ v → high_end g e ≡ f → Runs g e v f
  backward : low_end g e ≡ f → high_end g e ≡ v → Runs g e v f

pub runs-crosses : {g : Network} {e v f : ℕ} (S : Side) → Runs g e v f → crosses g S e ≡ differ (S v) (S f)
unfolding crosses
runs-crosses S (forward a b) = rw (a, b)
runs-crosses {v = v} {f = f} S (backward a b) = rw (a, b) (differ_comm (S f) (S v))

pub runs-far : {g : Network} {e v f : ℕ} → Runs g e v f → f ≢ v → far g v e ≡ f
unfolding far
runs-far (forward a b) h = rw (a, b, eqb-self)
runs-far (backward a b) h = rw (a, b, eqb_no h)

-- an edge that does not end at v crosses alike wherever v lies
crosses-put : (g : Network) (e : ℕ) (S : Side) (v : ℕ) (t : Bool) → ends_at g v e ≡ 0
    → crosses g (put v t S) e ≡ crosses g S e
unfolding crosses ends_at
crosses-put g e S v t h = go (eqb (low_end g e) v) (eqb (high_end g e) v) refl refl
  where
    go : (p q : Bool) → eqb (low_end g e) v ≡ p → eqb (high_end g e) v ≡ q → crosses g (put v t S) e ≡ crosses g S e
    go false false i j = rw (i, j)
    go true q i j = absurd (omega (arith, rw (i, j) at h))
    go false true i j = absurd (omega (arith, rw (i, j) at h))

-- the four edges at v: the reserved one to u, and x to a, y to b, z to c; none is a loop
pub record Star (g : Network) (v x y z u a b c : ℕ) : Type 0 where
  pub four : Four g.edges g.reserved x y z
  pub to_u : Runs g g.reserved v u
  pub to_a : Runs g x v a
  pub to_b : Runs g y v b
  pub to_c : Runs g z v c
  pub u≢ : u ≢ v
  pub a≢ : a ≢ v
  pub b≢ : b ≢ v
  pub c≢ : c ≢ v
  pub rest : (e : ℕ) → e < g.edges → e ≢ g.reserved → e ≢ x → e ≢ y → e ≢ z → ends_at g v e ≡ 0

-- the same star with its partners in another order
module _ {g : Network} {v x y z u a b c : ℕ} where
  pub swap-others : Star g v x y z u a b c → Star g v x z y u a c b
  swap-others s = let f = s.four in record {
    four = record {
      r< = f.r<;
      x< = f.x<;
      y< = f.z<;
      z< = f.y<;
      rx = f.rx;
      ry = f.rz;
      rz = f.ry;
      xy = f.xz;
      xz =
          f.xy;
      yz = λ e. f.yz (sym e);
    };
    to_u = s.to_u;
    to_a = s.to_a;
    to_b = s.to_c;
    to_c = s.to_b;
    u≢ = s.u≢;
    a≢ = s.a≢;
    b≢ = s.c≢;
    c≢ = s.b≢;
    rest = λ i l p q w e. s.rest i l p q e w;
  }

  pub swap-first : Star g v x y z u a b c → Star g v y x z u b a c
  swap-first s = let f = s.four in record {
    four = record {
      r< = f.r<;
      x< = f.y<;
      y< = f.x<;
      z< = f.z<;
      rx = f.ry;
      ry = f.rx;
      rz = f.rz;
      xy =
          λ e. f.xy (sym e);
      xz = f.yz;
      yz = f.xz;
    };
    to_u = s.to_u;
    to_a = s.to_b;
    to_b = s.to_a;
    to_c = s.to_c;
    u≢ = s.u≢;
    a≢ = s.b≢;
    b≢ = s.a≢;
    c≢ = s.c≢;
    rest = λ i l p q w e. s.rest i l p w q e;
  }

-- the crossing count of S with v put into part t: of all edges only the four at v may cross otherwise than before
pub crossings-put : {g : Network} {v x y z u a b c : ℕ} → Star g v x y z u a b c → (S : Side) (t : Bool)
    → crossings g (put v t S) + (differ (S v) (S u) + differ (S v) (S a) + differ (S v) (S b) + differ (S v) (S c))
    ≡ crossings g S + (differ t (S u) + differ t (S a) + differ t (S b) + differ t (S c))
unfolding crossings_of
crossings-put {g} {v} s S t =
    omega (
      arith,
      sum-change-four s.four (crosses g (put v t S)) (crosses g S)
          (λ e l nr nx ny nz. crosses-put g e S v t (s.rest e l nr nx ny nz)),
      runs-crosses S s.to_u,
      runs-crosses S s.to_a,
      runs-crosses S s.to_b,
      runs-crosses S s.to_c,
      new s.to_u s.u≢,
      new s.to_a s.a≢,
      new s.to_b s.b≢,
      new s.to_c s.c≢,
    )
  where
    new : {e f : ℕ} → Runs g e v f → f ≢ v → crosses g (put v t S) e ≡ differ t (S f)
    new {f = f} h ne = runs-crosses (put v t S) h ∙ ap₂ differ (put_same v t S) (put_other v t S f ne)

-- ── the columns after a split ──
module _ {n r x y z : ℕ} (q : Four n r x y z) (column : List ℕ) (room : n ≤ length column) (newR newZ v : ℕ) where
  ends-r : get_or (split_ends column r newR z newZ x y v) r 0 ≡ newR
  ends-r = let l : r < length column = omega (arith, q.r<) in simp (get_or-set_other, get_or-set_same, q.rx, q.ry, q.rz)

  ends-z : get_or (split_ends column r newR z newZ x y v) z 0 ≡ newZ
  ends-z =
      let l : z < length column = omega (arith, q.z<) in
      let zx : z ≢ x = λ e. q.xz (sym e) in
      let zy : z ≢ y = λ e. q.yz (sym e) in
      simp (get_or-set_other, get_or-set_same, lt-length-set)

  ends-x : get_or (split_ends column r newR z newZ x y v) x 0 ≡ v
  ends-x = let l : x < length column =
      omega (arith, q.x<) in simp (get_or-set_other, get_or-set_same, lt-length-set, q.xy)

  ends-y : get_or (split_ends column r newR z newZ x y v) y 0 ≡ v
  ends-y = let l : y < length column = omega (arith, q.y<) in simp (get_or-set_same, lt-length-set)

  ends-other : (e : ℕ) → e ≢ r → e ≢ x → e ≢ y → e ≢ z
      → get_or (split_ends column r newR z newZ x y v) e 0 ≡ get_or column e 0
  ends-other e nr nx ny nz = simp get_or-set_other

-- ── the edges after a split ──
module _ {g : Network} (f : Formed g) {v x y z u a b c : ℕ} (s : Star g v x y z u a b c) where
  -- the ends of the four edges, as the columns have them
  pub reserved-ends : (low_end (split g v x y z) g.reserved ≡ u) × (high_end (split g v x y z) g.reserved ≡ a)
  unfolding split
  reserved-ends = (
    ends-r s.four g.low f.low_room _ _ v ∙ runs-far s.to_u s.u≢,
    ends-r s.four g.high f.high_room _ _ v ∙ runs-far s.to_a s.a≢,
  )

  pub z-ends : (low_end (split g v x y z) z ≡ b) × (high_end (split g v x y z) z ≡ c)
  unfolding split
  z-ends = (
    ends-z s.four g.low f.low_room _ _ v ∙ runs-far s.to_b s.b≢,
    ends-z s.four g.high f.high_room _ _ v ∙ runs-far s.to_c s.c≢,
  )

  pub x-ends : (low_end (split g v x y z) x ≡ v) × (high_end (split g v x y z) x ≡ v)
  unfolding split
  x-ends = (ends-x s.four g.low f.low_room _ _ v, ends-x s.four g.high f.high_room _ _ v)

  pub y-ends : (low_end (split g v x y z) y ≡ v) × (high_end (split g v x y z) y ≡ v)
  unfolding split
  y-ends = (ends-y s.four g.low f.low_room _ _ v, ends-y s.four g.high f.high_room _ _ v)

  -- where they run
  pub split-reserved : Runs (split g v x y z) g.reserved u a
  split-reserved = forward reserved-ends.0 reserved-ends.1

  pub split-z : Runs (split g v x y z) z b c
  split-z = forward z-ends.0 z-ends.1

  pub split-x : Runs (split g v x y z) x v v
  split-x = forward x-ends.0 x-ends.1

  pub split-y : Runs (split g v x y z) y v v
  split-y = forward y-ends.0 y-ends.1

  pub split-low : (e : ℕ) → e ≢ g.reserved → e ≢ x → e ≢ y → e ≢ z → low_end (split g v x y z) e ≡ low_end g e
  unfolding split
  split-low e = ends-other s.four g.low f.low_room _ _ v e

  pub split-high : (e : ℕ) → e ≢ g.reserved → e ≢ x → e ≢ y → e ≢ z → high_end (split g v x y z) e ≡ high_end g e
  unfolding split
  split-high e = ends-other s.four g.high f.high_room _ _ v e

  pub cost-z : cost_of (split g v x y z) z ≡ cost_after (cost_of g x) (cost_of g y) (cost_of g z)
  unfolding split
  cost-z =
      let l : z < length g.cost = omega (arith, s.four.z<, f.cost_room) in
      let zx : z ≢ x = λ e. s.four.xz (sym e) in
      let zy : z ≢ y = λ e. s.four.yz (sym e) in
      simp (get_or-set_other, get_or-set_same)

  pub cost-x : cost_of (split g v x y z) x ≡ pos 0
  unfolding split
  cost-x = let l : x < length g.cost =
      omega (arith, s.four.x<, f.cost_room) in simp (get_or-set_other, get_or-set_same, lt-length-set, s.four.xy)

  pub cost-y : cost_of (split g v x y z) y ≡ pos 0
  unfolding split
  cost-y = let l : y < length g.cost =
      omega (arith, s.four.y<, f.cost_room) in simp (get_or-set_same, lt-length-set)

  pub cost-other : (e : ℕ) → e ≢ x → e ≢ y → e ≢ z → cost_of (split g v x y z) e ≡ cost_of g e
  unfolding split
  cost-other e nx ny nz = simp get_or-set_other

  pub cost-reserved : cost_of (split g v x y z) g.reserved ≡ cost_of g g.reserved
  cost-reserved = cost-other g.reserved s.four.rx s.four.ry s.four.rz

  pub split-crosses : (S : Side) (e : ℕ) → e ≢ g.reserved → e ≢ x → e ≢ y → e ≢ z
      → crosses (split g v x y z) S e ≡ crosses g S e
  unfolding crosses
  split-crosses S e nr nx ny nz = ap₂ (λ i j. differ (S i) (S j)) (split-low e nr nx ny nz) (split-high e nr nx ny nz)

  -- the effect of a split on a crossing count: of four edges from v there remain u to a and b to c. With v outside S
  -- and k of the four far ends inside, d'(S) = d(S) - k + [u, a parted] + [b, c parted]
  pub crossings-split : (S : Side)
      → crossings (split g v x y z) S +
      (differ (S v) (S u) + differ (S v) (S a) + differ (S v) (S b) + differ (S v) (S c))
      ≡ crossings g S + (differ (S u) (S a) + differ (S b) (S c))
  unfolding crossings_of split
  crossings-split S =
      omega (
        arith,
        sum-change-four s.four (crosses (split g v x y z) S) (crosses g S)
            (λ e l nr nx ny nz. split-crosses S e nr nx ny nz),
        runs-crosses S s.to_u,
        runs-crosses S s.to_a,
        runs-crosses S s.to_b,
        runs-crosses S s.to_c,
        runs-crosses S split-reserved,
        runs-crosses S split-z,
        runs-crosses S split-x,
        runs-crosses S split-y,
        differ_same (S v),
      )
