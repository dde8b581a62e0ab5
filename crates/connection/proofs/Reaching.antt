-- What listed edges join to a start vertex: the vertices that a walk reaches from there, and the least set that holds
-- the start vertex and that no listed edge leaves.
use mathlib.Core.Path.{◌≡◌, refl, sym, ◌∙◌, ap}
use mathlib.Core.Logic.{◌⊎◌, inl, inr, ⊎_elim, ◌↔◌}
use mathlib.Core.Bool.{Bool, true, false, ◌&&◌, ◌||◌, or-true}
use mathlib.Core.List.{List}
use Prim.Native.Nat.{ℕ, zero, suc, ◌+◌, ◌-◌, ◌≤◌, ◌<◌}
use native.Mathlib.Omega.{arith}
use native.Mathlib.Decide.{dec_lt}
use lib.Dec.{eqb}
use lib.ListN.{length, get_or-eq_default}
use lib.Seq.{ext_get_or}
use Rattle.base.specs.Fold.{sum, bit, tabulate}
use Rattle.graph.specs.Network.{low_end, high_end, kept}
use Rattle.graph.specs.Cut.{Side, side_of}
use Rattle.graph.specs.Sound.{Formed}
use Rattle.base.specs.Limits.{vertex_limit}
use Rattle.graph.specs.declared.Network.{Network}
use Rattle.base.proofs.Bools.{never, eqb-self, eqb_is, and_left, and_right, bit-low, same_test}
use Rattle.base.proofs.Sums.{any-in, any_out, sum-ext, sum_zeros, sum-join, sum_bound, term-le, tabulate-length}
use Rattle.base.proofs.Sums.{tabulate-at}
use Rattle.connection.specs.Connection.{leads, grown, within, reached, joined, reached_count, connected}
use Rattle.connection.specs.Walk.{Joins, Link, Walk, stays, goes, JoinedByWalks}
use Rattle.connection.specs.Searchable.{Searchable}
use Rattle.connection.specs.Search.{Closed, Least}
use Rattle.connection.specs.Words.{has, size}
use Rattle.connection.specs.declared.words.VertexSet.{VertexSet}
use Rattle.connection.proofs.Tallies.{bit_le, bit-same, sum_same, each-count}

-- the ends of an edge are on one side exactly if the two vertices that it joins are
pub across : (g : Network) (e : ℕ) {v w : ℕ} (S : Side) → Joins g.low g.high e v w
    → (S (low_end g e) ≡ S (high_end g e)) ↔ (S v ≡ S w)
across g e S (inl (p, q)) = (λ h. rw (p, q) at h, λ h. rw (p, q) h)
across g e S (inr (p, q)) = (λ h. sym (rw (q, p) at h), λ h. rw (q, p) (sym h))

or-either : (a b : Bool) → (a || b) ≡ true → (a ≡ true) ⊎ (b ≡ true)
or-either true b h = inl refl
or-either false b h = inr h

-- ── one listed edge more ──

module _ (g : Network) (K : List Bool) where
  -- what one listed edge joins to R
  grown-from : (R : Side) (v : ℕ) → grown g K R v ≡ true
      → (R v ≡ true) ⊎ ((e : ℕ) × (u : ℕ) × Link g K e u v × (R u ≡ true))
  unfolding grown leads
  grown-from R v h = ⊎_elim inl (λ a. inr (by-edge (any_out g.edges _ a))) (or-either (R v) _ h)
    where
      by-edge : (e : ℕ) × (e < g.edges) × ((kept K e && leads g R v e) ≡ true)
          → (e : ℕ) × (u : ℕ) × Link g K e u v × (R u ≡ true)
      by-edge (e, l, k) = ⊎_elim
          (λ a.
          let ends = inr (refl, eqb_is (and_left at_low (R high) a)) in
          (e, high, record { number = l; listed = listed; ends = ends }, and_right at_low (R high) a))
          (λ a.
          let ends = inl (refl, eqb_is (and_left at_high (R low) a)) in
          (e, low, record { number = l; listed = listed; ends = ends }, and_right at_high (R low) a))
          (or-either (at_low && R high) (at_high && R low) (and_right (kept K e) (leads g R v e) k))
        where
          low : ℕ
          low = low_end g e

          high : ℕ
          high = high_end g e

          at_low : Bool
          at_low = eqb low v

          at_high : Bool
          at_high = eqb high v

          listed : kept K e ≡ true
          listed = and_left (kept K e) (leads g R v e) k

  grown-by : (R : Side) (e u v : ℕ) → Link g K e u v → R u ≡ true → grown g K R v ≡ true
  unfolding grown leads
  grown-by R e u v k r =
      let found = any-in g.edges (λ e. kept K e && leads g R v e) e k.number (rw k.listed (joins k.ends)) in
      rw found (or-true (R v))
    where
      joins : ((low_end g e ≡ u) × (high_end g e ≡ v)) ⊎ ((high_end g e ≡ u) × (low_end g e ≡ v)) → leads g R v e ≡ true
      joins (inl (a, b)) = rw (a, b, r, eqb-self v) (or-true (eqb u v && R v))
      joins (inr (a, b)) = rw (a, b, r, eqb-self v)

-- ── at most k listed edges in a row ──

module _ (g : Network) (K : List Bool) (start : ℕ) where
  within-length : (k : ℕ) → length (within g K start k) ≡ g.vertices
  unfolding within
  within-length zero = tabulate-length g.vertices (λ v. eqb v start)
  within-length (suc k) = tabulate-length g.vertices (grown g K (side_of (within g K start k)))

  within-next : (k v : ℕ) → v < g.vertices
      → side_of (within g K start (suc k)) v ≡ grown g K (side_of (within g K start k)) v
  unfolding within
  within-next k v l = tabulate-at g.vertices (grown g K (side_of (within g K start k))) false v l

  within-below : (k v : ℕ) → side_of (within g K start k) v ≡ true → v < g.vertices
  within-below k v h = elim (dec_lt v g.vertices) [
    | yes l ↦ l
    | no l ↦ never (sym (get_or-eq_default (within g K start k) false (omega (arith, within-length k))) ∙ h)
  ]

  pub reached-length : length (reached g K start) ≡ g.vertices
  unfolding reached
  reached-length = within-length g.vertices

  -- what holds of the start vertex, and passes along listed edges, holds of each
  module _ (P : ℕ → Type 0) (first : P start) (next : (e v w : ℕ) → Link g K e v w → P v → P w) where
    within_all : (k v : ℕ) → side_of (within g K start k) v ≡ true → P v
    unfolding within
    within_all zero v h =
        let at-start = tabulate-at g.vertices (λ v. eqb v start) false v (within-below 0 v h) in
        let e : v ≡ start = eqb_is (sym at-start ∙ h) in
        rw e first
    within_all (suc k) v h = ⊎_elim
        (λ r. within_all k v r)
        (λ (e, u, l, r). next e u v l (within_all k u r))
        (grown-from g K (side_of (within g K start k)) v (sym (within-next k v (within-below (suc k) v h)) ∙ h))

  -- ── after as many rounds as there are vertices nothing more is reached ──

  amount : ℕ → ℕ
  amount k = sum g.vertices (λ v. bit (side_of (within g K start k) v))

  amount-low : (k : ℕ) → amount k ≤ g.vertices
  unfolding amount
  amount-low k =
      let R = side_of (within g K start k) in
      omega (arith, sum_bound g.vertices 1 (λ v. bit (R v)) (λ v l. bit-low (R v)))

  Still : ℕ → Type 0
  Still k = within g K start (suc k) ≡ within g K start k

  still-on : (k : ℕ) → Still k → Still (suc k)
  unfolding Still within
  still-on k e = ap (λ R. tabulate g.vertices (grown g K (side_of R))) e

  still-if : (k : ℕ) → amount (suc k) ≤ amount k → Still k
  unfolding Still amount grown
  still-if k h =
      let old = side_of (within g K start k) in
      let new = side_of (within g K start (suc k)) in
      let rises : (v : ℕ) → v < g.vertices → bit (old v) ≤ bit (new v) =
      λ v l. bit_le (old v) (new v) (λ e. rw (within-next k v l, e)) in
      let same = sum_same g.vertices (λ v. bit (old v)) (λ v. bit (new v)) rises h in
      ext_get_or false _ _ (within-length (suc k) ∙ sym (within-length k))
      (λ v l. sym (bit-same _ _ (same v (omega (arith, within-length (suc k))))))

  module _ (some : start < g.vertices) where
    within-start : (k : ℕ) → side_of (within g K start k) start ≡ true
    unfolding within grown
    within-start zero = tabulate-at g.vertices (λ v. eqb v start) false start some ∙ eqb-self start
    within-start (suc k) = within-next k start some ∙ rw (within-start k)

    still : (k : ℕ) → amount k ≤ k → Still k
    unfolding amount
    still zero h =
        let one = term-le g.vertices (λ v. bit (side_of (within g K start 0) v)) start some in
        absurd (omega (arith, one, ap bit (within-start 0)))
    still (suc k) h = elim (dec_lt k (amount k)) [
      | yes l ↦ still-on k (still-if k (omega arith))
      | no l ↦ still-on k (still k (omega arith))
    ]

    joined-start : joined g K start start ≡ true
    unfolding joined reached
    joined-start = within-start g.vertices

    joined-link : (e v w : ℕ) → w < g.vertices → Link g K e v w → joined g K start v ≡ true → joined g K start w ≡ true
    unfolding joined reached Still
    joined-link e v w l k h =
        let n = g.vertices in
        let last = ap (λ R. side_of R w) (sym (still n (amount-low n))) in
        last ∙ within-next n w l ∙ grown-by g K (side_of (within g K start n)) e v w k h

-- ── the three ways to say it ──

-- there is one least set
least-one : {low high : List ℕ} {K : List Bool} {m start : ℕ} {S T : Side}
    → Least low high K m start S → Least low high K m start T → (v : ℕ) → S v ≡ T v
least-one {S = S} {T = T} a b v =
    same_test (S v) (T v) (a.inside T b.holds_start b.closed v) (b.inside S a.holds_start a.closed v)

module _ (g : Network) (K : List Bool) (start : ℕ) (w : Searchable g) (some : start < g.vertices) where
  link-below : (e u v : ℕ) → Link g K e u v → v < g.vertices
  link-below e u v k = ⊎_elim
      (λ (a, b). rw b at (w.high_below e k.number))
      (λ (a, b). rw b at (w.low_below e k.number))
      k.ends

  -- a walk over listed edges leads to each vertex that is joined, and to no other
  by_walks : (v : ℕ) → (joined g K start v ≡ true) ↔ Walk g K start v
  unfolding joined reached
  by_walks v = (within_all g K start (Walk g K start) stays (λ e u w k j. goes j k) g.vertices v, back)
    where
      back : {v : ℕ} → Walk g K start v → joined g K start v ≡ true
      back stays = joined-start g K start some
      back (goes {e = e} {v = u} {w = v} j k) = joined-link g K start some e u v (link-below e u v k) k (back j)

  -- they are the least set that holds the start vertex and that no listed edge leaves
  pub joined-least : Least g.low g.high K g.edges start (joined g K start)
  unfolding joined reached
  joined-least = record {
    holds_start = joined-start g K start some;
    closed = λ e l k. same_test (joined g K start (low_end g e)) (joined g K start (high_end g e))
        (onward e (w.high_below e l) (record { number = l; listed = k; ends = inl (refl, refl) }))
        (onward e (w.low_below e l) (record { number = l; listed = k; ends = inr (refl, refl) }));
    inside = all-inside;
  }
    where
      onward : (e : ℕ) {u v : ℕ} → v < g.vertices → Link g K e u v
          → joined g K start u ≡ true → joined g K start v ≡ true
      onward e {u} {v} = joined-link g K start some e u v

      along : (T : Side) → Closed g.low g.high K g.edges T
          → (e u v : ℕ) → Link g K e u v → T u ≡ true → T v ≡ true
      along T closed e u v k t = sym ((across g e T k.ends).0 (closed e k.number k.listed)) ∙ t

      all-inside : (T : Side) → T start ≡ true → Closed g.low g.high K g.edges T
          → (v : ℕ) → joined g K start v ≡ true → T v ≡ true
      all-inside T z closed v =
          within_all g K start (λ u. T u ≡ true) z (λ e u x k t. along T closed e u x k t) g.vertices v

  -- ── what the search's words say ──

  module _ (S : VertexSet) (least : Least g.low g.high K g.edges start (has S)) where
    -- bit v is set exactly if the listed edges join v to the start vertex
    least-joined : (v : ℕ) → has S v ≡ joined g K start v
    least-joined = least-one least joined-least

    -- and so many bits are set
    pub least_size : g.vertices ≤ vertex_limit → size S ≡ reached_count g K start
    unfolding size reached_count joined
    least_size room =
        let n = g.vertices in
        let f : ℕ → ℕ = λ v. bit (joined g K start v) in
        let same = sum-ext vertex_limit (λ v. bit (has S v)) f (λ v l. ap bit (least-joined v)) in
        let all : n + (vertex_limit - n) ≡ vertex_limit = omega arith in
        let short = reached-length g K start in
        let beyond = sum-ext (vertex_limit - n) (λ i. f (n + i)) (λ i. 0)
        (λ i l. ap bit (get_or-eq_default (reached g K start) false (omega arith))) in
        omega (
          arith,
          same,
          sum-join n (vertex_limit - n) f,
          beyond,
          sum_zeros (vertex_limit - n),
          ap (λ k. sum k f) all,
        )

-- what is joined is what walks reach
pub joined-by-walks : JoinedByWalks
joined-by-walks g K start v w some = by_walks g K start w some v

-- ── whether all are joined ──

pub connected-count : (g : Network) (K : List Bool) → connected g K ≡ eqb (reached_count g K 0) g.vertices
unfolding connected reached_count
connected-count g K = each-count g.vertices (joined g K 0)

-- a network as it is read, or after any steps, can be searched
pub formed-searchable : (g : Network) → Formed g → Searchable g
formed-searchable g f = record {
  low_room = f.low_room;
  high_room = f.high_room;
  present_room = f.present_room;
  some = omega (arith, f.low_below g.reserved f.reserved_below);
  low_below = f.low_below;
  high_below = f.high_below;
}
