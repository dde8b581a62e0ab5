-- Wiring: the ports while a network's edges are plugged in one after the other.
use mathlib.Core.Bool.{cond}
use mathlib.Core.List.{List}
use mathlib.Core.Logic.{◌≢◌, ◌⊎◌, inl, inr}
use mathlib.Core.Path.{◌≡◌, sym, ◌∙◌, ap}
use Prim.Native.Nat.{ℕ, ◌+◌, ◌*◌, ◌%◌, ◌≤◌, ◌<◌}
use native.Mathlib.Decide.{ℕ_discrete}
use native.Mathlib.Omega.{arith}
use borrow.Author.Count.{below_more}
use borrow.Author.Tests.{eq-eqb}
use lib.Dec.{eqb}
use lib.ListN.{length, replicate, length-replicate}
use Rattle.base.specs.Columns.{at}
use Rattle.base.specs.Fold.{fold, sum, bit}
use Rattle.base.specs.Limits.{vertex_limit}
use Rattle.base.proofs.Bools.{eqb-self, eqb_no}
use Rattle.base.proofs.Sums.{fold_more, sum-ext, sum_zeros, sum-fewer, tabulate-length, tabulate-at}
use Rattle.graph.specs.Network.{low_end, high_end, ends_at, degree}
use Rattle.graph.specs.declared.Network.{Network}
use Rattle.incidence.specs.Degrees.{degrees_among, end_counted}
use Rattle.incidence.proofs.Tally.{counted-at, no_edge, one-more-edge}
use Rattle.ports.specs.Ports.{ports_each, port_limit, vertex_of, far_vertex, unwired, plugged, labelled, Mated, WiredAs}
use Rattle.ports.specs.Wiring.{Pluggable}
use Rattle.ports.proofs.Plugging.{length-twice, twice-first, twice-second, twice-other}

-- the first k edges of a network are plugged in, each vertex's ports in turn
pub record PluggedTo (g : Network) (k : ℕ) (mate edge used : List ℕ) : Type 0 where
  pub few : k ≤ g.edges
  pub mated : Mated mate
  pub long : length edge ≡ port_limit
  pub counted : used ≡ degrees_among g k
  pub port : ℕ → ℕ
  pub port_below : (e : ℕ) → e < k → port e < port_limit
  pub low_at : (e : ℕ) → e < k → vertex_of (port e) ≡ low_end g e
  pub high_at : (e : ℕ) → e < k → far_vertex mate (port e) ≡ high_end g e
  pub named : (e : ℕ) → e < k → at edge (port e) ≡ e
  pub far_named : (e : ℕ) → e < k → at edge (at mate (port e)) ≡ e
  pub apart : (e : ℕ) → e < k → at mate (port e) ≢ port e
  pub taken : (p : ℕ) → p < port_limit → p % ports_each < sum k (ends_at g (vertex_of p))
      → (at edge p < k) × ((p ≡ port (at edge p)) ⊎ (at mate p ≡ port (at edge p)))
  pub free : (p : ℕ) → p < port_limit → sum k (ends_at g (vertex_of p)) ≤ p % ports_each → at mate p ≡ p

-- nothing is plugged in
own : (p : ℕ) → p < port_limit → at unwired p ≡ p
own p l = tabulate-at port_limit (λ q. q) 0 p l

pub plugged-none : (g : Network) → PluggedTo g 0 unwired (replicate port_limit 0) (replicate vertex_limit 0)
unfolding fold
plugged-none g = record {
  few = omega arith;
  mated = record {
    long = tabulate-length port_limit (λ p. p);
    below = λ p l. rw (own p l) l;
    back = λ p l. rw (own p l) (own p l);
  };
  long = length-replicate {A = ℕ} port_limit 0;
  counted = no_edge g;
  port = λ e. 0;
  port_below = λ e l. absurd (omega arith);
  low_at = λ e l. absurd (omega arith);
  high_at = λ e l. absurd (omega arith);
  named = λ e l. absurd (omega arith);
  far_named = λ e l. absurd (omega arith);
  apart = λ e l. absurd (omega arith);
  taken = λ p l h. absurd (omega arith);
  free = λ p l h. own p l;
}

-- ── one edge more ──
module _ {g : Network} (able : Pluggable g) {k : ℕ} {mate edge used : List ℕ} (t : PluggedTo g k mate edge used)
    (l : k < g.edges) where
  -- how many ports of a vertex are used
  S : ℕ → ℕ
  S v = sum k (ends_at g v)

  low-vertex : low_end g k < vertex_limit
  low-vertex = omega (arith, able.formed.low_below k l, able.room)

  high-vertex : high_end g k < vertex_limit
  high-vertex = omega (arith, able.formed.high_below k l, able.room)

  used-at : (v : ℕ) → v < vertex_limit → at used v ≡ S v
  unfolding S degrees_among
  used-at v h = ap (λ m. at m v) t.counted ∙ tabulate-at vertex_limit (λ v. sum k (ends_at g v)) 0 v h

  used-long : length used ≡ vertex_limit
  unfolding degrees_among
  used-long = ap length t.counted ∙ tabulate-length vertex_limit (λ v. sum k (ends_at g v))

  more : (v : ℕ) → sum (k + 1) (ends_at g v) ≡ S v + (bit (eqb (low_end g k) v) + bit (eqb (high_end g k) v))
  unfolding S ends_at
  more v = fold_more ◌+◌ 0 k (ends_at g v)

  -- no vertex has more ends than ports
  few-ends : (v : ℕ) → v < g.vertices → S v + (bit (eqb (low_end g k) v) + bit (eqb (high_end g k) v)) ≤ ports_each
  unfolding degree
  few-ends v h =
      omega (arith, more v, sum-fewer (k + 1) g.edges (ends_at g v) (omega arith), able.degrees v h)

  low-one : bit (eqb (low_end g k) (low_end g k)) ≡ 1
  low-one = ap bit (eqb-self (low_end g k))

  high_one : bit (eqb (high_end g k) (high_end g k)) ≡ 1
  high_one = ap bit (eqb-self (high_end g k))

  -- the low end's port is left, and then the high end's
  pub low_left : at used (low_end g k) < ports_each
  low_left =
      omega (arith, used-at (low_end g k) low-vertex, few-ends (low_end g k) (able.formed.low_below k l), low-one)

  used-once : at (end_counted used (low_end g k)) (high_end g k)
      ≡ S (high_end g k) + bit (eqb (low_end g k) (high_end g k))
  used-once =
      counted-at used (low_end g k) (high_end g k) (omega (arith, used-long, high-vertex))
      ∙ ap (λ n. n + bit (eqb (low_end g k) (high_end g k))) (used-at (high_end g k) high-vertex)

  pub high_left : at (end_counted used (low_end g k)) (high_end g k) < ports_each
  high_left = omega (arith, used-once, few-ends (high_end g k) (able.formed.high_below k l), high_one)

  module _ {a b : ℕ} (a-is : a ≡ ports_each * low_end g k + at used (low_end g k))
      (b-is : b ≡ ports_each * high_end g k + at (end_counted used (low_end g k)) (high_end g k)) where
    a_vertex : vertex_of a ≡ low_end g k
    a_vertex = omega (arith, low_left)

    a-place : a % ports_each ≡ S (low_end g k)
    a-place = omega (arith, low_left, used-at (low_end g k) low-vertex)

    b_vertex : vertex_of b ≡ high_end g k
    b_vertex = omega (arith, high_left)

    b-place : b % ports_each ≡ S (high_end g k) + bit (eqb (low_end g k) (high_end g k))
    b-place = omega (arith, high_left, used-once)

    pub a_below : a < port_limit
    a_below = omega (arith, low_left, low-vertex)

    pub b_below : b < port_limit
    b_below = omega (arith, high_left, high-vertex)

    a-free : at mate a ≡ a
    unfolding S
    a-free = t.free a a_below (rw a_vertex (omega (arith, a-place)))

    b-free : at mate b ≡ b
    unfolding S
    b-free = t.free b b_below (rw b_vertex (omega (arith, b-place)))

    different : a ≢ b
    different e =
        let same : low_end g k ≡ high_end g k = omega (arith, a_vertex, b_vertex) in
        let one = ap (λ v. bit (eqb (low_end g k) v)) same in
        let level = ap S same in
        omega (arith, a-place, b-place, low-one)

    mate-a : at (plugged mate a b) a ≡ b
    mate-a = twice-first mate a b b a different (omega (arith, t.mated.long, a_below))

    mate-b : at (plugged mate a b) b ≡ a
    mate-b = twice-second mate a b b a (omega (arith, t.mated.long, b_below))

    mate-other : (p : ℕ) → p ≢ a → p ≢ b → at (plugged mate a b) p ≡ at mate p
    mate-other = twice-other mate a b b a

    edge-a : at (labelled edge a b k) a ≡ k
    edge-a = twice-first edge a k b k different (omega (arith, t.long, a_below))

    edge-b : at (labelled edge a b k) b ≡ k
    edge-b = twice-second edge a k b k (omega (arith, t.long, b_below))

    edge_other : (p : ℕ) → p ≢ a → p ≢ b → at (labelled edge a b k) p ≡ at edge p
    edge_other = twice-other edge a k b k

    -- one of the two ports, or another
    data Spot (p : ℕ) : Type 0 where
      is_a : p ≡ a → Spot p
      is_b : p ≡ b → Spot p
      is_other : p ≢ a → p ≢ b → Spot p

    spot : (p : ℕ) → Spot p
    spot p = elim (ℕ_discrete p a) [
      | yes e ↦ is_a e
      | no na ↦ elim (ℕ_discrete p b) [ yes e ↦ is_b e | no nb ↦ is_other na nb ]
    ]

    -- the mate of another port is another port
    far-other : (p : ℕ) → p < port_limit → p ≢ a → p ≢ b → (at mate p ≢ a) × (at mate p ≢ b)
    far-other p h na nb = (
      λ e. na (sym (t.mated.back p h) ∙ ap (at mate) e ∙ a-free),
      λ e. nb (sym (t.mated.back p h) ∙ ap (at mate) e ∙ b-free),
    )

    mated' : Mated (plugged mate a b)
    mated' = record {
      long = length-twice mate a b b a ∙ t.mated.long;
      below = λ p h. below p h (spot p);
      back = λ p h. back p h (spot p);
    }
      where
        below : (p : ℕ) → p < port_limit → Spot p → at (plugged mate a b) p < port_limit
        below p h (is_a e) = rw (e, mate-a) b_below
        below p h (is_b e) = rw (e, mate-b) a_below
        below p h (is_other na nb) = rw (mate-other p na nb) (t.mated.below p h)

        back : (p : ℕ) → p < port_limit → Spot p → at (plugged mate a b) (at (plugged mate a b) p) ≡ p
        back p h (is_a e) = rw (e, mate-a, mate-b)
        back p h (is_b e) = rw (e, mate-b, mate-a)
        back p h (is_other na nb) =
            let f = far-other p h na nb in
            rw (mate-other p na nb, mate-other (at mate p) f.0 f.1) (t.mated.back p h)

    -- a port that was plugged before is another
    module _ (e : ℕ) (h : e < k) where
      port-spot : (t.port e ≢ a) × (t.port e ≢ b)
      port-spot = (
        λ q. t.apart e h (ap (at mate) q ∙ a-free ∙ sym q),
        λ q. t.apart e h (ap (at mate) q ∙ b-free ∙ sym q),
      )

      far-spot : (at mate (t.port e) ≢ a) × (at mate (t.port e) ≢ b)
      far-spot = far-other (t.port e) (t.port_below e h) port-spot.0 port-spot.1

    port' : ℕ → ℕ
    port' e = cond (eqb e k) a (t.port e)

    port-new : port' k ≡ a
    unfolding port'
    port-new = rw eqb-self

    port-old : (e : ℕ) → e < k → port' e ≡ t.port e
    unfolding port'
    port-old e h = rw (eqb_no {a = e} {b = k} (λ q. omega arith))

    Taken : ℕ → Type 0
    Taken p = (at (labelled edge a b k) p < k + 1) ×
        ((p ≡ port' (at (labelled edge a b k) p)) ⊎ (at (plugged mate a b) p ≡ port' (at (labelled edge a b k) p)))

    -- a port that is used now and none of the two was used before
    used-before : (p : ℕ) → p ≢ a → p ≢ b → p % ports_each < sum (k + 1) (ends_at g (vertex_of p))
        → p % ports_each < sum k (ends_at g (vertex_of p))
    unfolding S
    used-before p na nb h = go (ℕ_discrete (low_end g k) (vertex_of p)) (ℕ_discrete (high_end g k) (vertex_of p))
      where
        go : Dec (low_end g k ≡ vertex_of p) → Dec (high_end g k ≡ vertex_of p)
            → p % ports_each < sum k (ends_at g (vertex_of p))
        go (yes i) (yes j) =
            let one = ap bit (eq-eqb _ _ i) in
            let two = ap bit (eq-eqb _ _ j) in
            let both = ap bit (eq-eqb _ _ (i ∙ sym j)) in
            let level = ap S i in
            let level' = ap S j in
            omega (arith, more (vertex_of p), a_vertex, a-place, b_vertex, b-place)
        go (yes i) (no j) =
            let one = ap bit (eq-eqb _ _ i) in
            let two = ap bit (eqb_no j) in
            let level = ap S i in
            omega (arith, more (vertex_of p), a_vertex, a-place)
        go (no i) (yes j) =
            let one = ap bit (eqb_no i) in
            let two = ap bit (eq-eqb _ _ j) in
            let apart = ap bit (eqb_no {a = low_end g k} {b = high_end g k} (λ q. i (q ∙ j))) in
            let level = ap S j in
            omega (arith, more (vertex_of p), b_vertex, b-place)
        go (no i) (no j) =
            let one = ap bit (eqb_no i) in
            let two = ap bit (eqb_no j) in
            omega (arith, more (vertex_of p))

    taken' : (p : ℕ) → p < port_limit → p % ports_each < sum (k + 1) (ends_at g (vertex_of p)) → Spot p → Taken p
    unfolding Taken
    taken' p h u (is_a e) = rw (e, edge-a) (omega arith, inl (sym port-new))
    taken' p h u (is_b e) = rw (e, edge-b, mate-b) (omega arith, inr (sym port-new))
    taken' p h u (is_other na nb) =
        let before = t.taken p h (used-before p na nb u) in
        rw (edge_other p na nb, mate-other p na nb, port-old (at edge p) before.0)
        (omega (arith, before.0), before.1)

    free' : (p : ℕ) → p < port_limit → sum (k + 1) (ends_at g (vertex_of p)) ≤ p % ports_each
        → at (plugged mate a b) p ≡ p
    unfolding S
    free' p h u =
        let not_a : p ≢ a = λ e.
        let v = ap vertex_of e ∙ a_vertex in
        let one = ap bit (eq-eqb (low_end g k) (vertex_of p) (sym v)) in
        let level = ap S v in
        omega (arith, more (vertex_of p), a-place) in
        let not-b : p ≢ b = λ e.
        let v = ap vertex_of e ∙ b_vertex in
        let one = ap bit (eq-eqb (high_end g k) (vertex_of p) (sym v)) in
        let both = ap (λ w. bit (eqb (low_end g k) w)) v in
        let level = ap S v in
        omega (arith, more (vertex_of p), b-place) in
        mate-other p not_a not-b ∙ t.free p h (omega (arith, more (vertex_of p)))

    pub plugged-on : PluggedTo g (k + 1) (plugged mate a b) (labelled edge a b k)
        (end_counted (end_counted used (low_end g k)) (high_end g k))
    unfolding Taken
    plugged-on = record {
      few = omega arith;
      mated = mated';
      long = length-twice edge a k b k ∙ t.long;
      counted =
          ap (λ u. end_counted (end_counted u (low_end g k)) (high_end g k)) t.counted ∙ one-more-edge g k;
      port = port';
      port_below = below_more _ k (λ e h. rw (port-old e h) (t.port_below e h)) (rw port-new a_below);
      low_at = below_more _ k (λ e h. rw (port-old e h) (t.low_at e h)) (rw port-new a_vertex);
      high_at = below_more _ k
          (λ e h. rw (port-old e h, mate-other (t.port e) (port-spot e h).0 (port-spot e h).1) (t.high_at e h))
          (rw (port-new, mate-a) b_vertex);
      named = below_more _ k
          (λ e h. rw (port-old e h, edge_other (t.port e) (port-spot e h).0 (port-spot e h).1) (t.named e h))
          (rw port-new edge-a);
      far_named = below_more _ k
          (λ e h. rw (
            port-old e h,
            mate-other (t.port e) (port-spot e h).0 (port-spot e h).1,
            edge_other (at mate (t.port e)) (far-spot e h).0 (far-spot e h).1,
          ) (t.far_named e h))
          (rw (port-new, mate-a) edge-b);
      apart = below_more _ k
          (λ e h. rw (port-old e h, mate-other (t.port e) (port-spot e h).0 (port-spot e h).1) (t.apart e h))
          (rw (port-new, mate-a) (λ q. different (sym q)));
      taken = λ p h u. taken' p h u (spot p);
      free = free';
    }

  -- the same of lists that are known to be these
  pub plugged-next : {a b : ℕ} {mate' edge' used' used'' : List ℕ}
      → a ≡ ports_each * low_end g k + at used (low_end g k)
      → used' ≡ end_counted used (low_end g k)
      → b ≡ ports_each * high_end g k + at used' (high_end g k)
      → used'' ≡ end_counted used' (high_end g k)
      → mate' ≡ plugged mate a b
      → edge' ≡ labelled edge a b k → PluggedTo g (k + 1) mate' edge' used''
  plugged-next {a} {b} a-is once b-is twice mates labels =
      rw (mates, labels, twice, once) (plugged-on a-is (rw once at b-is))

  pub ports-below : {a b : ℕ} {used' : List ℕ} → a ≡ ports_each * low_end g k + at used (low_end g k)
      → used' ≡ end_counted used (low_end g k) → b ≡ ports_each * high_end g k + at used' (high_end g k)
      → (a < port_limit) × (b < port_limit)
  ports-below a-is once b-is = (a_below a-is (rw once at b-is), b_below a-is (rw once at b-is))

-- ── all edges ──
module _ {g : Network} (able : Pluggable g) {mate edge used : List ℕ} (t : PluggedTo g g.edges mate edge used) where
  -- a vertex of the network has four ends, and no other number has any
  no_end : (v : ℕ) → g.vertices ≤ v → sum g.edges (ends_at g v) ≡ 0
  no_end v h =
      sum-ext g.edges (ends_at g v) (λ _. 0)
      (λ e l. unfold ends_at in
      let i = ap bit (eqb_no {a = low_end g e} {b = v} (λ q. omega (arith, able.formed.low_below e l))) in
      let j = ap bit (eqb_no {a = high_end g e} {b = v} (λ q. omega (arith, able.formed.high_below e l))) in
      omega arith)
      ∙ sum_zeros g.edges

  pub plugged-all : WiredAs g mate edge
  plugged-all = record {
    mated = t.mated;
    long = t.long;
    room = able.room;
    port = t.port;
    port_below = t.port_below;
    low_at = t.low_at;
    high_at = t.high_at;
    named = t.named;
    far_named = t.far_named;
    apart = t.apart;
    taken = λ p h. t.taken p (omega (arith, able.room)) (unfold degree in omega (arith, able.degrees (vertex_of p) h));
    free = λ p h l. t.free p l (omega (arith, no_end (vertex_of p) h));
  }
