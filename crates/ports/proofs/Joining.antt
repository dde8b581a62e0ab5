-- Joining: two ports whose edges go on to one another leave the ports wired, with other ends of two edges.
use mathlib.Core.Bool.{cond}
use mathlib.Core.List.{List}
use mathlib.Core.Logic.{◌≢◌, ◌⊎◌, inl, inr, ⊎_elim}
use mathlib.Core.Path.{◌≡◌, sym, ◌∙◌, ap}
use Prim.Native.Nat.{ℕ, ◌≤◌, ◌<◌}
use native.Mathlib.Decide.{ℕ_discrete, dec_lt}
use native.Mathlib.Omega.{arith}
use lib.Dec.{eqb}
use lib.ListN.{length}
use Rattle.base.specs.Columns.{at}
use Rattle.base.proofs.Bools.{eqb-self, eqb_no}
use Rattle.ports.specs.Ports.{port_limit, vertex_of, far_vertex, Mated, Wired}
use Rattle.ports.specs.Splitting.{rejoined, relabelled}
use Rattle.ports.proofs.Plugging.{length-twice, Corners, cornered-a, cornered-b, cornered-c, cornered-d}
use Rattle.ports.proofs.Plugging.{cornered-other}

-- ── two places of a function changed ──
unfoldable pub changed : ℕ → ℕ → ℕ → ℕ → (ℕ → ℕ) → ℕ → ℕ
changed k i t j f e = cond (eqb e k) i (cond (eqb e t) j (f e))

module _ (k i t j : ℕ) (f : ℕ → ℕ) where
  pub changed-first : changed k i t j f k ≡ i
  unfolding changed
  changed-first = rw eqb-self

  pub changed-second : t ≢ k → changed k i t j f t ≡ j
  unfolding changed
  changed-second ne = rw (eqb_no ne, eqb-self)

  pub changed-other : (e : ℕ) → e ≢ k → e ≢ t → changed k i t j f e ≡ f e
  unfolding changed
  changed-other e nk nt = rw (eqb_no nk, eqb_no nt)

-- ── mates ──

-- two ports that can be joined: they are different, and no edge runs between them or from one to itself
pub record Joinable (mate : List ℕ) (a b : ℕ) : Type 0 where
  pub mated : Mated mate
  pub a_below : a < port_limit
  pub b_below : b < port_limit
  pub different : a ≢ b
  pub a_leads : at mate a ≢ a
  pub b_leads : at mate b ≢ b
  pub unjoined : at mate a ≢ b

-- one of two ports and their far ports, or another port
pub data Corner (mate : List ℕ) (a b p : ℕ) : Type 0 where
  at_a : p ≡ a → Corner mate a b p
  at_b : p ≡ b → Corner mate a b p
  far_a : p ≡ at mate a → Corner mate a b p
  far_b : p ≡ at mate b → Corner mate a b p
  beside : p ≢ a → p ≢ b → p ≢ at mate a → p ≢ at mate b → Corner mate a b p

pub corner : (mate : List ℕ) (a b p : ℕ) → Corner mate a b p
corner mate a b p = elim (ℕ_discrete p a) [
  | yes e ↦ at_a e
  | no na ↦
      elim (ℕ_discrete p b) [
        | yes e ↦ at_b e
        | no nb ↦
            elim (ℕ_discrete p (at mate a)) [
              | yes e ↦ far_a e
              | no nA ↦ elim (ℕ_discrete p (at mate b)) [ yes e ↦ far_b e | no nB ↦ beside na nb nA nB ]
            ]
      ]
]

module _ {mate : List ℕ} {a b : ℕ} (j : Joinable mate a b) where
  pub far-a-below : at mate a < port_limit
  far-a-below = j.mated.below a j.a_below

  pub far-b-below : at mate b < port_limit
  far-b-below = j.mated.below b j.b_below

  -- the two ports and their far ports are four places of a list that has one for each port
  pub four-ports : (l : List ℕ) → length l ≡ port_limit → Corners l a b (at mate a) (at mate b)
  four-ports l long = record {
    a< = omega (arith, j.a_below);
    b< = omega (arith, j.b_below);
    c< = omega (arith, far-a-below);
    d< = omega (arith, far-b-below);
    ab = j.different;
    ac = λ e. j.a_leads (sym e);
    ad = λ e. j.unjoined (ap (at mate) e ∙ j.mated.back b j.b_below);
    bc = λ e. j.unjoined (sym e);
    bd = λ e. j.b_leads (sym e);
    cd = λ e.
        j.different (sym (j.mated.back a j.a_below) ∙ ap (at mate) e ∙ j.mated.back b j.b_below);
  }

  q : Corners mate a b (at mate a) (at mate b)
  q = four-ports mate j.mated.long

  -- what the ports' mates are once they are joined
  pub joined-a : at (rejoined mate a b) a ≡ b
  unfolding rejoined
  joined-a = cornered-a q _ _ _ _

  pub joined-b : at (rejoined mate a b) b ≡ a
  unfolding rejoined
  joined-b = cornered-b q _ _ _ _

  pub joined-far-a : at (rejoined mate a b) (at mate a) ≡ at mate b
  unfolding rejoined
  joined-far-a = cornered-c q _ _ _ _

  pub joined-far-b : at (rejoined mate a b) (at mate b) ≡ at mate a
  unfolding rejoined
  joined-far-b = cornered-d q _ _ _ _

  pub joined-other : (p : ℕ) → p ≢ a → p ≢ b → p ≢ at mate a → p ≢ at mate b → at (rejoined mate a b) p ≡ at mate p
  unfolding rejoined
  joined-other = cornered-other q _ _ _ _

  -- the mate of another port is another port
  beside-far : (p : ℕ) → p < port_limit → p ≢ a → p ≢ b → p ≢ at mate a → p ≢ at mate b
      → (at mate p ≢ a) × (at mate p ≢ b) × (at mate p ≢ at mate a) × (at mate p ≢ at mate b)
  beside-far p l na nb nA nB =
      let back = j.mated.back in (
        λ e. nA (sym (back p l) ∙ ap (at mate) e),
        λ e. nB (sym (back p l) ∙ ap (at mate) e),
        λ e. na (sym (back p l) ∙ ap (at mate) e ∙ back a j.a_below),
        λ e. nb (sym (back p l) ∙ ap (at mate) e ∙ back b j.b_below),
      )

  pub joined-mated : Mated (rejoined mate a b)
  joined-mated = record {
    long = unfold rejoined in rw (length-twice, length-twice) j.mated.long;
    below = λ p l. within p l (corner mate a b p);
    back = λ p l. returns p l (corner mate a b p);
  }
    where
      within : (p : ℕ) → p < port_limit → Corner mate a b p → at (rejoined mate a b) p < port_limit
      within p l (at_a e) = rw (e, joined-a) j.b_below
      within p l (at_b e) = rw (e, joined-b) j.a_below
      within p l (far_a e) = rw (e, joined-far-a) far-b-below
      within p l (far_b e) = rw (e, joined-far-b) far-a-below
      within p l (beside na nb nA nB) = rw (joined-other p na nb nA nB) (j.mated.below p l)

      returns : (p : ℕ) → p < port_limit → Corner mate a b p → at (rejoined mate a b) (at (rejoined mate a b) p) ≡ p
      returns p l (at_a e) = rw (e, joined-a, joined-b)
      returns p l (at_b e) = rw (e, joined-b, joined-a)
      returns p l (far_a e) = rw (e, joined-far-a, joined-far-b)
      returns p l (far_b e) = rw (e, joined-far-b, joined-far-a)
      returns p l (beside na nb nA nB) =
          let f = beside-far p l na nb nA nB in
          rw (joined-other p na nb nA nB, joined-other (at mate p) f.0 f.1 f.2 f.3) (j.mated.back p l)

-- ── edges ──
module _ {edges vertices : ℕ} {low high : ℕ → ℕ} {mate edge : List ℕ} (w : Wired edges vertices low high mate edge) where
  -- a port of a vertex leads to one where the same edge is plugged in, of a vertex too
  pub far-edge : (p : ℕ) → vertex_of p < vertices → at edge (at mate p) ≡ at edge p
  far-edge p l =
      let t = w.taken p l in
      ⊎_elim
      (λ (e : p ≡ w.port (at edge p)). ap (λ q. at edge (at mate q)) e ∙ w.far_named (at edge p) t.0)
      (λ (e : at mate p ≡ w.port (at edge p)). ap (at edge) e ∙ w.named (at edge p) t.0)
      t.1

  port-of-vertex : (p : ℕ) → vertex_of p < vertices → p < port_limit
  port-of-vertex p l = omega (arith, w.room)

  -- two ports with the same edge are one, or each other's mates
  pub same-edge : (p s : ℕ) → vertex_of p < vertices → vertex_of s < vertices → at edge p ≡ at edge s
      → (p ≡ s) ⊎ (p ≡ at mate s)
  same-edge p s lp ls q =
      let back = w.mated.back in
      let tp = (w.taken p lp).1 in
      let ts = (w.taken s ls).1 in
      let same : w.port (at edge p) ≡ w.port (at edge s) = ap w.port q in
      ⊎_elim
      (λ (e : p ≡ w.port (at edge p)).
      ⊎_elim (λ (f : s ≡ w.port (at edge s)). inl (cc)) (λ (f : at mate s ≡ w.port (at edge s)). inr (cc)) ts)
      (λ (e : at mate p ≡ w.port (at edge p)).
      ⊎_elim
      (λ (f : s ≡ w.port (at edge s)).
      inr (sym (back p (port-of-vertex p lp)) ∙ ap (at mate) (e ∙ same ∙ sym f)))
      (λ (f : at mate s ≡ w.port (at edge s)).
      inl (sym (back p (port-of-vertex p lp)) ∙ ap (at mate) (e ∙ same ∙ sym f) ∙ back s (port-of-vertex s ls)))
      ts)
      tp

  -- a port of a vertex leads to a port of a vertex
  pub far-vertex : (p : ℕ) → vertex_of p < vertices → far_vertex mate p < vertices
  far-vertex p l = elim (dec_lt (far_vertex mate p) vertices) [
    | yes h ↦ h
    | no h ↦
        let here = w.mated.below p (port-of-vertex p l) in
        let own : at mate p ≡ p =
        sym (w.free (at mate p) (omega arith) here) ∙ w.mated.back p (port-of-vertex p l) in
        let same = ap vertex_of own in
        absurd (omega arith)
  ]

-- one of two edges, or another
data Which (k t e : ℕ) : Type 0 where
  first : e ≡ k → Which k t e
  second : e ≡ t → Which k t e
  other : e ≢ k → e ≢ t → Which k t e

which : (k t e : ℕ) → Which k t e
which k t e =
    elim (ℕ_discrete e k) [
      | yes q ↦ first q
      | no nk ↦ elim (ℕ_discrete e t) [ yes q ↦ second q | no nt ↦ other nk nt ]
    ]

-- two ports that can be joined are of vertices, and their edges are k and t, in either order
pub record Meeting (edges vertices : ℕ) (low high : ℕ → ℕ) (mate edge : List ℕ) (a b k t : ℕ) : Type 0 where
  pub wired : Wired edges vertices low high mate edge
  pub joinable : Joinable mate a b
  pub a_vertex : vertex_of a < vertices
  pub b_vertex : vertex_of b < vertices
  pub edges_differ : t ≢ k
  pub labels : ((at edge a ≡ k) × (at edge b ≡ t)) ⊎ ((at edge a ≡ t) × (at edge b ≡ k))

module _ {edges vertices : ℕ} {low high : ℕ → ℕ} {mate edge : List ℕ} {a b k t : ℕ}
    (m : Meeting edges vertices low high mate edge a b k t) where
  w : Wired edges vertices low high mate edge
  w = m.wired

  j : Joinable mate a b
  j = m.joinable

  both_below : (k < edges) × (t < edges)
  both_below =
      let ta = (w.taken a m.a_vertex).0 in
      let tb = (w.taken b m.b_vertex).0 in
      ⊎_elim (λ l. (rw l.0 at ta, rw l.1 at tb)) (λ l. (rw l.1 at tb, rw l.0 at ta)) m.labels

  -- an edge that is neither is plugged in at none of the four ports
  none_of_four : (e p : ℕ) → at edge p ≡ e → e ≢ k → e ≢ t
      → (p ≢ a) × (p ≢ b) × (p ≢ at mate a) × (p ≢ at mate b)
  none_of_four e p q nk nt =
      let fa = far-edge w a m.a_vertex in
      let fb = far-edge w b m.b_vertex in
      let not_a : at edge a ≢ e =
      λ x. ⊎_elim (λ l. nk (sym x ∙ l.0)) (λ l. nt (sym x ∙ l.0)) m.labels in
      let not-b : at edge b ≢ e =
      λ x. ⊎_elim (λ l. nt (sym x ∙ l.1)) (λ l. nk (sym x ∙ l.1)) m.labels in (
        λ x. not_a (sym (ap (at edge) x) ∙ q),
        λ x. not-b (sym (ap (at edge) x) ∙ q),
        λ x. not_a (sym fa ∙ sym (ap (at edge) x) ∙ q),
        λ x. not-b (sym fb ∙ sym (ap (at edge) x) ∙ q),
      )

  -- another port has another edge
  other_edge : (p : ℕ) → vertex_of p < vertices → p ≢ a → p ≢ b → p ≢ at mate a → p ≢ at mate b
      → (at edge p ≢ k) × (at edge p ≢ t)
  other_edge p l na nb nA nB =
      let not_a : at edge p ≢ at edge a = λ x. ⊎_elim na nA (same-edge w p a l m.a_vertex x) in
      let not-b : at edge p ≢ at edge b = λ x. ⊎_elim nb nB (same-edge w p b l m.b_vertex x) in
      ⊎_elim
      (λ l. ((λ x. not_a (x ∙ sym l.0)), (λ x. not-b (x ∙ sym l.1))))
      (λ l. ((λ x. not-b (x ∙ sym l.1)), (λ x. not_a (x ∙ sym l.0))))
      m.labels

  labels' : List ℕ
  labels' = relabelled mate edge a b k t

  c : Corners edge a b (at mate a) (at mate b)
  c = four-ports j edge w.long

  label-a : at labels' a ≡ t
  unfolding labels' relabelled
  label-a = cornered-a c _ _ _ _

  label-b : at labels' b ≡ t
  unfolding labels' relabelled
  label-b = cornered-b c _ _ _ _

  label-far-a : at labels' (at mate a) ≡ k
  unfolding labels' relabelled
  label-far-a = cornered-c c _ _ _ _

  label-far-b : at labels' (at mate b) ≡ k
  unfolding labels' relabelled
  label-far-b = cornered-d c _ _ _ _

  label-other : (p : ℕ) → p ≢ a → p ≢ b → p ≢ at mate a → p ≢ at mate b → at labels' p ≡ at edge p
  unfolding labels' relabelled
  label-other = cornered-other c _ _ _ _

  port' : ℕ → ℕ
  port' = changed k (at mate a) t a w.port

  low' : ℕ → ℕ
  low' = changed k (far_vertex mate a) t (vertex_of a) low

  high' : ℕ → ℕ
  high' = changed k (far_vertex mate b) t (vertex_of b) high

  port-k : port' k ≡ at mate a
  unfolding port'
  port-k = changed-first k (at mate a) t a w.port

  port-t : port' t ≡ a
  unfolding port'
  port-t = changed-second k (at mate a) t a w.port m.edges_differ

  -- the port of another edge, and its mate, are as they were
  module _ (e : ℕ) (l : e < edges) (nk : e ≢ k) (nt : e ≢ t) where
    port-other : port' e ≡ w.port e
    unfolding port'
    port-other = changed-other k (at mate a) t a w.port e nk nt

    mate-other : at (rejoined mate a b) (w.port e) ≡ at mate (w.port e)
    mate-other =
        let n = none_of_four e (w.port e) (w.named e l) nk nt in
        joined-other j (w.port e) n.0 n.1 n.2 n.3

  below' : (e : ℕ) → e < edges → Which k t e → port' e < port_limit
  below' e l (first q) = rw (q, port-k) (far-a-below j)
  below' e l (second q) = rw (q, port-t) j.a_below
  below' e l (other nk nt) = rw (port-other e l nk nt) (w.port_below e l)

  low-at' : (e : ℕ) → e < edges → Which k t e → vertex_of (port' e) ≡ low' e
  unfolding low'
  low-at' e l (first q) = rw (q, port-k) (sym (changed-first k _ t _ low))
  low-at' e l (second q) = rw (q, port-t) (sym (changed-second k _ t _ low m.edges_differ))
  low-at' e l (other nk nt) = rw (port-other e l nk nt) (w.low_at e l ∙ sym (changed-other k _ t _ low e nk nt))

  high-at' : (e : ℕ) → e < edges → Which k t e → far_vertex (rejoined mate a b) (port' e) ≡ high' e
  unfolding high'
  high-at' e l (first q) = rw (q, port-k, joined-far-a j) (sym (changed-first k _ t _ high))
  high-at' e l (second q) = rw (q, port-t, joined-a j) (sym (changed-second k _ t _ high m.edges_differ))
  high-at' e l (other nk nt) =
      rw (port-other e l nk nt, mate-other e l nk nt) (w.high_at e l ∙ sym (changed-other k _ t _ high e nk nt))

  named' : (e : ℕ) → e < edges → Which k t e → at labels' (port' e) ≡ e
  named' e l (first q) = rw (q, port-k) label-far-a
  named' e l (second q) = rw (q, port-t) label-a
  named' e l (other nk nt) =
      let n = none_of_four e (w.port e) (w.named e l) nk nt in
      rw (port-other e l nk nt, label-other (w.port e) n.0 n.1 n.2 n.3) (w.named e l)

  far-named' : (e : ℕ) → e < edges → Which k t e → at labels' (at (rejoined mate a b) (port' e)) ≡ e
  far-named' e l (first q) = rw (q, port-k, joined-far-a j) label-far-b
  far-named' e l (second q) = rw (q, port-t, joined-a j) label-b
  far-named' e l (other nk nt) =
      let n = none_of_four e (at mate (w.port e)) (w.far_named e l) nk nt in
      rw (port-other e l nk nt, mate-other e l nk nt, label-other (at mate (w.port e)) n.0 n.1 n.2 n.3)
      (w.far_named e l)

  apart' : (e : ℕ) → e < edges → Which k t e → at (rejoined mate a b) (port' e) ≢ port' e
  apart' e l (first q) = rw (q, port-k, joined-far-a j) (λ x. (four-ports j mate j.mated.long).cd (sym x))
  apart' e l (second q) = rw (q, port-t, joined-a j) (λ x. j.different (sym x))
  apart' e l (other nk nt) = rw (port-other e l nk nt, mate-other e l nk nt) (w.apart e l)

  Taken : ℕ → Type 0
  Taken p = (at labels' p < edges) ×
      ((p ≡ port' (at labels' p)) ⊎ (at (rejoined mate a b) p ≡ port' (at labels' p)))

  taken' : (p : ℕ) → vertex_of p < vertices → Corner mate a b p → Taken p
  unfolding Taken
  taken' p l (at_a q) = rw (q, label-a) (both_below.1, inl (sym port-t))
  taken' p l (at_b q) = rw (q, label-b, joined-b j) (both_below.1, inr (sym port-t))
  taken' p l (far_a q) = rw (q, label-far-a) (both_below.0, inl (sym port-k))
  taken' p l (far_b q) = rw (q, label-far-b, joined-far-b j) (both_below.0, inr (sym port-k))
  taken' p l (beside na nb nA nB) =
      let t = w.taken p l in
      let n = other_edge p l na nb nA nB in
      rw (label-other p na nb nA nB, joined-other j p na nb nA nB, port-other (at edge p) t.0 n.0 n.1) t

  free' : (p : ℕ) → vertices ≤ vertex_of p → p < port_limit → at (rejoined mate a b) p ≡ p
  free' p out l =
      let not-of : (s : ℕ) → vertex_of s < vertices → p ≢ s = λ s h e. let same = ap vertex_of e in omega arith in
      joined-other j p (not-of a m.a_vertex) (not-of b m.b_vertex)
      (not-of (at mate a) (far-vertex w a m.a_vertex))
      (not-of (at mate b) (far-vertex w b m.b_vertex)) ∙ w.free p out l

  -- the edge k runs between the far ports now, and t between the two
  pub joined-wired : Wired edges vertices (changed k (far_vertex mate a) t (vertex_of a) low)
      (changed k (far_vertex mate b) t (vertex_of b) high) (rejoined mate a b) (relabelled mate edge a b k t)
  unfolding low' high' labels' Taken
  joined-wired = record {
    mated = joined-mated j;
    long = unfold relabelled in rw (length-twice, length-twice) w.long;
    room = w.room;
    port = port';
    port_below = λ e l. below' e l (which k t e);
    low_at = λ e l. low-at' e l (which k t e);
    high_at = λ e l. high-at' e l (which k t e);
    named = λ e l. named' e l (which k t e);
    far_named = λ e l. far-named' e l (which k t e);
    apart = λ e l. apart' e l (which k t e);
    taken = λ p l. taken' p l (corner mate a b p);
    free = free';
  }
