-- Splitting off a vertex at its ports leaves the ports of the network after the split.
use mathlib.Core.List.{List}
use mathlib.Core.Logic.{◌≢◌, inl, inr, ⊎_elim}
use mathlib.Core.Path.{◌≡◌, sym, ◌∙◌, ap}
use Prim.Native.Nat.{ℕ, ◌<◌}
use native.Mathlib.Omega.{arith}
use Rattle.base.specs.Columns.{at}
use Rattle.graph.specs.Network.{low_end, high_end}
use Rattle.graph.specs.Sound.{Formed}
use Rattle.graph.specs.Split.{split}
use Rattle.graph.specs.declared.Network.{Network}
use Rattle.graph.proofs.Splitting.{Place, at_reserved, at_x, at_y, at_z, beside, place}
use Rattle.graph.proofs.Stars.{Runs, forward, backward, Star, reserved-ends, x-ends, y-ends, z-ends}
use Rattle.graph.proofs.Stars.{split-low, split-high}
use Rattle.ports.specs.Ports.{port_limit, vertex_of, far_vertex, Wired, WiredAs}
use Rattle.ports.specs.Splitting.{rejoined, relabelled, split_mates, split_labels}
use Rattle.ports.proofs.Joining.{changed, changed-first, changed-second, changed-other, Joinable, Meeting}
use Rattle.ports.proofs.Joining.{joined-other, joined-wired, four-ports}
use Rattle.ports.proofs.Plugging.{cornered-other}

-- ends that are the same, edge by edge
pub wired-ext : {edges vertices : ℕ} {low high low' high' : ℕ → ℕ} {mate edge : List ℕ}
    → ((e : ℕ) → e < edges → (low e ≡ low' e) × (high e ≡ high' e)) → Wired edges vertices low high mate edge
    → Wired edges vertices low' high' mate edge
wired-ext same w = record {
  mated = w.mated;
  long = w.long;
  room = w.room;
  port = w.port;
  port_below = w.port_below;
  low_at = λ e l. w.low_at e l ∙ (same e l).0;
  high_at = λ e l. w.high_at e l ∙ (same e l).1;
  named = w.named;
  far_named = w.far_named;
  apart = w.apart;
  taken = w.taken;
  free = w.free;
}

-- ── the edge at a port ──
module _ (g : Network) {mate edge : List ℕ} (w : WiredAs g mate edge) (p : ℕ) (l : vertex_of p < g.vertices) where
  -- it runs from the port's vertex to the far one
  pub port-runs : Runs g (at edge p) (vertex_of p) (far_vertex mate p)
  port-runs =
      let t = w.taken p l in
      let e = at edge p in
      let below : p < port_limit = omega (arith, w.room) in
      ⊎_elim
      (λ (q : p ≡ w.port e).
      forward (sym (w.low_at e t.0) ∙ ap vertex_of (sym q))
      (sym (w.high_at e t.0) ∙ ap (far_vertex mate) (sym q)))
      (λ (q : at mate p ≡ w.port e).
      backward (sym (w.low_at e t.0) ∙ ap vertex_of (sym q))
      (sym (w.high_at e t.0) ∙ ap (far_vertex mate) (sym q) ∙ ap vertex_of (w.mated.back p below)))
      t.1

-- an edge that is no loop at v has one far end
pub one-far : {g : Network} {e v f f' : ℕ} → Runs g e v f → Runs g e v f' → f ≢ v → f' ≡ f
one-far (forward a b) (forward a' b') ne = sym b' ∙ b
one-far (forward a b) (backward a' b') ne = absurd (ne (sym b ∙ b'))
one-far (backward a b) (forward a' b') ne = absurd (ne (sym a ∙ a'))
one-far (backward a b) (backward a' b') ne = sym a' ∙ a

-- ── four ports of a vertex, with the edges of its star ──
pub record StarPorts (g : Network) (edge : List ℕ) (v x y z r i j k : ℕ) : Type 0 where
  pub r_at : vertex_of r ≡ v
  pub i_at : vertex_of i ≡ v
  pub j_at : vertex_of j ≡ v
  pub k_at : vertex_of k ≡ v
  pub r_edge : at edge r ≡ g.reserved
  pub i_edge : at edge i ≡ x
  pub j_edge : at edge j ≡ y
  pub k_edge : at edge k ≡ z

module _ (g : Network) {mate edge : List ℕ} (w : WiredAs g mate edge) {v x y z u a b c : ℕ}
    (s : Star g v x y z u a b c) {r i j k : ℕ} (p : StarPorts g edge v x y z r i j k) (v_below : v < g.vertices) where
  below : (q : ℕ) → vertex_of q ≡ v → vertex_of q < g.vertices
  below q e = rw e v_below

  -- a port of v leads to the far end of its edge
  leads : (q e f : ℕ) → vertex_of q ≡ v → at edge q ≡ e → Runs g e v f → f ≢ v → far_vertex mate q ≡ f
  leads q e f at_v named t ne =
      one-far t (rw (named, at_v) at (port-runs g w q (below q at_v))) ne

  pub far-r : far_vertex mate r ≡ u
  far-r = leads r _ u p.r_at p.r_edge s.to_u s.u≢

  pub far-i : far_vertex mate i ≡ a
  far-i = leads i _ a p.i_at p.i_edge s.to_a s.a≢

  pub far-j : far_vertex mate j ≡ b
  far-j = leads j _ b p.j_at p.j_edge s.to_b s.b≢

  pub far-k : far_vertex mate k ≡ c
  far-k = leads k _ c p.k_at p.k_edge s.to_c s.c≢

  -- ports with different edges are different, and a port that leads away is no port of v
  differ : (q q' e e' : ℕ) → at edge q ≡ e → at edge q' ≡ e' → e ≢ e' → q ≢ q'
  differ q q' e e' h h' ne x = ne (sym h ∙ ap (at edge) x ∙ h')

  away : (q q' f : ℕ) → far_vertex mate q ≡ f → f ≢ v → vertex_of q' ≡ v → at mate q ≢ q'
  away q q' f h ne at_v x = ne (sym h ∙ ap vertex_of x ∙ at_v)

  in-limit : (q : ℕ) → vertex_of q ≡ v → q < port_limit
  in-limit q e = let l = below q e in omega (arith, w.room)

  -- the reserved edge goes on to x
  reserved-joins : Joinable mate r i
  reserved-joins = record {
    mated = w.mated;
    a_below = in-limit r p.r_at;
    b_below = in-limit i p.i_at;
    different = differ r i _ _ p.r_edge p.i_edge s.four.rx;
    a_leads = away r r u far-r s.u≢ p.r_at;
    b_leads = away i i a far-i s.a≢ p.i_at;
    unjoined = away r i u far-r s.u≢ p.i_at;
  }

  reserved-meets : Meeting g.edges g.vertices (low_end g) (high_end g) mate edge r i g.reserved x
  reserved-meets = record {
    wired = w;
    joinable = reserved-joins;
    a_vertex = below r p.r_at;
    b_vertex = below i p.i_at;
    edges_differ = λ e. s.four.rx (sym e);
    labels = inl (p.r_edge, p.i_edge);
  }

  mate' : List ℕ
  mate' = rejoined mate r i

  edge' : List ℕ
  edge' = relabelled mate edge r i g.reserved x

  -- another port of v is as it was
  module _ (q e : ℕ) (at_v : vertex_of q ≡ v) (named : at edge q ≡ e) (nr : e ≢ g.reserved) (nx : e ≢ x) where
    other-than-r : q ≢ r
    other-than-r = differ q r _ _ named p.r_edge nr

    other-than-i : q ≢ i
    other-than-i = differ q i _ _ named p.i_edge nx

    not-far-r : q ≢ at mate r
    not-far-r h = away r q u far-r s.u≢ at_v (sym h)

    not-far-i : q ≢ at mate i
    not-far-i h = away i q a far-i s.a≢ at_v (sym h)

    mate-as-before : at mate' q ≡ at mate q
    unfolding mate'
    mate-as-before = joined-other reserved-joins q other-than-r other-than-i not-far-r not-far-i

    edge-as-before : at edge' q ≡ e
    unfolding edge' relabelled
    edge-as-before =
        cornered-other (four-ports reserved-joins edge w.long) _ _ _ _ q other-than-r other-than-i not-far-r not-far-i
        ∙ named

  yr : y ≢ g.reserved
  yr e = s.four.ry (sym e)

  yx : y ≢ x
  yx e = s.four.xy (sym e)

  zr : z ≢ g.reserved
  zr e = s.four.rz (sym e)

  zx : z ≢ x
  zx e = s.four.xz (sym e)

  j-mate : at mate' j ≡ at mate j
  j-mate = mate-as-before j y p.j_at p.j_edge yr yx

  k-mate : at mate' k ≡ at mate k
  k-mate = mate-as-before k z p.k_at p.k_edge zr zx

  -- and y to z
  low' : ℕ → ℕ
  low' = changed g.reserved (far_vertex mate r) x (vertex_of r) (low_end g)

  high' : ℕ → ℕ
  high' = changed g.reserved (far_vertex mate i) x (vertex_of i) (high_end g)

  others-meet : Meeting g.edges g.vertices low' high' mate' edge' j k z y
  unfolding mate' edge' low' high'
  others-meet = record {
    wired = joined-wired reserved-meets;
    joinable = record {
      mated = (joined-wired reserved-meets).mated;
      a_below = in-limit j p.j_at;
      b_below = in-limit k p.k_at;
      different = differ j k _ _ p.j_edge p.k_edge s.four.yz;
      a_leads = rw j-mate (away j j b far-j s.b≢ p.j_at);
      b_leads = rw k-mate (away k k c far-k s.c≢ p.k_at);
      unjoined = rw j-mate (away j k b far-j s.b≢ p.k_at);
    };
    a_vertex = below j p.j_at;
    b_vertex = below k p.k_at;
    edges_differ = s.four.yz;
    labels = inr
        (edge-as-before j y p.j_at p.j_edge yr yx, edge-as-before k z p.k_at p.k_edge zr zx);
  }

  module _ (f : Formed g) where
    low-after : (e : ℕ) → Place g x y z e
        → changed z (far_vertex mate' j) y (vertex_of j) low' e ≡ low_end (split g v x y z) e
    unfolding low'
    low-after e (at_reserved q) =
        rw q (changed-other z _ y _ low' g.reserved s.four.rz s.four.ry
        ∙ changed-first g.reserved _ x _ (low_end g) ∙ far-r ∙ sym (reserved-ends f s).0)
    low-after e (at_x q) =
        rw q (changed-other z _ y _ low' x s.four.xz s.four.xy
        ∙ changed-second g.reserved _ x _ (low_end g) (λ h. s.four.rx (sym h)) ∙ p.r_at ∙ sym (x-ends f s).0)
    low-after e (at_y q) = rw q (changed-second z _ y _ low' s.four.yz ∙ p.j_at ∙ sym (y-ends f s).0)
    low-after e (at_z q) = rw q (changed-first z _ y _ low' ∙ ap vertex_of j-mate ∙ far-j ∙ sym (z-ends f s).0)
    low-after e (beside nr nx ny nz) =
        changed-other z _ y _ low' e nz ny ∙ changed-other g.reserved _ x _ (low_end g) e nr nx
        ∙ sym (split-low f s e nr nx ny nz)

    high_after : (e : ℕ) → Place g x y z e
        → changed z (far_vertex mate' k) y (vertex_of k) high' e ≡ high_end (split g v x y z) e
    unfolding high'
    high_after e (at_reserved q) =
        rw q (changed-other z _ y _ high' g.reserved s.four.rz s.four.ry
        ∙ changed-first g.reserved _ x _ (high_end g) ∙ far-i ∙ sym (reserved-ends f s).1)
    high_after e (at_x q) =
        rw q (changed-other z _ y _ high' x s.four.xz s.four.xy
        ∙ changed-second g.reserved _ x _ (high_end g) (λ h. s.four.rx (sym h)) ∙ p.i_at ∙ sym (x-ends f s).1)
    high_after e (at_y q) = rw q (changed-second z _ y _ high' s.four.yz ∙ p.k_at ∙ sym (y-ends f s).1)
    high_after e (at_z q) = rw q (changed-first z _ y _ high' ∙ ap vertex_of k-mate ∙ far-k ∙ sym (z-ends f s).1)
    high_after e (beside nr nx ny nz) =
        changed-other z _ y _ high' e nz ny ∙ changed-other g.reserved _ x _ (high_end g) e nr nx
        ∙ sym (split-high f s e nr nx ny nz)

    -- the ports after the split are those of the network after it
    pub split-wired : WiredAs (split g v x y z) (split_mates mate r i j k) (split_labels mate edge r i j k)
    unfolding split mate' edge'
    split-wired =
        rw (p.r_edge, p.i_edge, p.j_edge, p.k_edge)
        (wired-ext (λ e l. (low-after e (place g x y z e), high_after e (place g x y z e))) (joined-wired others-meet))
