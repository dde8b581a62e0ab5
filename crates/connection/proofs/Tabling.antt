-- The table of ends of a list: in each vertex's chain stand the listed ends at the vertex, all of them, and they rise.
use mathlib.Core.Path.{◌≡◌, refl, sym, ◌∙◌, ap}
use mathlib.Core.Bool.{Bool, true, false, cond}
use mathlib.Core.List.{List}
use mathlib.Core.Logic.{◌≢◌}
use Prim.Native.Nat.{ℕ, zero, suc, ◌+◌, ◌*◌, ◌/◌, ◌%◌, ◌≤◌, ◌<◌}
use native.Mathlib.Omega.{arith}
use native.Mathlib.Decide.{ℕ_discrete}
use lib.Dec.{eqb}
use lib.ListN.{length, get_or, length-set, length-replicate, get_or-replicate}
use lib.Seq.{get_or-set_same, get_or-set_other}
use Rattle.base.specs.Limits.{vertex_limit, edge_limit}
use Rattle.base.proofs.Bools.{never}
use Rattle.graph.specs.Network.{kept}
use Rattle.graph.specs.declared.Network.{Network}
use Rattle.connection.specs.Searchable.{Searchable}
use Rattle.connection.specs.Incidence.{end_limit, no_ends, hooked, noted, chained, incidence, vertex_of, ListedEnd}
use Rattle.connection.specs.Incidence.{Chained, first, behind, Chains}
use Rattle.connection.specs.declared.ends.Incidence.{Incidence}

-- ── the vertices at an edge's two ends ──

module _ (low high : List ℕ) (e : ℕ) where
  pub at_low : vertex_of low high (2 * e) ≡ get_or low e 0
  unfolding vertex_of
  at_low =
      let q : 2 * e % 2 ≡ 0 = omega arith in
      let r : 2 * e / 2 ≡ e = omega arith in
      rw (q, r)

  at_high : vertex_of low high (2 * e + 1) ≡ get_or high e 0
  unfolding vertex_of
  at_high =
      let q : (2 * e + 1) % 2 ≡ 1 = omega arith in
      let r : (2 * e + 1) / 2 ≡ e = omega arith in
      rw (q, r)

-- ── chains where only an earlier end changes ──

chain-above : {next other : List ℕ} (x : ℕ) → ((y : ℕ) → y < end_limit → y < get_or next y 0)
    → ((y : ℕ) → x < y → get_or other y 0 ≡ get_or next y 0)
    → {from end : ℕ} → x < from → Chained next from end → Chained other from end
chain-above x rises same l (first b) = first b
chain-above x rises same {from = from} {end = end} l (behind b c) =
    behind {end = end} b (rw (same from l) (chain-above x rises same (omega (arith, rises from b)) c))

-- no chain begins past all ends
pub chain-within : {next : List ℕ} {from end : ℕ} → Chained next from end → from < end_limit
chain-within (first b) = b
chain-within (behind b c) = b

-- ── the table when the ends from k on are in it ──

module _ (low high : List ℕ) (K : List Bool) (m : ℕ) (few : m ≤ edge_limit)
    (below : (x : ℕ) → x / 2 < m → vertex_of low high x < vertex_limit) where
  record From (k : ℕ) (t : Incidence) : Type 0 where
    long_first : length t.first ≡ vertex_limit
    long_next : length t.next ≡ end_limit
    fresh : (v : ℕ) → v < vertex_limit → k ≤ get_or t.first v 0
    rises : (x : ℕ) → x < end_limit → x < get_or t.next x 0
    sound : (v x : ℕ) → v < vertex_limit → Chained t.next (get_or t.first v 0) x
        → ListedEnd K m x × (vertex_of low high x ≡ v)
    whole : (x : ℕ) → k ≤ x → ListedEnd K m x → Chained t.next (get_or t.first (vertex_of low high x) 0) x

  -- none is in the table of no end
  from-none : From (2 * m) no_ends
  unfolding no_ends
  from-none = record {
    long_first = length-replicate {A = ℕ} vertex_limit end_limit;
    long_next = length-replicate {A = ℕ} end_limit end_limit;
    fresh = λ v l. rw (get_or-replicate vertex_limit v end_limit 0 l) (omega arith);
    rises = λ x l. rw (get_or-replicate end_limit x end_limit 0 l) l;
    sound = λ v x l c. absurd (omega (arith, chain-within c, get_or-replicate vertex_limit v end_limit 0 l));
    whole = λ x l w. absurd (omega (arith, w.number));
  }

  -- an end that is not listed is left out
  from-skipped : (x : ℕ) (t : Incidence) → kept K (x / 2) ≡ false → From (suc x) t → From x t
  from-skipped x t h w = record {
    long_first = w.long_first;
    long_next = w.long_next;
    fresh = λ v l. omega (arith, w.fresh v l);
    rises = w.rises;
    sound = w.sound;
    whole = λ y l d. elim (ℕ_discrete y x) [
      | yes e ↦ never (sym h ∙ ap (λ z. kept K (z / 2)) (sym e) ∙ d.listed)
      | no ne ↦ w.whole y (omega arith) d
    ];
  }

  -- a listed end is hooked at its vertex
  module _ (x : ℕ) (t : Incidence) (d : ListedEnd K m x) (w : From (suc x) t) where
    abbrev v : ℕ
    v = vertex_of low high x

    v_below : v < vertex_limit
    v_below = below x d.number

    abbrev after : Incidence
    after = hooked t v x

    first-same : get_or after.first v 0 ≡ x
    unfolding hooked
    first-same = get_or-set_same t.first v x 0 (omega (arith, v_below, w.long_first))

    first-other : (u : ℕ) → u ≢ v → get_or after.first u 0 ≡ get_or t.first u 0
    unfolding hooked
    first-other u ne = get_or-set_other t.first v u x 0 ne

    next-same : get_or after.next x 0 ≡ get_or t.first v 0
    unfolding hooked
    next-same = get_or-set_same t.next x (get_or t.first v 0) 0 (omega (arith, d.number, w.long_next))

    next-other : (y : ℕ) → y ≢ x → get_or after.next y 0 ≡ get_or t.next y 0
    unfolding hooked
    next-other y ne = get_or-set_other t.next x y (get_or t.first v 0) 0 ne

    rises-after : (y : ℕ) → y < end_limit → y < get_or after.next y 0
    rises-after y l = elim (ℕ_discrete y x) [
      | yes e ↦ rw (e, next-same) (omega (arith, w.fresh v v_below))
      | no ne ↦ rw (next-other y ne) (w.rises y l)
    ]

    -- chains from later ends are as they were
    later : {from end : ℕ} → x < from → Chained t.next from end → Chained after.next from end
    later = chain-above x w.rises (λ y l. next-other y (λ e. omega arith))

    earlier : {from end : ℕ} → x < from → Chained after.next from end → Chained t.next from end
    earlier = chain-above x rises-after (λ y l. sym (next-other y (λ e. omega arith)))

    sound-after : (u y : ℕ) → u < vertex_limit → Chained after.next (get_or after.first u 0) y
        → ListedEnd K m y × (vertex_of low high y ≡ u)
    sound-after u y l c = elim (ℕ_discrete u v) [
      | yes e ↦ here y e (rw (e, first-same) at c)
      | no ne ↦ w.sound u y l (earlier (omega (arith, w.fresh u l)) (rw (first-other u ne) at c))
    ]
      where
        here : (z : ℕ) → u ≡ v → Chained after.next x z → ListedEnd K m z × (vertex_of low high z ≡ u)
        here z e (first b) = (d, sym e)
        here z e (behind b c) =
            rw e (w.sound v z v_below (earlier (omega (arith, w.fresh v v_below)) (rw next-same at c)))

    whole-after : (y : ℕ) → x ≤ y → ListedEnd K m y
        → Chained after.next (get_or after.first (vertex_of low high y) 0) y
    whole-after y l k = elim (ℕ_discrete y x) [
      | yes e ↦ rw (e, first-same) (first {end = x} (omega (arith, d.number)))
      | no ne ↦
          let u = vertex_of low high y in
          let old = later (omega (arith, w.fresh u (below y k.number))) (w.whole y (omega arith) k) in
          elim (ℕ_discrete u v) [
            | yes q ↦
                rw (q, first-same)
                (behind {from = x} {end = y} (omega (arith, d.number)) (rw next-same (rw q at old)))
            | no n ↦ rw (first-other u n) old
          ]
    ]

    from-after : From x after
    from-after = record {
      long_first = unfold hooked in rw length-set w.long_first;
      long_next = unfold hooked in rw length-set w.long_next;
      fresh = λ u l. elim (ℕ_discrete u v) [
        | yes e ↦ rw (e, first-same) (omega arith)
        | no ne ↦ rw (first-other u ne) (omega (arith, w.fresh u l))
      ];
      rises = rises-after;
      sound = sound-after;
      whole = whole-after;
    }

    from-hooked : (u : ℕ) → v ≡ u → From x (hooked t u x)
    from-hooked u e = rw e at from-after

  -- ── edge by edge ──

  -- both ends of edge e are hooked, or left out
  from-noted : (e : ℕ) (t : Incidence) → e < m → From (2 * suc e) t → From (2 * e) (noted low high K t e)
  unfolding noted
  from-noted e t l w = go (kept K e) refl
    where
      odd : (2 * e + 1) / 2 ≡ e
      odd = omega arith

      even : 2 * e / 2 ≡ e
      even = omega arith

      above : From (suc (2 * e + 1)) t
      above = let q : 2 * suc e ≡ suc (2 * e + 1) = omega arith in rw q at w

      between : {t : Incidence} → From (2 * e + 1) t → From (suc (2 * e)) t
      between w = let q : 2 * e + 1 ≡ suc (2 * e) = omega arith in rw q at w

      go : (k : Bool) → kept K e ≡ k
          → From (2 * e) (cond k (hooked (hooked t (get_or high e 0) (2 * e + 1)) (get_or low e 0) (2 * e)) t)
      go true h =
          let high_end : ListedEnd K m (2 * e + 1) = record { number = omega (arith, odd); listed = rw odd h } in
          let low-end : ListedEnd K m (2 * e) = record { number = omega (arith, even); listed = rw even h } in
          let one = between (from-hooked (2 * e + 1) t high_end above _ (at_high low high e)) in
          from-hooked (2 * e) _ low-end one _ (at_low low high e)
      go false h = from-skipped (2 * e) t (rw even h) (between (from-skipped (2 * e + 1) t (rw odd h) above))

  from-chained : (k : ℕ) (t : Incidence) → k ≤ m → From (2 * k) t → From 0 (chained low high K k t)
  unfolding chained
  from-chained zero t l w = w
  from-chained (suc k) t l w = from-chained k (noted low high K t k) (omega arith) (from-noted k t (omega arith) w)

-- ── the table of a list ──

pub incidence-chains : (g : Network) (K : List Bool) → Searchable g → g.vertices ≤ vertex_limit → g.edges ≤ edge_limit
    → Chains g.low g.high K g.edges (incidence g K)
unfolding incidence vertex_of
incidence-chains g K w room few =
    record { rises = all.rises; sound = all.sound; whole = λ x. all.whole x (omega arith) }
  where
    below : (x : ℕ) → x / 2 < g.edges → vertex_of g.low g.high x < vertex_limit
    below x l = go (eqb (x % 2) 0)
      where
        go : (b : Bool) → cond b (get_or g.low (x / 2) 0) (get_or g.high (x / 2) 0) < vertex_limit
        go true = omega (arith, w.low_below (x / 2) l)
        go false = omega (arith, w.high_below (x / 2) l)

    all : From g.low g.high K g.edges few below 0 (chained g.low g.high K g.edges no_ends)
    all =
        let none = from-none g.low g.high K g.edges few below in
        from-chained g.low g.high K g.edges few below g.edges no_ends (omega arith) none
