-- Every cut of a network is crossed by at least four edges exactly if every present vertex
-- but the first is four apart from all that come before it, gathered at the first.
use mathlib.Core.Path.{◌≡◌, refl, sym, ◌∙◌, ap, ap₂}
use mathlib.Core.Bool.{Bool, true, false, not}
use mathlib.Core.List.{List}
use mathlib.Core.Logic.{◌⊎◌, inl, inr, ⊎_elim}
use Prim.Native.Nat.{ℕ, zero, suc, ◌+◌, ◌≤◌, ◌<◌}
use native.Mathlib.Omega.{arith}
use native.Mathlib.Decide.{ℕ_discrete, dec_lt}
use borrow.Author.Count.{below_more}
use lib.Seq.{get_or-take, get_or-drop}
use lib.ListN.{length, take, drop, get_or}
use Rattle.base.specs.Columns.{at}
use Rattle.base.specs.Limits.{edge_limit}
use Rattle.base.proofs.Sums.{sum-ext}
use Rattle.graph.specs.Network.{low_end, high_end, here}
use Rattle.graph.specs.Cut.{Side, differ, crosses, crossings_of, crossings, EveryCut, every_cut}
use Rattle.graph.specs.Sound.{Formed}
use Rattle.graph.specs.declared.Network.{Network}
use Rattle.base.proofs.Bools.{never}
use Rattle.graph.proofs.EveryCut.{every-cut-sound, every-cut-complete}
use Rattle.graph.proofs.Lemma8.{crossings-not}
use Rattle.flow.specs.Apart.{FourApart}
use Rattle.cuts.specs.Anchor.{FirstOf, Before}
use Rattle.flow.specs.Arcs.{arc_limit, Laid, moved, MovedTo}
use Rattle.flow.proofs.Gathering.{moved_same, moved_other}
use Rattle.flow.specs.declared.Pair.{Pair}

-- one vertex as a pair
abbrev pub twice : ℕ → Pair
twice v = record { first = v; second = v }

-- v is the lowest present vertex of a side: it is in, and the present ones before it are out
pub record Lowest (present : List Bool) (S : Side) (v : ℕ) : Type 0 where
  pub is_in : S v ≡ true
  pub earlier_out : (u : ℕ) → Before present v u → S u ≡ false

-- the sides whose lowest present vertex is below n, and not the anchor, are
-- crossed by at least four edges, in every network of so many edges and these arcs
pub record Tested (edges : ℕ) (ends : List ℕ) (present : List Bool) (anchor n : ℕ) : Type 0 where
  pub apart : (v : ℕ) → v < n → anchor < v → get_or present v false ≡ true
      → (g : Network) → Laid g ends → g.edges ≡ edges → (S : Side) → Lowest present S v → 4 ≤ crossings g S

-- a present vertex that is first comes before every later one
pub anchor-before : {present : List Bool} {n anchor v : ℕ} → FirstOf present n anchor → anchor < v → v < n
    → Before present v anchor
anchor-before a l h = record { earlier = l; is_present = a.is_present (omega arith) }

pub tested-none : {edges : ℕ} {ends : List ℕ} {present : List Bool} {anchor : ℕ}
    → Tested edges ends present anchor (anchor + 1)
tested-none = record { apart = λ v l k. absurd (omega arith) }

-- ── the vertices before a vertex, gathered at the anchor ──

-- arcs whose ends were moved: each vertex is where it was, or is a present one before n and moved to the anchor
pub record Gathered (edges : ℕ) (ends₀ ends : List ℕ) (present : List Bool) (anchor n : ℕ) : Type 0 where
  pub to : ℕ → ℕ
  pub long : length ends ≡ arc_limit
  pub room : edges ≤ edge_limit
  pub low_are : (e : ℕ) → e < edges → at ends e ≡ to (at ends₀ e)
  pub high_are : (e : ℕ) → e < edges → at ends (e + edge_limit) ≡ to (at ends₀ (e + edge_limit))
  pub spare : (e : ℕ) → edges ≤ e → e < edge_limit → at ends e ≡ at ends (e + edge_limit)
  pub moves : (u : ℕ) → (to u ≡ u) ⊎ ((to u ≡ anchor) × Before present n u)

pub gathered_none : {g : Network} {ends : List ℕ} {present : List Bool} {anchor n : ℕ} → Laid g ends
    → Gathered g.edges ends ends present anchor n
gathered_none laid = record {
  to = λ u. u;
  long = laid.long;
  room = laid.room;
  low_are = λ e l. refl;
  high_are = λ e l. refl;
  spare = laid.spare;
  moves = λ u. inl refl;
}

later : {present : List Bool} {n u : ℕ} → Before present n u → Before present (n + 1) u
later b = record { earlier = omega (arith, b.earlier); is_present = b.is_present }

module _ {edges : ℕ} {ends₀ ends : List ℕ} {present : List Bool} {anchor v : ℕ}
    (w : Gathered edges ends₀ ends present anchor v)
  where
    -- a vertex that is absent, and one whose edges are moved
    pub gathered-absent : Gathered edges ends₀ ends present anchor (v + 1)
    gathered-absent = record {
      to = w.to;
      long = w.long;
      room = w.room;
      low_are = w.low_are;
      high_are = w.high_are;
      spare = w.spare;
      moves = λ u. ⊎_elim inl (λ m. inr (m.0, later m.1)) (w.moves u);
    }

    pub gathered-on : {ends' : List ℕ} → anchor < v → get_or present v false ≡ true → MovedTo v anchor edges ends ends'
        → Gathered edges ends₀ ends' present anchor (v + 1)
    gathered-on {ends'} l h put = record {
      to = λ u. moved v anchor (w.to u);
      long = put.size ∙ w.long;
      room = w.room;
      low_are = λ e k. put.low e k ∙ ap (moved v anchor) (w.low_are e k);
      high_are = λ e k. put.high e k ∙ ap (moved v anchor) (w.high_are e k);
      spare = λ e k l. put.low_left e k l ∙ w.spare e k l ∙ sym (put.high_left e k l);
      moves = λ u. ⊎_elim (stays u) (λ m. inr (ap (moved v anchor) m.0 ∙ here, later m.1)) (w.moves u);
    }
      where
        here : moved v anchor anchor ≡ anchor
        here = sym (moved_other v anchor anchor (λ e. absurd (omega arith)))

        stays : (u : ℕ) → w.to u ≡ u
            → (moved v anchor (w.to u) ≡ u) ⊎ ((moved v anchor (w.to u) ≡ anchor) × Before present (v + 1) u)
        stays u e = elim (ℕ_discrete u v) [
          | yes q ↦ inr (
            ap (moved v anchor) e ∙ sym (moved_same v anchor u q),
            record { earlier = omega arith; is_present = rw q h },
          )
          | no q ↦ inl (ap (moved v anchor) e ∙ sym (moved_other v anchor u q))
        ]

    -- the vertex itself and the anchor are where they were
    at-vertex : w.to v ≡ v
    at-vertex = ⊎_elim (λ e. e) (λ m. absurd (omega (arith, m.1.earlier))) (w.moves v)

    at-anchor : w.to anchor ≡ anchor
    at-anchor = ⊎_elim (λ e. e) (λ m. m.0) (w.moves anchor)

    -- the network of these arcs
    abbrev pub gathered_in : Network → Network
    gathered_in g =
        record {
          low = take edge_limit ends;
          high = drop edge_limit ends;
          cost = g.cost;
          present = g.present;
          reserved = g.reserved;
          edges = g.edges;
          vertices = g.vertices;
          remaining = g.remaining;
        }

    module _ {g : Network} (laid : Laid g ends₀) (count : g.edges ≡ edges) where
      low-is : (e : ℕ) → e < edge_limit → at ends e ≡ low_end (gathered_in g) e
      low-is e l = sym (get_or-take edge_limit ends e 0 l)

      high_is : (e : ℕ) → e < edge_limit → at ends (e + edge_limit) ≡ high_end (gathered_in g) e
      high_is e l =
          let place : e + edge_limit ≡ edge_limit + e = omega arith in
          ap (at ends) place ∙ sym (get_or-drop edge_limit ends e 0)

      pub gathered-laid : Laid (gathered_in g) ends
      gathered-laid = record {
        long = w.long;
        room = laid.room;
        low = λ e l. low-is e (omega (arith, laid.room));
        high = λ e l. high_is e (omega (arith, laid.room));
        spare = λ e k l. w.spare e (omega arith) l;
      }

      -- what crosses a side there crosses in g the side of what was moved into it
      gathered-crossings : (S : Side) → crossings (gathered_in g) S ≡ crossings g (λ u. S (w.to u))
      unfolding crossings_of crosses
      gathered-crossings S =
          sum-ext g.edges (crosses (gathered_in g) S) (crosses g (λ u. S (w.to u)))
          (λ e l. ap₂ differ (ap S (low-to e l)) (ap S (high-to e l)))
        where
          low-to : (e : ℕ) → e < g.edges → low_end (gathered_in g) e ≡ w.to (low_end g e)
          low-to e l =
              sym (low-is e (omega (arith, laid.room))) ∙ w.low_are e (omega arith) ∙ ap w.to (laid.low e l)

          high-to : (e : ℕ) → e < g.edges → high_end (gathered_in g) e ≡ w.to (high_end g e)
          high-to e l =
              sym (high_is e (omega (arith, laid.room))) ∙ w.high_are e (omega arith) ∙ ap w.to (laid.high e l)

      -- a side whose lowest vertex is v has the same crossings
      same-crossings : (S : Side) → Lowest present S v → Before present v anchor
          → crossings (gathered_in g) S ≡ crossings g S
      unfolding crossings_of crosses
      same-crossings S low b =
          gathered-crossings S
          ∙ sum-ext g.edges (crosses g (λ u. S (w.to u))) (crosses g S)
          (λ e l. ap₂ differ (same (low_end g e)) (same (high_end g e)))
        where
          same : (u : ℕ) → S (w.to u) ≡ S u
          same u = ⊎_elim (ap S)
              (λ m. ap S m.0 ∙ low.earlier_out anchor b ∙ sym (low.earlier_out u m.1)) (w.moves u)

-- ── what was tested ──
pub tested-absent : {edges : ℕ} {ends : List ℕ} {present : List Bool} {anchor v : ℕ}
    → Tested edges ends present anchor v → get_or present v false ≡ false → Tested edges ends present anchor (v + 1)
tested-absent {v = v} t h = record { apart = below_more _ v t.apart (λ _ k. never (sym h ∙ k)) }

pub tested-on : {edges : ℕ} {ends₀ ends : List ℕ} {present : List Bool} {anchor v : ℕ}
    → Tested edges ends₀ present anchor v → (w : Gathered edges ends₀ ends present anchor v)
    → Before present v anchor
    → ((g : Network) → Laid g ends → FourApart g (twice v) (twice anchor))
    → Tested edges ends₀ present anchor (v + 1)
tested-on {anchor = anchor} {v = v} t w b four = record {
  apart = below_more _ v t.apart (λ _ _ g laid count S low.
      let out = low.earlier_out anchor b in
      rw (same-crossings w laid count S low b) at
      (four (gathered_in w g) (gathered-laid w laid count) S
      record { first_in = low.is_in; second_in = low.is_in; first_out = out; second_out = out }));
}

-- a side with a present vertex in has a lowest one
lowest : (present : List Bool) (S : Side) (n : ℕ)
    → ((u : ℕ) → Before present n u → S u ≡ false)
    ⊎ ((v : ℕ) × (get_or present v false ≡ true) × Lowest present S v)
lowest present S zero = inl (λ u b. absurd (omega (arith, b.earlier)))
lowest present S (suc n) = ⊎_elim
    (λ none. go (get_or present n false) refl (S n) refl none)
    (λ found. inr found) (lowest present S n)
  where
    -- one vertex more of which none is in
    more : ((u : ℕ) → Before present n u → S u ≡ false) → (get_or present n false ≡ true → S n ≡ false)
        → (u : ℕ) → Before present (suc n) u → S u ≡ false
    more none here u b =
        below_more (λ u. get_or present u false ≡ true → S u ≡ false) n
        (λ u l h. none u (record { earlier = l; is_present = h })) here u (omega (arith, b.earlier)) b.is_present

    go : (p : Bool) → get_or present n false ≡ p → (s : Bool) → S n ≡ s → ((u : ℕ) → Before present n u → S u ≡ false)
        → ((u : ℕ) → Before present (suc n) u → S u ≡ false)
        ⊎ ((v : ℕ) × (get_or present v false ≡ true) × Lowest present S v)
    go true p true s none = inr (n, p, record { is_in = s; earlier_out = none })
    go true p false s none = inl (more none (λ h. s))
    go false p s t none = inl (more none (λ h. never (sym p ∙ h)))

module _ {g : Network} (f : Formed g) {anchor : ℕ} (a : FirstOf g.present g.vertices anchor) where
  -- a present vertex in a side without the anchor comes after it
  after-anchor : (S : Side) (v : ℕ) → here g v ≡ true → S anchor ≡ false → S v ≡ true → anchor < v
  after-anchor S v h out in-side = elim (dec_lt anchor v) [
    | yes l ↦ l
    | no n ↦
        elim (ℕ_discrete v anchor) [
          | yes e ↦ never (sym out ∙ ap S (sym e) ∙ in-side)
          | no ne ↦ never (sym (a.none_before v (omega arith)) ∙ h)
        ]
  ]

  -- every cut has a part without the anchor, which was tested at its lowest vertex
  pub tested-all : {ends : List ℕ} → Laid g ends → {n : ℕ} → g.vertices ≤ n
      → Tested g.edges ends g.present anchor n
      → true ≡ every_cut 4 g
  tested-all laid {n} le t = sym (every-cut-complete 4 g (λ e. true) cuts)
    where
      apart : (S : Side) (v : ℕ) → here g v ≡ true → S anchor ≡ false → S v ≡ true → 4 ≤ crossings g S
      apart S v h out in-side = ⊎_elim
          (λ none. never (sym (none v (record { earlier = f.here_below v h; is_present = h })) ∙ in-side))
          (λ w. t.apart w.0 (omega (arith, f.here_below w.0 w.1))
          (after-anchor S w.0 w.1 out w.2.is_in) w.1 g laid refl S w.2)
          (lowest g.present S g.vertices)

      cuts : EveryCut 4 g
      cuts S d = go (S anchor) refl
        where
          go : (part : Bool) → S anchor ≡ part → 4 ≤ crossings g S
          go false e = apart S d.inner d.inner_here e d.inner_in
          go true e = omega (
            arith,
            crossings-not g S,
            apart (λ v. not (S v)) d.outer d.outer_here (ap not e) (ap not d.outer_out),
          )

  -- and a side that has a vertex in and the anchor out makes a cut, with all that is gathered there
  pub tested-fails : {ends₀ ends : List ℕ} {v : ℕ} → Laid g ends₀
      → (w : Gathered g.edges ends₀ ends g.present anchor v)
      → here g v ≡ true → Before g.present v anchor
      → (FourApart (gathered_in w g) (twice v) (twice anchor) → ⊥)
      → false ≡ every_cut 4 g
  tested-fails {v = v} laid w h b fails = go (every_cut 4 g) refl
    where
      apart : EveryCut 4 g → FourApart (gathered_in w g) (twice v) (twice anchor)
      apart cuts S d = rw (gathered-crossings w laid refl S) (
          cuts (λ u. S (w.to u)) record {
            inner = v;
            outer = anchor;
            inner_here = h;
            outer_here = b.is_present;
            inner_in = ap S (at-vertex w) ∙ d.first_in;
            outer_out = ap S (at-anchor w) ∙ d.first_out;
          }
          )

      go : (answer : Bool) → every_cut 4 g ≡ answer → false ≡ every_cut 4 g
      go true e = absurd (fails (apart (every-cut-sound 4 (λ e. true) f e)))
      go false e = sym e
