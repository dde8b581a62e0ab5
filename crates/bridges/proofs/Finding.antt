-- Bridges are found by a depth-first forest and its low points.
use mathlib.Core.Path.{◌≡◌, refl, sym, ◌∙◌, ap}
use mathlib.Core.Logic.{◌≢◌, inl, inr, ◌↔◌}
use mathlib.Core.Bool.{Bool, true, false, cond, ◌&&◌, and-false}
use mathlib.Core.List.{List}
use Prim.Native.Nat.{ℕ, zero, suc, ◌≤◌, ◌<◌}
use native.Mathlib.Omega.{arith}
use native.Mathlib.Decide.{ℕ_discrete, dec_lt}
use borrow.Author.Tests.{ltb-true, ltb-false, leb-true, lt-ltb, le-ltb, le-leb, eq-eqb}
use lib.Dec.{ltb, leb}
use Rattle.base.specs.Fold.{sum, bit}
use Rattle.base.specs.Limits.{vertex_limit}
use Rattle.base.proofs.Bools.{eqb_no, and_left, and_right, and_both, same_test}
use Rattle.base.proofs.Sums.{sum-ext}
use Rattle.graph.specs.Network.{low_end, high_end, kept}
use Rattle.graph.specs.Cut.{Side}
use Rattle.graph.specs.declared.Network.{Network}
use Rattle.connection.specs.Searchable.{Searchable}
use Rattle.connection.specs.Walk.{Joins}
use Rattle.connection.proofs.Reaching.{across}
use Rattle.base.specs.Columns.{at}
use Rattle.forest.specs.Forest.{no_place, DepthFirst}
use Rattle.forest.specs.declared.Forest.{Forest}
use Rattle.bridges.specs.Bridge.{bridge, bridge_count}
use Rattle.bridges.specs.LowPoints.{upper, lower, found, From, Points}
use Rattle.bridges.proofs.Cutting.{without_other, without-differs, without-kept, Uncrossed, parted-bridge}
use Rattle.bridges.proofs.Cutting.{united-spared}
use Rattle.bridges.proofs.Raising.{point-low}

module _ (g : Network) (t : Forest) where
  -- the vertex at a place, and the place of a vertex
  abbrev vertex : ℕ → ℕ
  vertex = at t.order

  abbrev place : ℕ → ℕ
  place = at t.number

  -- the place above a place, and the edge that leads from there
  abbrev above : ℕ → ℕ
  above = at t.parent

  abbrev edge : ℕ → ℕ
  edge = at t.edge

  -- the places of an edge's ends
  abbrev top : ℕ → ℕ
  top = upper g.low g.high t.number

  abbrev bottom : ℕ → ℕ
  bottom = lower g.low g.high t.number

  module _ (K : List Bool) (f : DepthFirst g.low g.high K g.edges g.vertices t) (w : Searchable g)
      (room : g.vertices ≤ vertex_limit) where
    -- ── the places of an edge's ends ──

    place-held : (i : ℕ) → i < t.count → place (vertex i) ≡ i
    place-held i l = (f.trees.holds i l).1

    vertex-placed : (v : ℕ) → v < g.vertices → vertex (place v) ≡ v
    vertex-placed v l = (f.trees.placed v (omega arith) (omega (arith, f.all v l, f.few))).1

    -- an edge joins the vertex at place i to one in the subtree there
    record Spans (e i k : ℕ) : Type 0 where
      falls : i ≤ k
      below : k < t.count
      inside : k < f.end i
      ends : Joins g.low g.high e (vertex i) (vertex k)

    spans : (e : ℕ) → e < g.edges → kept K e ≡ true → Spans e (top e) (bottom e)
    unfolding upper lower
    spans e l listed = go (ltb i k) refl
      where
        i : ℕ
        i = place (low_end g e)

        k : ℕ
        k = place (high_end g e)

        low-end : low_end g e ≡ vertex i
        low-end = sym (vertex-placed (low_end g e) (w.low_below e l))

        high-end : high_end g e ≡ vertex k
        high-end = sym (vertex-placed (high_end g e) (w.high_below e l))

        go : (b : Bool) → ltb i k ≡ b → Spans e (cond b i k) (cond b k i)
        go true h = record {
          falls = omega (arith, ltb-true i k h);
          below = f.all (high_end g e) (w.high_below e l);
          inside = (f.related e l listed).1;
          ends = inl (low-end, high-end);
        }
        go false h = record {
          falls = ltb-false i k h;
          below = f.all (low_end g e) (w.low_below e l);
          inside = (f.related e l listed).0;
          ends = inr (high-end, low-end);
        }

    -- no other two places are those of its ends
    sole : (e i k : ℕ) → i < k → k < t.count → Joins g.low g.high e (vertex i) (vertex k)
        → (top e ≡ i) × (bottom e ≡ k)
    unfolding upper lower
    sole e i k l b (inl (p, q)) =
        let low = ap place p ∙ place-held i (omega arith) in
        let high = ap place q ∙ place-held k b in
        rw (low, high, lt-ltb i k l) (refl, refl)
    sole e i k l b (inr (p, q)) =
        let low = ap place q ∙ place-held k b in
        let high = ap place p ∙ place-held i (omega arith) in
        rw (low, high, le-ltb k i (omega arith)) (refl, refl)

    -- the edge that leads to place k ends there and at the parent
    record Leads (e k : ℕ) : Type 0 where
      higher : above k < k
      top_is : top e ≡ above k
      bottom_is : bottom e ≡ k

    leads : (e k : ℕ) → e < g.edges → k < t.count → edge k ≡ e → Leads e k
    leads e k l b q = elim (dec_lt (above k) no_place) [
      | yes r ↦
          let tree = f.trees.tree k b r in
          let only = rw q at (sole (edge k) (above k) k tree.earlier b tree.joins) in
          record { higher = tree.earlier; top_is = only.0; bottom_is = only.1 }
      | no r ↦ absurd (omega (arith, f.trees.root k b (omega arith)))
    ]

    -- ── a place and its parent are on one side, if no edge but e leaves the side and e does not join them ──

    module _ (e : ℕ) (T : Side) (closed : Uncrossed g K e T) where
      beside-parent : (k : ℕ) → k < t.count → above k < no_place → edge k ≢ e → T (vertex (above k)) ≡ T (vertex k)
      beside-parent k b r other =
          let tree = f.trees.tree k b r in
          let listed = without_other K e (edge k) other ∙ tree.listed in
          (across g (edge k) T tree.joins).0 (closed (edge k) tree.number listed)

      -- and places further apart, if e leads to none on the way
      climb : (n i k : ℕ) → k < n → i ≤ k → k < t.count → k < f.end i → ((j : ℕ) → i < j → j ≤ k → edge j ≢ e)
          → T (vertex i) ≡ T (vertex k)
      climb zero i k l h b inside others = absurd (omega arith)
      climb (suc n) i k l h b inside others = elim (ℕ_discrete i k) [
        | yes q ↦ ap (λ j. T (vertex j)) q
        | no apart ↦
            let up = f.trees.parents i k (omega arith) b inside in
            let higher = (f.trees.tree k b up.0).earlier in
            climb n i (above k) (omega arith) up.1 (omega arith) (omega arith)
            (λ j after before. others j after (omega arith)) ∙
            beside-parent k b up.0 (others k (omega arith) (omega arith))
      ]

    -- the back edges from a subtree
    abbrev Out : ℕ → ℕ → Type 0
    Out = From g.low g.high K g.edges g.vertices t f

    -- ── the places of a subtree ──

    module _ (i : ℕ) where
      within : ℕ → Bool
      within k = leb i k && ltb k (f.end i)

      within_in : (k : ℕ) → i ≤ k → k < f.end i → within k ≡ true
      unfolding within
      within_in k l h = and_both (le-leb i k l) (lt-ltb k (f.end i) h)

      within-out : (k : ℕ) → within k ≡ true → (i ≤ k) × (k < f.end i)
      unfolding within
      within-out k h =
          let end = f.end i in
          (leb-true i k (and_left (leb i k) (ltb k end) h), ltb-true k end (and_right (leb i k) (ltb k end) h))

      -- an edge that begins there ends there
      within-down : {e j k : ℕ} → Spans e j k → within j ≡ true → within k ≡ true
      within-down {j = j} {k = k} span h =
          let at_top = within-out j h in
          let nested = f.trees.nested i j at_top.0 (omega (arith, span)) at_top.1 in
          within_in k (omega (arith, at_top, span)) (omega (arith, span))

      -- its vertices
      side : Side
      side v = within (place v)

      side-across : {e j k : ℕ} → Spans e j k → (side (low_end g e) ≡ side (high_end g e)) ↔ (within j ≡ within k)
      unfolding side
      side-across {e} {j} {k} span =
          let b : j < t.count = omega (arith, span) in
          rw (place-held j b, place-held k span.below) at (across g e side span.ends)

    -- ── is edge e a bridge? ──

    module _ (e : ℕ) (l : e < g.edges) (listed : kept K e ≡ true) where
      span : Spans e (top e) (bottom e)
      span = spans e l listed

      -- it leads nowhere else
      elsewhere : (k : ℕ) → k < t.count → k ≢ bottom e → edge k ≢ e
      elsewhere k b apart q = apart (sym (leads e k l b q).bottom_is)

      -- it is none if its ends are on one side
      united : ((T : Side) → Uncrossed g K e T → T (vertex (top e)) ≡ T (vertex (bottom e))) → bridge g K e ≡ false
      united same = united-spared g w K e l listed (λ T closed. (across g e T span.ends).1 (same T closed))

      -- so where it leads to no place
      back-spared : edge (bottom e) ≢ e → bridge g K e ≡ false
      back-spared back = united (λ T closed.
          climb e T closed (suc (bottom e)) (top e) (bottom e) (omega arith) span.falls span.below span.inside
          (λ j after before. elim (ℕ_discrete j (bottom e)) [
            | yes q ↦ rw q back
            | no apart ↦ elsewhere j (omega (arith, span.below)) apart
          ]))

      module _ (leading : edge (bottom e) ≡ e) where
        tree : Leads e (bottom e)
        tree = leads e (bottom e) l span.below leading

        -- a back edge that leads up past it leads as far as its earlier place
        over-parent : (d : ℕ) → Out (bottom e) d → top d < bottom e → top d ≤ top e
        over-parent d out past =
            let down = spans d out.edge.number out.edge.listed in
            let up = f.trees.parents (top d) (bottom e) past span.below (omega (arith, out.start, down)) in
            omega (arith, up, tree)

        -- and then it is no bridge
        passed-spared : (d : ℕ) → Out (bottom e) d → top d < bottom e → bridge g K e ≡ false
        passed-spared d out past = united same
          where
            down : Spans d (top d) (bottom d)
            down = spans d out.edge.number out.edge.listed

            other : d ≢ e
            other q = out.edge.back (rw q leading)

            -- up from e to where d leads, down along d, and up to e
            same : (T : Side) → Uncrossed g K e T → T (vertex (top e)) ≡ T (vertex (bottom e))
            same T closed =
                let over = climb e T closed (suc (top e)) (top d) (top e) (omega arith) (over-parent d out past)
                (omega (arith, span)) (omega (arith, span, out.start, down))
                (λ j after before. elsewhere j (omega (arith, span)) (omega (arith, tree))) in
                let listed = without_other K e d other ∙ out.edge.listed in
                let along = (across g d T down.ends).0 (closed d out.edge.number listed) in
                let under = climb e T closed (suc (bottom d)) (bottom e) (bottom d) (omega arith) out.start
                down.below out.inside
                (λ j after before. elsewhere j (omega (arith, down)) (omega arith)) in
                sym over ∙ along ∙ sym under

        -- it is one if none does
        module _ (none : (d : ℕ) → Out (bottom e) d → bottom e ≤ top d) where
          -- no other edge leads up out of the subtree
          stays : (d : ℕ) → d < g.edges → kept K d ≡ true → d ≢ e → within (bottom e) (bottom d) ≡ true
              → bottom e ≤ top d
          stays d l h other in-bottom =
              let at-bottom = within-out (bottom e) (bottom d) in-bottom in
              let below = (spans d l h).below in
              elim (ℕ_discrete (edge (bottom d)) d) [
                | yes q ↦
                    let apart : bottom e ≢ bottom d = λ same. other (sym q ∙ ap edge (sym same) ∙ leading) in
                    let up = f.trees.parents (bottom e) (bottom d) (omega (arith, at-bottom)) below at-bottom.1 in
                    omega (arith, up.1, (leads d (bottom d) l below q).top_is)
                | no back ↦
                    none d (record {
                      edge = record { number = l; listed = h; back = back };
                      start = at-bottom.0;
                      inside = at-bottom.1;
                    })
              ]

          uncrossed : Uncrossed g K e (side (bottom e))
          uncrossed d l h =
              let known = without-kept K e d h in
              let down = spans d l known in
              (side-across (bottom e) down).1
              (same_test (within (bottom e) (top d)) (within (bottom e) (bottom d)) (within-down (bottom e) down)
              (λ in-bottom.
              let above = stays d l known (without-differs K e d h) in-bottom in
              let at-bottom = within-out (bottom e) (bottom d) in-bottom in
              within_in (bottom e) (top d) above (omega (arith, at-bottom, down))))

          own-bridge : bridge g K e ≡ true
          own-bridge = parted-bridge g w K e l listed (side (bottom e)) uncrossed
              (λ same.
              let own = within_in (bottom e) (bottom e) (omega arith) (f.trees.own (bottom e) span.below) in
              let at_top = within-out (bottom e) (top e) ((side-across (bottom e) span).0 same ∙ own) in
              omega (arith, at_top, tree))

-- ── the law ──

module _ (g : Network) (K : List Bool) (t : Forest)
    (f : DepthFirst g.low g.high K g.edges g.vertices t) (points : List ℕ) (w : Searchable g)
    (room : g.vertices ≤ vertex_limit)
    (P : Points g.low g.high K g.edges g.vertices t f g.edges 0 points) where
  -- a listed edge is a bridge exactly if it is found to be one
  found-bridge : (e : ℕ) → e < g.edges → kept K e ≡ true
      → bridge g K e ≡ found g.low g.high t.number t.edge points e
  unfolding found
  found-bridge e l listed =
      let k = bottom g t e in
      let below = (spans g t K f w room e l listed).below in
      elim (ℕ_discrete (at t.edge k) e) [
        | no back ↦ rw (eqb_no back) (back-spared g t K f w room e l listed back)
        | yes leading ↦ elim (ℕ_discrete (at points k) k) [
          | yes own ↦
              let led = tree g t K f w room e l listed leading in
              let above = lt-ltb (top g t e) (at points k) (omega (arith, own, led)) in
              rw (eq-eqb (at t.edge k) e leading, above)
              (own-bridge g t K f w room e l listed leading
              (λ d out. omega (arith, own, point-low f ends P k (omega arith) d out)))
          | no apart ↦
              let least = P.own k (omega (arith, f.few)) in
              let (d, out, q) = P.real k below (omega arith) in
              let past = over-parent g t K f w room e l listed leading d out (omega arith) in
              rw (le-ltb (top g t e) (at points k) (omega (arith, past)), and-false)
              (passed-spared g t K f w room e l listed leading d out (omega arith))
        ]
      ]
    where
      ends : (e : ℕ) → e < g.edges → (low_end g e < g.vertices) × (high_end g e < g.vertices)
      ends e l = (w.low_below e l, w.high_below e l)

  -- so there are as many
  pub found-count : sum g.edges (λ e. bit (kept K e && found g.low g.high t.number t.edge points e))
      ≡ bridge_count g K
  unfolding bridge_count
  found-count = sum-ext g.edges _ _ (λ e l. ap bit (same e l (kept K e) refl))
    where
      same : (e : ℕ) → e < g.edges → (b : Bool) → kept K e ≡ b
          → (b && found g.low g.high t.number t.edge points e) ≡ bridge g K e
      same e l true h = sym (found-bridge e l h)
      same e l false h = unfold bridge in rw h
