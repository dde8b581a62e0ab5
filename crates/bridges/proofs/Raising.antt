-- Laws of raising places, one by one.
use mathlib.Core.Bool.{Bool, true, false, cond}
use mathlib.Core.List.{List}
use mathlib.Core.Path.{◌≡◌}
use Prim.Native.Nat.{ℕ, zero, suc, ◌-◌, ◌≤◌, ◌<◌}
use native.Mathlib.Decide.{ℕ_discrete, dec_lt}
use native.Mathlib.Omega.{arith}
use borrow.Author.Tests.{lt-ltb, le-ltb}
use lib.Dec.{ltb}
use Rattle.base.specs.Columns.{at}
use Rattle.forest.specs.Forest.{no_place, DepthFirst}
use Rattle.forest.specs.declared.Forest.{Forest}
use Rattle.bridges.specs.LowPoints.{upper, lower, fallen, raised, From, Points, Raised}
use Rattle.bridges.proofs.Falling.{fallen-at, points-fall}

module _ (parent points : List ℕ) (k : ℕ) where
  pub raised-root : no_place ≤ at parent k → raised parent points k ≡ points
  unfolding raised
  raised-root h = rw (le-ltb _ _ h)

  pub raised-child : at parent k < no_place → raised parent points k ≡ fallen points (at parent k) (at points k)
  unfolding raised
  raised-child h = rw (lt-ltb _ _ h)

lower-below : (low high number : List ℕ) (e limit : ℕ) → at number (at low e) < limit → at number (at high e) < limit
    → lower low high number e < limit
unfolding lower
lower-below low high number e limit l h = pick (ltb (at number (at low e)) (at number (at high e)))
  where
    pick : (b : Bool) → cond b (at number (at high e)) (at number (at low e)) < limit
    pick true = h
    pick false = l

module _ {low high : List ℕ} {K : List Bool} {m n : ℕ} {t : Forest} (f : DepthFirst low high K m n t) where
  -- place c is a child of place k, and place j is in its subtree
  record Child (k j c : ℕ) : Type 0 where
    parent : at t.parent c ≡ k
    later : k < c
    place : c < t.count
    above : c ≤ j
    inside : j < f.end c

  -- each other place j in the subtree at place k is in that at one of its children; b is any bound of j
  child : (b k j : ℕ) → j ≤ b → k < j → j < t.count → j < f.end k → (c : ℕ) × Child k j c
  child zero k j h l placed inside = absurd (omega arith)
  child (suc b) k j h l placed inside =
      let i = at t.parent j in
      let up = f.trees.parents k j l placed inside in
      let earlier = (f.trees.tree j placed up.0).earlier in
      elim (ℕ_discrete i k) [
        | yes q ↦
            let own = f.trees.own j placed in
            (j, record { parent = q; later = l; place = placed; above = omega arith; inside = own })
        | no q ↦
            let rest = child b k i (omega arith) (omega (arith, up.1)) (omega arith) (omega arith) in
            let c = rest.1 in
            let end = f.trees.nested rest.0 i c.above (omega arith) c.inside in
            let under = f.trees.children j placed up.0 in (
              rest.0,
              record {
                parent = c.parent;
                later = c.later;
                place = c.place;
                above = omega (arith, c.above);
                inside = omega arith;
              },
            )
      ]

  -- one place more, where its parent has a point that is no later than where back edges from its subtree lead
  points-pass : {k : ℕ} {points : List ℕ} → Points low high K m n t f m k points
      → (at t.parent (k - 1) < no_place → (e : ℕ) → From low high K m n t f (k - 1) e
      → at points (at t.parent (k - 1)) ≤ upper low high t.number e)
      → Points low high K m n t f m (k - 1) points
  points-pass {k} w passes = record {
    long = w.long;
    own = w.own;
    real = w.real;
    reaches = w.reaches;
    passes_up = λ j e h placed up from. elim (ℕ_discrete j (k - 1)) [
      | yes q ↦ rw q (passes (rw q at up) e (rw q at from))
      | no q ↦ w.passes_up j e (omega arith) placed up from
    ];
  }

  module _ (ends : (e : ℕ) → e < m → (at low e < n) × (at high e < n)) {points : List ℕ} where
    -- where the places behind i are raised, its point is no later than where back edges from its subtree lead: they
    -- begin there, or below a child
    pub point-low : {left : ℕ} → Points low high K m n t f m left points → (i : ℕ) → left ≤ suc i → (e : ℕ)
        → From low high K m n t f i e → at points i ≤ upper low high t.number e
    point-low w i behind e from =
        let j = lower low high t.number e in
        let number = from.edge.number in
        elim (ℕ_discrete j i) [
          | yes q ↦ rw q at (w.reaches e number from.edge)
          | no q ↦
              let both = ends e number in
              let placed = lower-below low high t.number e t.count (f.all _ both.0) (f.all _ both.1) in
              let below = child j i j (omega arith) (omega (arith, from.start)) placed from.inside in
              let c = below.1 in
              let up : at t.parent below.0 < no_place = omega (arith, f.few, c.parent) in
              rw c.parent at
              (w.passes_up below.0 e (omega (arith, c.later)) c.place up
              (record { edge = from.edge; start = c.above; inside = c.inside }))
        ]

    -- place k - 1 is next, and what is from k on is raised
    module _ (k : ℕ) (some : 0 < k) (within : k ≤ t.count) (w : Points low high K m n t f m k points)
        (up : at t.parent (k - 1) < no_place) where
      abbrev parent : ℕ
      parent = at t.parent (k - 1)

      earlier : parent < k - 1
      earlier = (f.trees.tree (k - 1) (omega arith) up).earlier

      -- an edge from its subtree is one from its parent's
      above : (e : ℕ) → From low high K m n t f (k - 1) e → From low high K m n t f parent e
      above e from =
          let under = f.trees.children (k - 1) (omega arith) up in
          let end = f.trees.nested parent (k - 1) (omega (arith, earlier)) (omega arith) under in
          record {
            edge = from.edge;
            start = omega (arith, earlier, from.start);
            inside = omega (arith, from.inside);
          }

      points-child : Points low high K m n t f m (k - 1) (fallen points parent (at points (k - 1)))
      points-child = points-pass
          (points-fall w parent (at points (k - 1)) (λ less placed.
          let by = w.real (k - 1) (omega arith) (omega (arith, earlier)) in
          (by.0, above by.0 by.1, by.2)))
          (λ u e from.
          omega (arith, fallen-at points parent (at points (k - 1)), point-low w (k - 1) (omega arith) e from))

module _ {parent : List ℕ} {count : ℕ} {points : List ℕ} where
  pub raised-next : {k : ℕ} {points' : List ℕ} → Raised parent count points k points' → 0 < k → k ≤ count
      → {next : List ℕ} → next ≡ raised parent points' (k - 1) → Raised parent count points (k - 1) next
  raised-next {k} w l h r low high K m n t f p q ends v =
      let before = w low high K m n t f p q ends v in
      rw (r, ← p) (elim (dec_lt (at t.parent (k - 1)) no_place) [
        | yes up ↦ rw (raised-child _ _ _ up) (points-child f ends k l (omega arith) before up)
        | no none ↦
            let root : no_place ≤ at t.parent (k - 1) = omega arith in
            rw (raised-root _ _ _ root) (points-pass f before (λ up e from. absurd (omega arith)))
      ])
