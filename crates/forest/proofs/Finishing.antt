-- A place is finished, a tree is planted, and the search ends: what it has then is a depth-first forest.
use mathlib.Core.Path.{◌≡◌, ◌∙◌, ap}
use mathlib.Core.Bool.{Bool}
use mathlib.Core.List.{List}
use mathlib.Core.Logic.{◌⊎◌, inl, inr, ⊎_elim, ◌≢◌}
use Prim.Native.Nat.{ℕ, ◌*◌, ◌/◌, ◌≤◌, ◌<◌}
use native.Mathlib.Omega.{arith}
use native.Mathlib.Decide.{ℕ_discrete}
use Rattle.base.specs.Limits.{vertex_limit, edge_limit}
use Rattle.connection.specs.Incidence.{end_limit}
use Rattle.connection.proofs.Tabling.{at_low, chain-within}
use Rattle.base.specs.Columns.{at}
use Rattle.forest.specs.Forest.{no_place, Trees, DepthFirst}
use Rattle.forest.specs.Search.{entered, unfinished, Finished, Open, Met, Course, Searching}
use Rattle.forest.specs.declared.Forest.{Forest}
use Rattle.forest.proofs.Entering.{ended, ended_same, ended-other, place-left, Enters, placed-old}
use Rattle.forest.proofs.Passing.{course-entered, met-entered}

-- ── a place has no end ahead, and its subtree is finished ──

module _ {low high : List ℕ} {K : List Bool} {m : ℕ} {next : List ℕ} {t : Forest} {ahead : List ℕ} {i : ℕ} {end : ℕ → ℕ}
    (w : Searching low high K m next t ahead i end) (place : i < no_place)
    (none : end_limit ≤ at ahead (at t.order i)) where
  abbrev course : Course low high K m next t ahead i end
  course = w.course

  abbrev trees : Trees low high K m t end
  trees = course.trees

  abbrev up : ℕ
  up = at t.parent i

  abbrev after : ℕ → ℕ
  after = ended end i t.count

  here : i < t.count
  here = (course.here place).0

  grows : end i ≡ unfinished
  grows = (course.here place).1

  most : t.count ≤ vertex_limit
  most = omega (arith, course.room)

  same : {k : ℕ} → k ≢ i → after k ≡ end k
  same = ended-other end i t.count

  this : after i ≡ t.count
  this = ended_same end i t.count

  -- a place is in the subtree there if it was
  was-inside : (j k : ℕ) → k < t.count → k < after j → k < end j
  was-inside j k l h = elim (ℕ_discrete j i) [
    | yes e ↦ let q = ap end e in omega (arith, grows, most)
    | no ne ↦ omega (arith, same ne)
  ]

  still-inside : (j k : ℕ) → k < t.count → k < end j → k < after j
  still-inside j k l h = elim (ℕ_discrete j i) [
    | yes e ↦ let q = ap after e in omega (arith, this)
    | no ne ↦ omega (arith, same ne)
  ]

  -- no subtree that still grows ends before one that holds its place
  ends-later : (j : ℕ) → j ≤ i → j < t.count → i < end j → t.count ≤ after j
  ends-later j b l h = elim (ℕ_discrete j i) [
    | yes e ↦ let q = ap after e in omega (arith, this)
    | no ne ↦
        let out = same ne in
        ⊎_elim
        (λ f. absurd (omega (arith, f.ended, trees.nested j i b here h, grows, most)))
        (λ o. omega (arith, o.grows, most))
        (course.turns j l)
  ]

  nested-after : (j k : ℕ) → j ≤ k → k < t.count → k < after j → after k ≤ after j
  nested-after j k b l h = elim (ℕ_discrete k i) [
    | yes e ↦
        let q = ap after e in
        omega (arith, this, ends-later j (omega arith) (omega arith) (omega (arith, was-inside j k l h)))
    | no ne ↦ elim (ℕ_discrete j i) [
      | yes e ↦
          let q = ap after e in
          let out = same ne in
          ⊎_elim
          (λ f. omega (arith, f.ended, this))
          (λ o. absurd (omega (arith, o.above)))
          (course.turns k l)
      | no n ↦ rw (same ne, same n) (trees.nested j k b l (was-inside j k l h))
    ]
  ]

  trees-finished : Trees low high K m t after
  trees-finished = record {
    placed = trees.placed;
    holds = trees.holds;
    tree = trees.tree;
    root = trees.root;
    own = λ k l. still-inside k k l (trees.own k l);
    parents = λ j k b l h. trees.parents j k b l (was-inside j k l h);
    children = λ k l p. still-inside (at t.parent k) k l (trees.children k l p);
    nested = nested-after;
  }

  turns-finished : (k : ℕ) → k < t.count → Finished t ahead after k ⊎ Open t up after k
  turns-finished k l = elim (ℕ_discrete k i) [
    | yes e ↦ inl (rw e (record { ended = omega (arith, this); exhausted = none }))
    | no ne ↦
        let out = same ne in
        ⊎_elim
        (λ f. inl (record { ended = omega (arith, f.ended); exhausted = f.exhausted }))
        (λ o.
        let above = trees.parents k i (omega (arith, o.above)) here (omega (arith, o.grows)) in
        inr (record {
          grows = out ∙ o.grows;
          above = above.1;
          some = omega (arith, (trees.tree i here above.0).earlier);
        }))
        (course.turns k l)
  ]

  here-finished : up < no_place → (up < t.count) × (after up ≡ unfinished)
  here-finished l =
      let earlier = (trees.tree i here l).earlier in
      let out = same {k = up} (λ e. omega arith) in
      let inside = trees.nested up i (omega arith) here (trees.children i here l) in
      ⊎_elim
      (λ f. absurd (omega (arith, f.ended, inside, grows, most)))
      (λ o. (omega (arith, here), out ∙ o.grows))
      (course.turns up (omega (arith, here)))

  met-finished : (e : ℕ) → Met low high t end e → Met low high t after e
  met-finished e k = record {
    low_placed = k.low_placed;
    high_placed = k.high_placed;
    related =
        (still-inside _ _ k.low_placed k.related.0, still-inside _ _ k.high_placed k.related.1);
  }

  -- the search goes on at the parent
  pub finished : Searching low high K m next t ahead up after
  finished = record {
    course = record {
      sized = course.sized;
      few = course.few;
      rises = course.rises;
      trees = trees-finished;
      room = course.room;
      here = here-finished;
      turns = turns-finished;
      sound = course.sound;
    };
    passed = λ x d. ⊎_elim (λ k. inl (met-finished _ k)) inr (w.passed x d);
  }

-- ── between two trees ──

module _ {low high : List ℕ} {K : List Bool} {m : ℕ} {next : List ℕ} {t : Forest} {ahead : List ℕ} {end : ℕ → ℕ} where
  -- where the search is at no place, all places are finished
  all_finished : {i : ℕ} → Course low high K m next t ahead i end → no_place ≤ i → (k : ℕ) → k < t.count
      → Finished t ahead end k
  all_finished course none k l =
      ⊎_elim (λ f. f) (λ o. absurd (omega (arith, o.some, course.room))) (course.turns k l)

  -- a tree is planted at a vertex that has no place
  module _ (w : Searching low high K m next t ahead no_place end) (v : ℕ) (vertex : v < vertex_limit)
      (new : no_place ≤ at t.number v) where
    pub root-place : t.count < vertex_limit
    root-place = place-left t v vertex new w.course.room

    abbrev enters : Enters low high K m t end v no_place edge_limit
    enters =
        let s = w.course.sized in
        record {
          vertex = vertex;
          new = new;
          long_number = s.long_number;
          long_order = s.long_order;
          long_parent = s.long_parent;
          long_edge = s.long_edge;
          room = root-place;
          child = λ l. absurd (omega arith);
          root = λ l. w.course.few;
          growing = λ k l. inl (all_finished w.course (omega arith) k l).ended;
        }

    pub root-entered : Searching low high K m next (entered t v no_place edge_limit) ahead t.count
        (ended end t.count unfinished)
    root-entered = record {
      course = course-entered w.course enters;
      passed = λ x d. ⊎_elim (λ k. inl (met-entered w.course enters _ k)) inr (w.passed x d);
    }

    pub root-keeps : (u : ℕ) → at t.number u < no_place → at (entered t v no_place edge_limit).number u < no_place
    root-keeps u l = rw (placed-old enters w.course.trees u l) l

  -- ── the end ──

  -- where the first n vertices have places and the edges end at them, this is a depth-first forest
  pub search-over : Searching low high K m next t ahead no_place end → (n : ℕ) → n ≤ vertex_limit
      → ((v : ℕ) → v < n → at t.number v < no_place) → ((e : ℕ) → e < m → at low e < n)
      → DepthFirst low high K m n t
  search-over w n few all below =
      let course = w.course in
      let place : (v : ℕ) → v < n → (at t.number v < t.count) × (at t.order (at t.number v) ≡ v) =
      λ v l. course.trees.placed v (omega arith) (all v l) in
      record {
        end = end;
        trees = course.trees;
        few = omega (arith, course.room);
        all = λ v l. (place v l).0;
        related = λ e l k.
            let half : 2 * e / 2 ≡ e = omega arith in
            let mine = place (at low e) (below e l) in
            let f = all_finished course (omega arith) _ mine.0 in
            ⊎_elim
            (λ met. (rw half at met).related)
            (λ ch.
            let same = ap (at ahead) mine.1 in
            let here = ap (at ahead) (at_low low high e) in
            absurd (omega (arith, f.exhausted, chain-within ch)))
            (w.passed (2 * e) (record { number = omega arith; listed = rw half k }));
      }
