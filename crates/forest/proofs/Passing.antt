-- The next end at a place is passed: its edge is met, and a vertex that is met for the first time gets the next place.
use mathlib.Core.Path.{◌≡◌, refl, ◌∙◌, ap}
use mathlib.Core.Bool.{Bool, true, false, cond}
use mathlib.Core.List.{List}
use mathlib.Core.Logic.{◌⊎◌, inl, inr, ⊎_elim, ◌≢◌}
use Prim.Native.Nat.{ℕ, suc, ◌-◌, ◌/◌, ◌%◌, ◌≤◌, ◌<◌}
use native.Mathlib.Omega.{arith}
use native.Mathlib.Decide.{ℕ_discrete}
use lib.Dec.{eqb}
use lib.ListN.{length, length-set}
use lib.Seq.{get_or-set_same, get_or-set_other}
use Rattle.base.specs.Limits.{vertex_limit}
use Rattle.base.proofs.Sums.{sum-change}
use Rattle.connection.specs.Incidence.{end_limit, vertex_of, far_vertex_of, ListedEnd, Chained, first, behind}
use Rattle.connection.specs.Walk.{Joins}
use Rattle.connection.proofs.Tabling.{chain-within}
use Rattle.base.specs.Columns.{at}
use Rattle.forest.specs.Forest.{no_place, Related}
use Rattle.forest.specs.Search.{entered, unfinished, Finished, Open, Met, Course, Searching, advanced, work}
use Rattle.forest.specs.declared.Forest.{Forest}
use Rattle.forest.proofs.Entering.{ended, ended_same, ended-before, order-old, count-new, room-left, Enters}
use Rattle.forest.proofs.Entering.{number-new, place-left, placed-old, trees-entered}

-- ── the two ends of an edge ──

module _ (low high : List ℕ) (x : ℕ) where
  -- the edge of an end joins the end's vertex and the other one
  ends_join : Joins low high (x / 2) (vertex_of low high x) (far_vertex_of low high x)
  unfolding vertex_of far_vertex_of
  ends_join = go (eqb (x % 2) 0)
    where
      go : (b : Bool) → Joins low high (x / 2) (cond b (at low (x / 2)) (at high (x / 2)))
          (cond b (at high (x / 2)) (at low (x / 2)))
      go true = inl (refl, refl)
      go false = inr (refl, refl)

  -- the other end stands at the other vertex
  other-end : (y : ℕ) × (y / 2 ≡ x / 2) × (vertex_of low high y ≡ far_vertex_of low high x)
  unfolding vertex_of far_vertex_of
  other-end = elim (ℕ_discrete (x % 2) 0) [
    | yes e ↦
        let same : suc x / 2 ≡ x / 2 = omega arith in
        let odd : suc x % 2 ≡ 1 = omega arith in
        (suc x, same, rw (odd, same, e))
    | no ne ↦
        let same : (x - 1) / 2 ≡ x / 2 = omega arith in
        let odd : x % 2 ≡ 1 = omega arith in
        let even : (x - 1) % 2 ≡ 0 = omega arith in
        (x - 1, same, rw (even, same, odd))
  ]

  -- an edge is met if the places of its ends are related
  module _ (t : Forest) (end : ℕ → ℕ) where
    met-by-ends : at t.number (vertex_of low high x) < t.count → at t.number (far_vertex_of low high x) < t.count
        → Related end (at t.number (vertex_of low high x)) (at t.number (far_vertex_of low high x))
        → Met low high t end (x / 2)
    met-by-ends a b r = ⊎_elim
        (λ (p, q). record { low_placed = rw p a; high_placed = rw q b; related = rw (p, q) r })
        (λ (p, q). record { low_placed = rw q b; high_placed = rw p a; related = rw (p, q) (r.1, r.0) })
        ends_join

-- ── a vertex is entered ──

module _ {low high : List ℕ} {K : List Bool} {m : ℕ} {next : List ℕ} {t : Forest} {ahead : List ℕ} {i : ℕ} {end : ℕ → ℕ}
    {v from by : ℕ} (w : Course low high K m next t ahead i end) (enters : Enters low high K m t end v from by) where
  abbrev later : ℕ → ℕ
  later = ended end t.count unfinished

  -- a met edge stays met
  pub met-entered : (e : ℕ) → Met low high t end e → Met low high (entered t v from by) later e
  met-entered e k =
      let room = enters.room in
      let a = placed-old enters w.trees (at low e) (omega (arith, k.low_placed, room)) in
      let b = placed-old enters w.trees (at high e) (omega (arith, k.high_placed, room)) in
      let more = count-new t v from by in
      let low_end = ended-before end t.count unfinished k.low_placed in
      let high_end = ended-before end t.count unfinished k.high_placed in
      record {
        low_placed = omega (arith, k.low_placed);
        high_placed = omega (arith, k.high_placed);
        related = rw (a, b, low_end, high_end) k.related;
      }

  turns-entered : (k : ℕ) → k < (entered t v from by).count
      → Finished (entered t v from by) ahead later k ⊎ Open (entered t v from by) t.count later k
  turns-entered k l =
      let more = count-new t v from by in
      elim (ℕ_discrete k t.count) [
        | yes e ↦
            let grows : later k ≡ unfinished = rw e (ended_same end t.count unfinished) in
            inr (record { grows = grows; above = omega arith; some = omega arith })
        | no ne ↦
            let o : k < t.count = omega arith in
            let same = ended-before end t.count unfinished o in
            ⊎_elim
            (λ f. inl (record {
              ended = omega (arith, f.ended);
              exhausted = rw (order-old t v from by k o) f.exhausted;
            }))
            (λ g. inr (record { grows = same ∙ g.grows; above = omega arith; some = omega arith }))
            (w.turns k o)
      ]

  pub course-entered : Course low high K m next (entered t v from by) ahead t.count later
  course-entered =
      let s = w.sized in
      record {
        sized = unfold entered in record {
          long_low = s.long_low;
          long_high = s.long_high;
          long_next = s.long_next;
          long_number = rw length-set s.long_number;
          long_order = rw length-set s.long_order;
          long_parent = rw length-set s.long_parent;
          long_edge = rw length-set s.long_edge;
          long_ahead = s.long_ahead;
        };
        few = w.few;
        rises = w.rises;
        trees = trees-entered enters w.trees;
        room = room-left t v enters.vertex enters.new from by s.long_number w.room;
        here = λ l. (rw (count-new t v from by) (omega arith), ended_same end t.count unfinished);
        turns = turns-entered;
        sound = w.sound;
      }

-- ── the next end is passed ──

module _ (next ahead : List ℕ) (v : ℕ) (long : length ahead ≡ vertex_limit) (l : v < vertex_limit)
    (some : at ahead v < end_limit) where
  ahead-new : at (advanced next ahead v) v ≡ at next (at ahead v)
  ahead-new = get_or-set_same ahead v (at next (at ahead v)) 0 (omega arith)

  ahead-old : (u : ℕ) → u ≢ v → at (advanced next ahead v) u ≡ at ahead u
  ahead-old u ne = get_or-set_other ahead v u (at next (at ahead v)) 0 ne

  work-less : ((x : ℕ) → x < end_limit → x < at next x) → work (advanced next ahead v) < work ahead
  unfolding work
  work-less rises =
      let left : List ℕ → ℕ → ℕ = λ l u. end_limit - at l u in
      let change = sum-change vertex_limit v (left (advanced next ahead v)) (left ahead) l
      (λ u k ne. ap (λ x. end_limit - x) (ahead-old u ne)) in
      omega (arith, change, ahead-new, rises (at ahead v) some)

  -- where nothing was ahead, nothing is
  exhausted-still : (u : ℕ) → end_limit ≤ at ahead u → end_limit ≤ at (advanced next ahead v) u
  exhausted-still u h = elim (ℕ_discrete u v) [
    | yes e ↦ let q = ap (at ahead) e in absurd (omega arith)
    | no ne ↦ omega (arith, ahead-old u ne)
  ]

  -- what is ahead was ahead, and what was is, but for the end that is passed
  ahead-was : (u x : ℕ) → Chained next (at (advanced next ahead v) u) x → Chained next (at ahead u) x
  ahead-was u x c = elim (ℕ_discrete u v) [
    | yes e ↦ rw e (behind {from = at ahead v} {end = x} some (rw (e, ahead-new) at c))
    | no ne ↦ rw (ahead-old u ne) at c
  ]

  ahead-is : (u x : ℕ) → Chained next (at ahead u) x → (x ≡ at ahead v) ⊎ Chained next (at (advanced next ahead v) u) x
  ahead-is u x c = elim (ℕ_discrete u v) [
    | yes e ↦ ⊎_elim inl (λ k. inr (rw (e, ahead-new) k)) (split (rw e at c))
    | no ne ↦ inr (rw (ahead-old u ne) c)
  ]
    where
      split : {from end : ℕ} → Chained next from end → (end ≡ from) ⊎ Chained next (at next from) end
      split (first b) = inl refl
      split (behind b k) = inr k

-- the search at place i, whose vertex has an end ahead
module _ {low high : List ℕ} {K : List Bool} {m : ℕ} {next : List ℕ} {t : Forest} {ahead : List ℕ} {i : ℕ} {end : ℕ → ℕ}
    (w : Searching low high K m next t ahead i end) (place : i < no_place) where
  abbrev course : Course low high K m next t ahead i end
  course = w.course

  abbrev v : ℕ
  v = at t.order i

  pub v_below : v < vertex_limit
  v_below = (course.trees.holds i (course.here place).0).0

  v-placed : at t.number v ≡ i
  v-placed = (course.trees.holds i (course.here place).0).1

  module _ (some : at ahead v < end_limit) where
    abbrev x : ℕ
    x = at ahead v

    abbrev ahead' : List ℕ
    ahead' = advanced next ahead v

    known-end : ListedEnd K m x × (vertex_of low high x ≡ v)
    known-end = course.sound v x v_below (first {end = x} some)

    pub less : work ahead' < work ahead
    less = work-less next ahead v course.sized.long_ahead v_below some course.rises

    course-advanced : Course low high K m next t ahead' i end
    course-advanced =
        let s = course.sized in
        record {
          sized = record {
            long_low = s.long_low;
            long_high = s.long_high;
            long_next = s.long_next;
            long_number = s.long_number;
            long_order = s.long_order;
            long_parent = s.long_parent;
            long_edge = s.long_edge;
            long_ahead = rw length-set s.long_ahead;
          };
          few = course.few;
          rises = course.rises;
          trees = course.trees;
          room = course.room;
          here = course.here;
          turns = λ k l. ⊎_elim
              (λ f. inl (record {
                ended = f.ended;
                exhausted = exhausted-still next ahead v s.long_ahead v_below some _ f.exhausted;
              }))
              inr
              (course.turns k l);
          sound = λ u y l k. course.sound u y l (ahead-was next ahead v s.long_ahead v_below some u y k);
        }

    -- once the edge of the end is met, every edge with an end that is not ahead is
    all-passed : (t' : Forest) (end' : ℕ → ℕ) → ((e : ℕ) → Met low high t end e → Met low high t' end' e)
        → Met low high t' end' (x / 2) → (y : ℕ) → ListedEnd K m y
        → Met low high t' end' (y / 2) ⊎ Chained next (at ahead' (vertex_of low high y)) y
    all-passed t' end' keeps met y d = ⊎_elim
        (λ k. inl (keeps _ k))
        (λ k. ⊎_elim
        (λ e. inl (rw e met))
        inr
        (ahead-is next ahead v course.sized.long_ahead v_below some _ y k))
        (w.passed y d)

    abbrev far : ℕ
    far = far_vertex_of low high x

    module _ (low-far : far < vertex_limit) where
      -- a vertex that has a place is an ancestor, or it has passed all its ends, this edge's too
      met-known : at t.number far < no_place → Met low high t end (x / 2)
      met-known old =
          let k = at t.number far in
          let placed = course.trees.placed far low-far old in
          let at_v = ap (at t.number) known-end.1 ∙ v-placed in
          let here = course.here place in
          ⊎_elim
          (λ f.
          let y = other-end low high x in
          let passed = w.passed y.0 (record {
            number = rw y.1 known-end.0.number;
            listed = rw y.1 known-end.0.listed;
          }) in
          ⊎_elim
          (λ met. rw y.1 at met)
          (λ ch. absurd (omega (arith, f.exhausted, ap (at ahead) placed.1, ap (at ahead) y.2, chain-within ch)))
          passed)
          (λ o. met-by-ends low high x t end (omega (arith, at_v, here.0)) placed.0
          (rw (at_v, o.grows, here.1) (omega (arith, here.0, o.above), omega (arith, o.above))))
          (course.turns k placed.0)

      pub passed-known : at t.number far < no_place → Searching low high K m next t ahead' i end
      passed-known old = record {
        course = course-advanced;
        passed = all-passed t end (λ e k. k) (met-known old);
      }

      -- a vertex that has none gets one below
      enters-new : no_place ≤ at t.number far → t.count < vertex_limit → Enters low high K m t end far i (x / 2)
      enters-new new room =
          let s = course.sized in
          let here = course.here place in
          record {
            vertex = low-far;
            new = new;
            long_number = s.long_number;
            long_order = s.long_order;
            long_parent = s.long_parent;
            long_edge = s.long_edge;
            room = room;
            child = λ l.
                let ends = rw known-end.1 at (ends_join low high x) in
                (here.0, here.1, known-end.0.number, known-end.0.listed, ends);
            root = λ l. absurd (omega arith);
            growing = λ k l. ⊎_elim (λ f. inl f.ended) (λ o. inr (o.grows, place, o.above)) (course.turns k l);
          }

      module _ (new : no_place ≤ at t.number far) where
        pub place-free : t.count < vertex_limit
        place-free = place-left t far low-far new course.room

        abbrev enters : Enters low high K m t end far i (x / 2)
        enters = enters-new new place-free

        met-new : Met low high (entered t far i (x / 2)) (ended end t.count unfinished) (x / 2)
        met-new =
            let here = course.here place in
            let s = entered t far i (x / 2) in
            let more = count-new t far i (x / 2) in
            let at-far = number-new t far i (x / 2) (omega (arith, low-far, course.sized.long_number)) in
            let at_v : at s.number (vertex_of low high x) ≡ i =
            ap (at s.number) known-end.1 ∙
            placed-old enters course.trees v (omega (arith, v-placed)) ∙ v-placed in
            let grows = ended-before end t.count unfinished here.0 ∙ here.1 in
            met-by-ends low high x s (ended end t.count unfinished)
            (omega (arith, at_v, here.0)) (omega (arith, at-far))
            (rw (at_v, at-far, grows, ended_same end t.count unfinished) (omega arith, omega (arith, place-free)))

        pub passed-new : Searching low high K m next (entered t far i (x / 2)) ahead' t.count
            (ended end t.count unfinished)
        passed-new = record {
          course = course-entered course-advanced enters;
          passed = all-passed _ _ (met-entered course-advanced enters) met-new;
        }

        pub new-keeps : (u : ℕ) → at t.number u < no_place → at (entered t far i (x / 2)).number u < no_place
        new-keeps u l = rw (placed-old enters course.trees u l) l
