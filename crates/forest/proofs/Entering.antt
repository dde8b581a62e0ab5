-- A vertex gets the next place: what that changes in the columns, and that the trees stay trees.
use mathlib.Core.Path.{◌≡◌, refl, ◌∙◌, ap}
use mathlib.Core.Bool.{Bool, true, cond}
use mathlib.Core.List.{List}
use mathlib.Core.Logic.{◌⊎◌, ⊎_elim, ◌≢◌}
use Prim.Native.Nat.{ℕ, ◌+◌, ◌≤◌, ◌<◌}
use native.Mathlib.Omega.{arith}
use native.Mathlib.Decide.{ℕ_discrete}
use borrow.Author.Tests.{le-leb, lt-leb}
use lib.Dec.{eqb, leb}
use lib.ListN.{length}
use lib.Seq.{get_or-set_same, get_or-set_other}
use Rattle.base.specs.Fold.{bit}
use Rattle.base.specs.Limits.{vertex_limit}
use Rattle.base.proofs.Bools.{eqb-self, eqb_no}
use Rattle.base.proofs.Sums.{sum-change, term-le}
use Rattle.graph.specs.Network.{kept}
use Rattle.connection.specs.Walk.{Joins}
use Rattle.base.specs.Columns.{at}
use Rattle.forest.specs.Forest.{no_place, TreeEdge, Trees}
use Rattle.forest.specs.Search.{entered, unplaced, unfinished}
use Rattle.forest.specs.declared.Forest.{Forest}

-- ── where subtrees end, once one of them ends elsewhere ──

pub ended : (ℕ → ℕ) → ℕ → ℕ → ℕ → ℕ
ended end i a k = cond (eqb k i) a (end k)

pub ended_same : (end : ℕ → ℕ) (i a : ℕ) → ended end i a i ≡ a
unfolding ended
ended_same end i a = rw (eqb-self i)

pub ended-other : (end : ℕ → ℕ) (i a : ℕ) {k : ℕ} → k ≢ i → ended end i a k ≡ end k
unfolding ended
ended-other end i a ne = rw (eqb_no ne)

pub ended-before : (end : ℕ → ℕ) (i a : ℕ) {k : ℕ} → k < i → ended end i a k ≡ end k
ended-before end i a l = ended-other end i a (λ e. omega arith)

-- ── the columns ──

module _ (t : Forest) (v from by : ℕ) where
  abbrev after : Forest
  after = entered t v from by

  pub number-new : v < length t.number → at after.number v ≡ t.count
  unfolding entered
  number-new l = get_or-set_same t.number v t.count 0 l

  number-old : (u : ℕ) → u ≢ v → at after.number u ≡ at t.number u
  unfolding entered
  number-old u ne = get_or-set_other t.number v u t.count 0 ne

  order-new : t.count < length t.order → at after.order t.count ≡ v
  unfolding entered
  order-new l = get_or-set_same t.order t.count v 0 l

  pub order-old : (k : ℕ) → k < t.count → at after.order k ≡ at t.order k
  unfolding entered
  order-old k l = get_or-set_other t.order t.count k v 0 (λ e. omega arith)

  parent-new : t.count < length t.parent → at after.parent t.count ≡ from
  unfolding entered
  parent-new l = get_or-set_same t.parent t.count from 0 l

  parent-old : (k : ℕ) → k < t.count → at after.parent k ≡ at t.parent k
  unfolding entered
  parent-old k l = get_or-set_other t.parent t.count k from 0 (λ e. omega arith)

  edge-new : t.count < length t.edge → at after.edge t.count ≡ by
  unfolding entered
  edge-new l = get_or-set_same t.edge t.count by 0 l

  edge-old : (k : ℕ) → k < t.count → at after.edge k ≡ at t.edge k
  unfolding entered
  edge-old k l = get_or-set_other t.edge t.count k by 0 (λ e. omega arith)

  pub count-new : after.count ≡ t.count + 1
  unfolding entered
  count-new = refl

-- ── there is a place left for a vertex that has none ──

module _ (t : Forest) (v : ℕ) (l : v < vertex_limit) (new : no_place ≤ at t.number v) where
  free : Forest → ℕ → ℕ
  free s u = bit (leb no_place (at s.number u))

  here : free t v ≡ 1
  unfolding free
  here = ap bit (le-leb _ _ new)

  pub place-left : t.count + unplaced t ≤ vertex_limit → t.count < vertex_limit
  unfolding unplaced free
  place-left room = omega (arith, term-le vertex_limit (free t) v l, here)

  pub room-left : (from by : ℕ) → length t.number ≡ vertex_limit → t.count + unplaced t ≤ vertex_limit
      → (entered t v from by).count + unplaced (entered t v from by) ≤ vertex_limit
  unfolding unplaced free
  room-left from by long room =
      let s = entered t v from by in
      let now : free s v ≡ 0 =
      rw (number-new t v from by (omega arith)) (ap bit (lt-leb no_place t.count (place-left room))) in
      let change = sum-change vertex_limit v (free s) (free t) l
      (λ u k ne. ap (λ n. bit (leb no_place n)) (number-old t v from by u ne)) in
      omega (arith, change, now, here, count-new t v from by)

-- ── the trees ──

-- what entering a vertex asks: it has no place, and it comes below a place whose subtree grows, by a listed edge,
-- or below none; subtrees that grow hold that place
pub record Enters (low high : List ℕ) (K : List Bool) (m : ℕ) (t : Forest) (end : ℕ → ℕ) (v from by : ℕ) : Type 0 where
  pub vertex : v < vertex_limit
  pub new : no_place ≤ at t.number v
  pub long_number : length t.number ≡ vertex_limit
  pub long_order : length t.order ≡ vertex_limit
  pub long_parent : length t.parent ≡ vertex_limit
  pub long_edge : length t.edge ≡ vertex_limit
  pub room : t.count < vertex_limit
  pub child : from < no_place → (from < t.count) × (end from ≡ unfinished) × (by < m) × (kept K by ≡ true)
      × Joins low high by (at t.order from) v
  pub root : no_place ≤ from → m ≤ by
  pub growing : (k : ℕ) → k < t.count → (end k ≤ t.count) ⊎ ((end k ≡ unfinished) × (from < no_place) × (k ≤ from))

module _ {low high : List ℕ} {K : List Bool} {m : ℕ} {t : Forest} {end : ℕ → ℕ} {v from by : ℕ}
    (w : Enters low high K m t end v from by) (trees : Trees low high K m t end) where
  abbrev place : ℕ
  place = t.count

  abbrev next : Forest
  next = entered t v from by

  abbrev later : ℕ → ℕ
  later = ended end place unfinished

  -- a vertex with a place is another one
  pub placed-old : (u : ℕ) → at t.number u < no_place → at next.number u ≡ at t.number u
  placed-old u l = number-old t v from by u (λ e. let q = ap (at t.number) e in omega (arith, w.new))

  old-end : {k : ℕ} → k < place → later k ≡ end k
  old-end = ended-before end place unfinished

  -- the last place, or an earlier one
  module _ (k : ℕ) (l : k < next.count) (P : ℕ → Type 0) (old : k < place → P k) (new : P place) where
    either : P k
    either = elim (ℕ_discrete k place) [ yes e ↦ rw e new | no ne ↦ old (omega (arith, count-new t v from by)) ]

  number_is : at next.number v ≡ place
  number_is = number-new t v from by (omega (arith, w.vertex, w.long_number))

  order_is : at next.order place ≡ v
  order_is = order-new t v from by (omega (arith, w.room, w.long_order))

  parent_is : at next.parent place ≡ from
  parent_is = parent-new t v from by (omega (arith, w.room, w.long_parent))

  edge-is : at next.edge place ≡ by
  edge-is = edge-new t v from by (omega (arith, w.room, w.long_edge))

  parents-old : (k : ℕ) → k < place → at next.parent k ≡ at t.parent k
  parents-old = parent-old t v from by

  placed-after : (u : ℕ) → u < vertex_limit → at next.number u < no_place
      → (at next.number u < next.count) × (at next.order (at next.number u) ≡ u)
  placed-after u l h = elim (ℕ_discrete u v) [
    | yes e ↦ rw (e, number_is) (omega (arith, count-new t v from by), order_is)
    | no ne ↦
        let same = number-old t v from by u ne in
        let was = trees.placed u l (omega arith) in
        rw same (omega (arith, was.0, count-new t v from by), order-old t v from by _ was.0 ∙ was.1)
  ]

  holds_after : (k : ℕ) → k < next.count
      → (at next.order k < vertex_limit) × (at next.number (at next.order k) ≡ k)
  holds_after k l = either k l (λ k. (at next.order k < vertex_limit) × (at next.number (at next.order k) ≡ k))
      (λ o.
      let was = trees.holds k o in
      rw (order-old t v from by k o) (was.0, placed-old _ (omega (arith, was.1, w.room)) ∙ was.1))
      (rw (order_is, number_is) (w.vertex, refl))

  tree-after : (k : ℕ) → k < next.count → at next.parent k < no_place → TreeEdge low high K m next k
  tree-after k l = either k l (λ k. at next.parent k < no_place → TreeEdge low high K m next k)
      (λ o h.
      let was = trees.tree k o (omega (arith, parents-old k o)) in
      let up : at t.parent k < place = omega (arith, was.earlier) in
      record {
        earlier = rw (parents-old k o) was.earlier;
        number = rw (edge-old t v from by k o) was.number;
        listed = rw (edge-old t v from by k o) was.listed;
        joins = rw (edge-old t v from by k o, order-old t v from by k o, parents-old k o, order-old t v from by _ up)
            was.joins;
      })
      (λ h.
      let child = w.child (omega (arith, parent_is)) in
      record {
        earlier = rw parent_is child.0;
        number = rw edge-is child.2;
        listed = rw edge-is child.3;
        joins = rw (edge-is, order_is, parent_is, order-old t v from by from child.0) child.4;
      })

  root-after : (k : ℕ) → k < next.count → no_place ≤ at next.parent k → m ≤ at next.edge k
  root-after k l = either k l (λ k. no_place ≤ at next.parent k → m ≤ at next.edge k)
      (λ o h. rw (edge-old t v from by k o) (trees.root k o (omega (arith, parents-old k o))))
      (λ h. rw edge-is (w.root (omega (arith, parent_is))))

  own-after : (k : ℕ) → k < next.count → k < later k
  own-after k l = either k l (λ k. k < later k)
      (λ o. rw (old-end o) (trees.own k o))
      (rw (ended_same end place unfinished) (omega (arith, w.room)))

  -- a subtree with the new place still grows
  grows : (i : ℕ) → i < place → place < end i → (end i ≡ unfinished) × (from < no_place) × (i ≤ from)
  grows i l h = ⊎_elim (λ e. absurd (omega arith)) (λ g. g) (w.growing i l)

  parents-after : (i k : ℕ) → i < k → k < next.count → k < later i
      → (at next.parent k < no_place) × (i ≤ at next.parent k)
  parents-after i k b l = either k l
      (λ k. i < k → k < later i → (at next.parent k < no_place) × (i ≤ at next.parent k))
      (λ o b h.
      let e : later i ≡ end i = old-end (omega arith) in
      rw (parents-old k o) (trees.parents i k b o (omega arith)))
      (λ b h.
      let e : later i ≡ end i = old-end b in
      let g = grows i b (omega arith) in
      rw parent_is (g.1, g.2))
      b

  children-after : (k : ℕ) → k < next.count → at next.parent k < no_place → k < later (at next.parent k)
  children-after k l = either k l (λ k. at next.parent k < no_place → k < later (at next.parent k))
      (λ o h.
      let below : at t.parent k < no_place = omega (arith, parents-old k o) in
      let up : at t.parent k < place = omega (arith, (trees.tree k o below).earlier) in
      rw (parents-old k o, old-end up) (trees.children k o below))
      (λ h.
      let child = w.child (omega (arith, parent_is)) in
      rw (parent_is, old-end child.0, child.1) (omega (arith, w.room)))

  nested-after : (i k : ℕ) → i ≤ k → k < next.count → k < later i → later k ≤ later i
  nested-after i k b l = either k l (λ k. i ≤ k → k < later i → later k ≤ later i)
      (λ o b h.
      let e : later i ≡ end i = old-end (omega arith) in
      rw (old-end o, e) (trees.nested i k b o (omega arith)))
      (λ b h. elim (ℕ_discrete i place) [
        | yes e ↦ rw e (omega arith)
        | no ne ↦
            let o : i < place = omega arith in
            let e = old-end o in
            rw (ended_same end place unfinished, e) (omega (arith, (grows i o (omega arith)).0))
      ])
      b

  pub trees-entered : Trees low high K m next later
  trees-entered = record {
    placed = placed-after;
    holds = holds_after;
    tree = tree-after;
    root = root-after;
    own = own-after;
    parents = parents-after;
    children = children-after;
    nested = nested-after;
  }
