-- Laws of sending a unit: along one arc, and back along a trail.
use mathlib.Core.Path.{◌≡◌, refl, sym, ap}
use mathlib.Core.Logic.{◌≢◌}
use mathlib.Core.Bool.{Bool, true, false}
use mathlib.Core.List.{List}
use Prim.Native.Nat.{ℕ, ◌+◌, ◌-◌, ◌≤◌, ◌<◌}
use native.Mathlib.Omega.{arith}
use native.Mathlib.Decide.{ℕ_discrete}
use lib.ListN.{length, set, length-set}
use lib.Seq.{get_or-set_same, get_or-set_other}
use Rattle.base.specs.Fold.{bit}
use Rattle.graph.specs.Cut.{Side}
use Rattle.base.specs.Limits.{vertex_limit}
use Rattle.base.proofs.Sums.{sum-change}
use Rattle.base.specs.Columns.{at}
use Rattle.flow.specs.Arcs.{arc_limit, reverse, tail, head, leaving, carried, capacity, Balanced}
use Rattle.flow.specs.Search.{Link, Tree}
use Rattle.flow.specs.Flow.{pushed, Sendable, Sent}
use Rattle.flow.specs.declared.search.Search.{Search}
use Rattle.flow.proofs.Reaching.{clock-most}

-- another capacity for one arc
capacity-set : (ends residual : List ℕ) (S : Side) (p c : ℕ) → length residual ≡ arc_limit → p < arc_limit
    → capacity ends (set residual p c) S + carried ends S p (at residual p)
    ≡ capacity ends residual S + carried ends S p c
unfolding capacity
capacity-set ends residual S p c long l =
    let new : ℕ → ℕ = λ q. carried ends S q (at (set residual p c) q) in
    let old : ℕ → ℕ = λ q. carried ends S q (at residual q) in
    let change = sum-change arc_limit p new old l (λ q _ ne. ap (carried ends S q) (get_or-set_other residual p q c 0 ne))
    in
    let here = ap (carried ends S p) (get_or-set_same residual p c 0 (omega arith)) in
    omega arith

-- an arc and its reverse, of capacities c and d, between parts x and y: what leaves the part, before and after a push
push-leaving : (x y : Bool) (before between after c d : ℕ) → 1 ≤ c
    → between + leaving x y c ≡ before + leaving x y (c - 1)
    → after + leaving y x d ≡ between + leaving y x (d + 1) → after + bit x ≡ before + bit y
unfolding leaving
push-leaving true true before between after c d h e f = omega arith
push-leaving true false before between after c d h e f = omega arith
push-leaving false true before between after c d h e f = omega arith
push-leaving false false before between after c d h e f = omega arith

-- a unit is sent along arc p
module _ {residual : List ℕ} (b : Balanced residual) (p : ℕ) (arc : p < arc_limit) where
  reverse-other : reverse p ≢ p
  reverse-other e = omega arith

  pushed-arc : at (pushed residual p) p ≡ at residual p - 1
  unfolding pushed
  pushed-arc =
      let ne : p ≢ reverse p = λ e. reverse-other (sym e) in
      let fits : p < length residual = omega (arith, b.long) in
      rw (get_or-set_other, get_or-set_same)

  pushed-reverse : at (pushed residual p) (reverse p) ≡ at residual (reverse p) + 1
  unfolding pushed
  pushed-reverse = get_or-set_same (set residual p (at residual p - 1)) (reverse p) _ 0
      (rw length-set (omega (arith, b.long)))

  pushed-other : (q : ℕ) → q ≢ p → q ≢ reverse p → at (pushed residual p) q ≡ at residual q
  unfolding pushed
  pushed-other q np nr = simp get_or-set_other

  -- every other arc can carry as much as before, or more
  pushed-carries : (q : ℕ) → q ≢ p → 1 ≤ at residual q → 1 ≤ at (pushed residual p) q
  pushed-carries q ne h = elim (ℕ_discrete q (reverse p)) [
    | yes e ↦ rw (e, pushed-reverse) (omega arith)
    | no nr ↦ omega (arith, pushed-other q ne nr)
  ]

  module _ (carries : 1 ≤ at residual p) where
    pushed-paired : (q : ℕ) → q < arc_limit → at (pushed residual p) q + at (pushed residual p) (reverse q) ≡ 2
    pushed-paired q l = elim (ℕ_discrete q p) [
      | yes e ↦ rw e (omega (arith, pushed-arc, pushed-reverse, b.paired p arc))
      | no np ↦
          elim (ℕ_discrete q (reverse p)) [
            | yes e ↦ (let back : reverse q ≡ p = omega arith in
                rw (back, e) (omega (arith, pushed-arc, pushed-reverse, b.paired p arc)))
            | no nr ↦
                omega (
                  arith,
                  b.paired q l,
                  pushed-other q np nr,
                  pushed-other (reverse q) (λ e. nr (omega arith)) (λ e. np (omega arith)),
                )
          ]
    ]

    pushed-balanced : Balanced (pushed residual p)
    pushed-balanced = record { long = unfold pushed in simp length-set b.long; paired = pushed-paired }

    -- for every side: the push takes a unit from the part of the arc's tail to that of its head. This holds of all
    -- sides at once, so nothing need be said of conservation at a vertex
    capacity-pushed : (ends : List ℕ) (S : Side)
        → capacity ends (pushed residual p) S + bit (S (tail ends p)) ≡ capacity ends residual S + bit (S (head ends p))
    unfolding pushed
    capacity-pushed ends S =
        let less = set residual p (at residual p - 1) in
        let first = capacity-set ends residual S p (at residual p - 1) b.long arc in
        let second = capacity-set ends less S (reverse p) (at residual (reverse p) + 1) (rw length-set b.long)
        (omega arith) in
        let back : reverse (reverse p) ≡ p = omega arith in
        let same : at less (reverse p) ≡ at residual (reverse p) =
        get_or-set_other residual p (reverse p) _ 0 reverse-other in
        push-leaving (S (tail ends p)) (S (head ends p)) _ _ _ _ _ carries first (rw (back, same) at second)

-- a unit is on its way back along the trail: it has still to come to the vertex of this number
pub record Partway (ends : List ℕ) (s : Search) (target : ℕ) (residual₀ residual : List ℕ) (number : ℕ) : Type 0 where
  pub vertex : ℕ
  pub numbered : at s.order vertex ≡ number
  pub some : 1 ≤ number
  pub balanced : Balanced residual
  pub ahead : (w : ℕ) → 2 ≤ at s.order w → at s.order w ≤ number → 1 ≤ at residual (at s.trail (at s.order w))
  pub spent : (S : Side) → capacity ends residual S + bit (S vertex) ≡ capacity ends residual₀ S + bit (S target)

module _ {ends residual₀ : List ℕ} {s : Search} {target : ℕ} (sendable : Sendable ends residual₀ s target) where
  tree : Tree ends residual₀ s
  tree = sendable.tree

  pub partway-none : Partway ends s target residual₀ residual₀ (at s.order target)
  partway-none = record {
    vertex = target;
    numbered = refl;
    some = sendable.is_reached;
    balanced = sendable.balanced;
    ahead = λ w h _. (tree.link w h).carries;
    spent = λ S. refl;
  }

  module _ {residual : List ℕ} {number : ℕ} (way : Partway ends s target residual₀ residual number) where
    pub number-most : number ≤ vertex_limit
    number-most = omega (arith, tree.numbered way.vertex, way.numbered, clock-most tree)

    -- the unit has come to a source
    pub partway-sent : number ≤ 1 → Sent ends s.order target residual₀ residual
    partway-sent le = record {
      balanced = way.balanced;
      spent = λ S sources.
          let in-side = ap bit (sources way.vertex (omega (arith, way.numbered, way.some))) in
          omega (arith, way.spent S);
    }

    module _ (more : 2 ≤ number) where
      -- the arc by which the vertex was reached
      pub link-back : Link ends residual₀ s.order (at s.trail number) way.vertex
      link-back = rw way.numbered at (tree.link way.vertex (omega (arith, way.numbered)))

      pub carries-back : 1 ≤ at residual (at s.trail number)
      carries-back = rw way.numbered at
          (way.ahead way.vertex (omega (arith, way.numbered)) (omega (arith, way.numbered)))

      -- no vertex before it was reached by the same arc
      another-arc : (w : ℕ) → 2 ≤ at s.order w → at s.order w < number → at s.trail (at s.order w) ≢ at s.trail number
      another-arc w h l e =
          let same : at s.order w ≡ at s.order way.vertex = cc ((tree.link w h).arrives, link-back.arrives) in
          omega (arith, way.numbered)

      -- one arc further back: the part of its tail replaces that of its head, so that what lies between cancels
      pub partway-on : Partway ends s target residual₀ (pushed residual (at s.trail number))
          (at s.order (tail ends (at s.trail number)))
      partway-on = record {
        vertex = tail ends p;
        numbered = refl;
        some = link-back.from;
        balanced = pushed-balanced way.balanced p link-back.arc carries-back;
        ahead = λ w h le.
            let l : at s.order w < number = omega (arith, way.numbered, link-back.earlier) in
            pushed-carries way.balanced p link-back.arc (at s.trail (at s.order w)) (another-arc w h l)
            (way.ahead w h (omega arith));
        spent = λ S.
            let one = capacity-pushed way.balanced p link-back.arc carries-back ends S in
            let arrives = ap (λ v. bit (S v)) link-back.arrives in
            omega (arith, way.spent S);
      }
        where
          p : ℕ
          p = at s.trail number
