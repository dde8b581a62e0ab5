-- Laws of sending a unit: out by one port, and back along a trail.
use mathlib.Core.Bool.{Bool, true, false, not}
use mathlib.Core.List.{List}
use mathlib.Core.Logic.{◌≢◌}
use mathlib.Core.Path.{◌≡◌, refl, sym, ◌∙◌, ap}
use Prim.Native.Nat.{ℕ, ◌+◌, ◌-◌, ◌≤◌, ◌<◌}
use native.Mathlib.Decide.{ℕ_discrete}
use native.Mathlib.Omega.{arith}
use lib.ListN.{length, set, length-set}
use lib.Seq.{get_or-set_same, get_or-set_other}
use Rattle.base.specs.Columns.{at}
use Rattle.base.specs.Fold.{bit}
use Rattle.base.specs.Limits.{vertex_limit}
use Rattle.base.proofs.Sums.{sum-change}
use Rattle.graph.specs.Cut.{Side}
use Rattle.ports.specs.Ports.{port_limit, vertex_of, far_vertex, Mated}
use Rattle.flow.specs.Capacity.{leaving, carried, capacity, Balanced, pushed}
use Rattle.flow.specs.declared.reach.Reach.{Reach}
use Rattle.flow.specs.Reach.{gate, Link, Tree}
use Rattle.flow.specs.Sending.{Passed, Went, Sendable, Sent}
use Rattle.flow.proofs.Visiting.{gate-below, clock-most}

-- another capacity for one port
capacity-set : (mate residual : List ℕ) (S : Side) (p c : ℕ) → length residual ≡ port_limit → p < port_limit
    → capacity mate (set residual p c) S + carried mate S p (at residual p)
    ≡ capacity mate residual S + carried mate S p c
unfolding capacity
capacity-set mate residual S p c long l =
    let new : ℕ → ℕ = λ q. carried mate S q (at (set residual p c) q) in
    let old : ℕ → ℕ = λ q. carried mate S q (at residual q) in
    let change =
    sum-change port_limit p new old l (λ q _ ne. ap (carried mate S q) (get_or-set_other residual p q c 0 ne)) in
    let here = ap (carried mate S p) (get_or-set_same residual p c 0 (omega arith)) in
    omega arith

-- a port and its mate, of capacities c and d, between parts x and y: what leaves the part, before and after a push
push-leaving : (x y : Bool) (before between after c d : ℕ) → 1 ≤ c
    → between + leaving x y c ≡ before + leaving x y (c - 1)
    → after + leaving y x d ≡ between + leaving y x (d + 1) → after + bit x ≡ before + bit y
unfolding leaving
push-leaving true true before between after c d h e f = omega arith
push-leaving true false before between after c d h e f = omega arith
push-leaving false true before between after c d h e f = omega arith
push-leaving false false before between after c d h e f = omega arith

-- a unit is sent out by port p and in by its mate
module _ {mate residual : List ℕ} (m : Mated mate) (b : Balanced mate residual) (p : ℕ) (port : p < port_limit)
    (other : at mate p ≢ p) where
  pushed-port : at (pushed residual p (at mate p)) p ≡ at residual p - 1
  unfolding pushed
  pushed-port =
      let ne : p ≢ at mate p = λ e. other (sym e) in
      let fits : p < length residual = omega (arith, b.long) in
      rw (get_or-set_other, get_or-set_same)

  pushed-mate : at (pushed residual p (at mate p)) (at mate p) ≡ at residual (at mate p) + 1
  unfolding pushed
  pushed-mate = get_or-set_same (set residual p (at residual p - 1)) (at mate p) _ 0
      (rw length-set (omega (arith, b.long, m.below p port)))

  pushed-other : (q : ℕ) → q ≢ p → q ≢ at mate p → at (pushed residual p (at mate p)) q ≡ at residual q
  unfolding pushed
  pushed-other q np nm = simp get_or-set_other

  -- every other port can carry as much as before, or more
  pushed_most : (q : ℕ) → q ≢ p → at residual q ≤ at (pushed residual p (at mate p)) q
  pushed_most q ne = elim (ℕ_discrete q (at mate p)) [
    | yes e ↦ rw (e, pushed-mate) (omega arith)
    | no nm ↦ omega (arith, pushed-other q ne nm)
  ]

  module _ (carries : 1 ≤ at residual p) where
    pub mate-most : at residual (at mate p) ≤ 1
    mate-most = omega (arith, b.paired p port)

    pushed-paired : (q : ℕ) → q < port_limit
        → at (pushed residual p (at mate p)) q + at (pushed residual p (at mate p)) (at mate q) ≤ 2
    pushed-paired q l = elim (ℕ_discrete q p) [
      | yes e ↦ rw e (omega (arith, pushed-port, pushed-mate, b.paired p port))
      | no np ↦
          elim (ℕ_discrete q (at mate p)) [
            | yes e ↦
                (let back = m.back p port in
                rw (e, back) (omega (arith, pushed-port, pushed-mate, b.paired p port)))
            | no nm ↦
                omega (
                  arith,
                  b.paired q l,
                  pushed-other q np nm,
                  pushed-other (at mate q) (λ e. nm (sym (m.back q l) ∙ ap (at mate) e))
                      (λ e. np (sym (m.back q l) ∙ ap (at mate) e ∙ m.back p port)),
                )
          ]
    ]

    pub pushed-balanced : Balanced mate (pushed residual p (at mate p))
    pushed-balanced = record { long = unfold pushed in simp length-set b.long; paired = pushed-paired }

    -- for every side: the unit goes from the part of the port's vertex to that of the far one
    pub pushed-passed : Passed mate residual (pushed residual p (at mate p)) (vertex_of p) (far_vertex mate p)
    unfolding pushed
    pushed-passed S =
        let less = set residual p (at residual p - 1) in
        let first = capacity-set mate residual S p (at residual p - 1) b.long port in
        let second = capacity-set mate less S (at mate p) (at residual (at mate p) + 1) (rw length-set b.long)
        (m.below p port) in
        let back = m.back p port in
        let same : at less (at mate p) ≡ at residual (at mate p) = get_or-set_other residual p (at mate p) _ 0 other in
        push-leaving (S (vertex_of p)) (S (far_vertex mate p)) _ _ _ _ _ carries first (rw (back, same) at second)

-- a unit on its way between a root and the target goes one port further
went_on : (mate : List ℕ) (back : Bool) (residual₀ residual residual' : List ℕ) (from v target : ℕ)
    → Went mate back residual₀ residual v target → Went mate back residual residual' from v
    → Went mate back residual₀ residual' from target
went_on mate false residual₀ residual residual' from v target a b = λ S. omega (arith, a S, b S)
went_on mate true residual₀ residual residual' from v target a b = λ S. omega (arith, a S, b S)

-- the residual once a unit has gone by port p, or by its mate where the search goes back
abbrev pub sent_by : List ℕ → Bool → List ℕ → ℕ → List ℕ
sent_by mate back residual p = pushed residual (gate mate back p) (gate mate (not back) p)

module _ {mate residual : List ℕ} (m : Mated mate) (b : Balanced mate residual) (p : ℕ) (port : p < port_limit)
    (other : at mate p ≢ p) where
  mate-other : at mate (at mate p) ≢ at mate p
  mate-other e = other (sym e ∙ m.back p port)

  sent-most : (back : Bool) (q : ℕ) → q ≢ gate mate back p → at residual q ≤ at (sent_by mate back residual p) q
  sent-most false q ne = pushed_most m b p port other q ne
  sent-most true q ne = rw (m.back p port) at (pushed_most m b (at mate p) (m.below p port) mate-other q ne)

  sent-balanced : (back : Bool) → 1 ≤ at residual (gate mate back p) → Balanced mate (sent_by mate back residual p)
  sent-balanced false c = pushed-balanced m b p port other c
  sent-balanced true c = rw (m.back p port) at (pushed-balanced m b (at mate p) (m.below p port) mate-other c)

  sent-went : (back : Bool) → 1 ≤ at residual (gate mate back p)
      → Went mate back residual (sent_by mate back residual p) (vertex_of p) (far_vertex mate p)
  sent-went false c = pushed-passed m b p port other c
  sent-went true c = λ S. rw (m.back p port) at (pushed-passed m b (at mate p) (m.below p port) mate-other c S)

  -- where the unit comes in there is room for it
  sent-room : (back : Bool) → 1 ≤ at residual (gate mate back p) → at residual (gate mate (not back) p) ≤ 1
  sent-room false c = mate-most m b p port other c
  sent-room true c = rw (m.back p port) at (mate-most m b (at mate p) (m.below p port) mate-other c)

-- two ports with one gate are one
gate-one : {mate : List ℕ} → Mated mate → (back : Bool) {p q : ℕ} → p < port_limit → q < port_limit
    → gate mate back p ≡ gate mate back q → p ≡ q
gate-one m false pl ql e = e
gate-one {mate} m true pl ql e = sym (m.back _ pl) ∙ ap (at mate) e ∙ m.back _ ql

-- the unit has still to come to the vertex of this number
pub record Partway (mate : List ℕ) (found : Reach) (target : ℕ) (residual₀ residual : List ℕ)
    (number : ℕ) : Type 0 where
  pub vertex : ℕ
  pub numbered : at found.order vertex ≡ number
  pub some : 1 ≤ number
  pub balanced : Balanced mate residual
  pub ahead : (w : ℕ) → 2 ≤ at found.order w → at found.order w ≤ number
      → 1 ≤ at residual (gate mate found.back (at found.trail (at found.order w)))
  pub went : Went mate found.back residual₀ residual vertex target
  pub only : (p : ℕ) → p < port_limit → at residual p < at residual₀ p
      → (1 ≤ at found.order (vertex_of p)) × (1 ≤ at found.order (far_vertex mate p))

module _ {mate residual₀ : List ℕ} {target : ℕ} {found : Reach}
    (s : Sendable mate residual₀ found target) where
  t : Tree mate residual₀ found
  t = s.tree

  pub partway-none : Partway mate found target residual₀ residual₀ (at found.order target)
  partway-none = record {
    vertex = target;
    numbered = refl;
    some = s.is_reached;
    balanced = t.balanced;
    ahead = λ w h _. (t.link w h).carries;
    went = went-nothing found.back;
    only = λ p l h. absurd (omega arith);
  }
    where
      went-nothing : (back : Bool) → Went mate back residual₀ residual₀ target target
      went-nothing false = λ S. refl
      went-nothing true = λ S. refl

  module _ {residual : List ℕ} {number : ℕ} (way : Partway mate found target residual₀ residual number) where
    pub number-most : number ≤ vertex_limit
    number-most = omega (arith, t.numbered way.vertex, way.numbered, clock-most t)

    -- the unit has come to a root
    pub partway-sent : number ≤ 1 → Sent mate found target residual₀ residual
    partway-sent le = record {
      balanced = way.balanced;
      root = way.vertex;
      is_root = omega (arith, way.numbered, way.some);
      went = way.went;
      only = way.only;
    }

    module _ (more : 2 ≤ number) where
      abbrev p : ℕ
      p = at found.trail number

      -- the port by which the vertex was reached
      pub link-back : Link mate residual₀ found.back found.order p way.vertex
      link-back = rw way.numbered at (t.link way.vertex (omega (arith, way.numbered)))

      pub carries-back : 1 ≤ at residual (gate mate found.back p)
      carries-back = rw way.numbered at
          (way.ahead way.vertex (omega (arith, way.numbered)) (omega (arith, way.numbered)))

      -- it leads to another vertex
      other-port : at mate p ≢ p
      other-port e =
          let same : vertex_of p ≡ way.vertex = ap vertex_of (sym e) ∙ link-back.arrives in
          let a = ap (at found.order) same in
          omega (arith, link-back.earlier)

      -- a unit can go by its gate, and come in by the other one
      pub gate-port : gate mate found.back p < port_limit
      gate-port = gate-below t.mated found.back p link-back.port

      pub other-gate-port : gate mate (not found.back) p < port_limit
      other-gate-port = gate-below t.mated (not found.back) p link-back.port

      pub room_back : at residual (gate mate (not found.back) p) ≤ 1
      room_back = sent-room t.mated way.balanced p link-back.port other-port found.back carries-back

      pub pushable : (gate mate found.back p < port_limit) × (gate mate (not found.back) p < port_limit)
          × (1 ≤ at residual (gate mate found.back p)) × (at residual (gate mate (not found.back) p) ≤ 1)
      pushable = (gate-port, other-gate-port, carries-back, room_back)

      -- no vertex before it was reached by the same port
      another-port : (w : ℕ) → 2 ≤ at found.order w → at found.order w < number → at found.trail (at found.order w) ≢ p
      another-port w h l e =
          let same : at found.order w ≡ at found.order way.vertex = cc ((t.link w h).arrives, link-back.arrives) in
          omega (arith, way.numbered)

      another-gate : (w : ℕ) → 2 ≤ at found.order w → at found.order w < number
          → gate mate found.back (at found.trail (at found.order w)) ≢ gate mate found.back p
      another-gate w h l e = another-port w h l (gate-one t.mated found.back (t.link w h).port link-back.port e)

      -- one port further back: the part of its vertex replaces that of the far one, so that what lies between cancels
      pub partway-on : Partway mate found target residual₀ (sent_by mate found.back residual p)
          (at found.order (vertex_of p))
      partway-on = record {
        vertex = vertex_of p;
        numbered = refl;
        some = link-back.from;
        balanced = sent-balanced t.mated way.balanced p link-back.port other-port found.back carries-back;
        ahead = λ w h le.
            let l : at found.order w < number = omega (arith, way.numbered, link-back.earlier) in
            let most = sent-most t.mated way.balanced p link-back.port other-port found.back _ (another-gate w h l) in
            omega (arith, way.ahead w h (omega arith));
        went =
            went_on mate found.back residual₀ residual _ (vertex_of p) way.vertex target way.went
            (rw link-back.arrives at
            (sent-went t.mated way.balanced p link-back.port other-port found.back carries-back));
        only = λ q l h. elim (ℕ_discrete q (gate mate found.back p)) [
          | yes e ↦ rw e (gate-reached found.back)
          | no ne ↦
              (let most = sent-most t.mated way.balanced p link-back.port other-port found.back q ne in
              way.only q l (omega arith))
        ];
      }
        where
          far-reached : 1 ≤ at found.order (far_vertex mate p)
          far-reached = rw link-back.arrives (omega (arith, way.numbered))

          gate-reached : (back : Bool)
              → (1 ≤ at found.order (vertex_of (gate mate back p)))
              × (1 ≤ at found.order (far_vertex mate (gate mate back p)))
          gate-reached false = (link-back.from, far-reached)
          gate-reached true = (far-reached, rw (t.mated.back p link-back.port) link-back.from)
