-- Laws of a search over ports: a port that leads on, and ports tried in turn.
use mathlib.Core.Bool.{Bool, true, false}
use mathlib.Core.List.{List}
use mathlib.Core.Logic.{◌≢◌, ◌⊎◌, inl, inr, ⊎_elim}
use mathlib.Core.Path.{◌≡◌, refl, ◌∙◌, ap}
use Prim.Native.Nat.{ℕ, zero, suc, ◌+◌, ◌≤◌, ◌<◌}
use native.Mathlib.Decide.{ℕ_discrete}
use native.Mathlib.Omega.{arith}
use lib.ListN.{length, set, length-set}
use lib.Seq.{get_or-set_same, get_or-set_other}
use Rattle.base.specs.Columns.{at}
use Rattle.base.specs.Fold.{bit}
use Rattle.base.specs.Limits.{vertex_limit}
use Rattle.base.proofs.Bools.{bit-low}
use Rattle.base.proofs.Sums.{sum_bound, sum-change}
use Rattle.ports.specs.Ports.{port_limit, vertex_of, far_vertex, Mated}
use Rattle.flow.specs.declared.reach.Reach.{Reach}
use Rattle.flow.specs.Reach.{positive, reached, reached_count, gate, Link, Tree, Grown, Shut, Apart, WentOn, Encounter, Comes}
use Rattle.std.specs.declared.ops.ControlFlow.{ControlFlow}
use Rattle.std.specs.declared.ops.ControlFlow.TheVariants.{Continue, Break}

pub positive-yes : (n : ℕ) → 1 ≤ n → positive n ≡ true
positive-yes zero h = absurd (omega arith)
positive-yes (suc n) h = refl

-- a gate is a port
pub gate-below : {mate : List ℕ} → Mated mate → (back : Bool) (p : ℕ) → p < port_limit → gate mate back p < port_limit
gate-below m true p l = m.below p l
gate-below m false p l = l

count_most : (order : List ℕ) → reached_count order ≤ vertex_limit
unfolding reached_count
count_most order = omega (
  arith,
  sum_bound vertex_limit 1 (λ v. bit (reached order v)) (λ v l. bit-low (reached order v)),
)

count-more : (order : List ℕ) (w n : ℕ) → length order ≡ vertex_limit → w < vertex_limit → at order w ≡ 0 → 1 ≤ n
    → reached_count (set order w n) ≡ reached_count order + 1
unfolding reached_count
count-more order w n long l new pos =
    let change = sum-change vertex_limit w (λ v. bit (reached (set order w n) v)) (λ v. bit (reached order v)) l
    (λ v k ne. ap (λ m. bit (positive m)) (get_or-set_other order w v n 0 ne)) in
    let now = ap (λ m. bit (positive m)) (get_or-set_same order w n 0 (omega arith)) in
    let here = ap bit (positive-yes n pos) in
    let before = ap (λ m. bit (positive m)) new in
    omega arith

-- no more numbers are given than there are vertices
pub clock-most : {mate residual : List ℕ} {s : Reach} → Tree mate residual s
    → s.clock ≤ vertex_limit
clock-most {s = s} t = omega (arith, t.counted, count_most s.order)

-- what has been found once port p has led on: its far vertex has the next number
abbrev pub led_on : List ℕ → Reach → ℕ → Reach
led_on mate s p = record {
  back = s.back;
  order = set s.order (far_vertex mate p) (s.clock + 1);
  trail = set s.trail (s.clock + 1) p;
  clock = s.clock + 1;
}

-- port p leads on, from a vertex that is reached to one that is not
pub record LeadsOn (mate residual : List ℕ) (s : Reach) (p : ℕ) : Type 0 where
  pub tree : Tree mate residual s
  pub port : p < port_limit
  pub from : 1 ≤ at s.order (vertex_of p)
  pub carries : 1 ≤ at residual (gate mate s.back p)
  pub new : at s.order (far_vertex mate p) ≡ 0

module _ {mate residual : List ℕ} {s : Reach} {p : ℕ} (on : LeadsOn mate residual s p) where
  t : Tree mate residual s
  t = on.tree

  pub far-below : far_vertex mate p < vertex_limit
  far-below = omega (arith, t.mated.below p on.port)

  count-on : reached_count (set s.order (far_vertex mate p) (s.clock + 1)) ≡ reached_count s.order + 1
  count-on = count-more s.order (far_vertex mate p) (s.clock + 1) t.long_order far-below on.new (omega arith)

  -- there is a number left for it
  pub number-left : s.clock < vertex_limit
  number-left = omega (arith, t.counted, count-on, count_most (set s.order (far_vertex mate p) (s.clock + 1)))

  at_new : at (set s.order (far_vertex mate p) (s.clock + 1)) (far_vertex mate p) ≡ s.clock + 1
  at_new = get_or-set_same s.order (far_vertex mate p) (s.clock + 1) 0 (omega (arith, t.long_order, far-below))

  at_other : (v : ℕ) → v ≢ far_vertex mate p → at (set s.order (far_vertex mate p) (s.clock + 1)) v ≡ at s.order v
  at_other v ne = get_or-set_other s.order (far_vertex mate p) v (s.clock + 1) 0 ne

  at-reached : (v : ℕ) → 1 ≤ at s.order v → at (set s.order (far_vertex mate p) (s.clock + 1)) v ≡ at s.order v
  at-reached v h = at_other v (λ e. let a = ap (at s.order) e in omega (arith, on.new))

  trail-new : at (set s.trail (s.clock + 1) p) (s.clock + 1) ≡ p
  trail-new = get_or-set_same s.trail (s.clock + 1) p 0 (omega (arith, number-left, t.long_trail))

  trail-other : (k : ℕ) → k ≤ s.clock → at (set s.trail (s.clock + 1) p) k ≡ at s.trail k
  trail-other k l = get_or-set_other s.trail (s.clock + 1) k p 0 (λ e. omega arith)

  new-link : Link mate residual s.back (set s.order (far_vertex mate p) (s.clock + 1)) p (far_vertex mate p)
  new-link = record {
    port = on.port;
    arrives = refl;
    from = omega (arith, at-reached (vertex_of p) on.from, on.from);
    earlier = omega (arith, at-reached (vertex_of p) on.from, at_new, t.numbered (vertex_of p));
    carries = on.carries;
  }

  old-link : (q v : ℕ) → Link mate residual s.back s.order q v
      → Link mate residual s.back (set s.order (far_vertex mate p) (s.clock + 1)) q v
  old-link q v l = record {
    port = l.port;
    arrives = l.arrives;
    from = omega (arith, at-reached (vertex_of q) l.from, l.from);
    earlier = omega (arith, at-reached (vertex_of q) l.from, at-reached v (omega (arith, l.earlier)), l.earlier);
    carries = l.carries;
  }

  link_on : (v : ℕ) → 2 ≤ at (set s.order (far_vertex mate p) (s.clock + 1)) v
      → Link mate residual s.back (set s.order (far_vertex mate p) (s.clock + 1))
      (at (set s.trail (s.clock + 1) p) (at (set s.order (far_vertex mate p) (s.clock + 1)) v)) v
  link_on v h = elim (ℕ_discrete v (far_vertex mate p)) [
    | yes e ↦ rw (e, at_new, trail-new) new-link
    | no ne ↦
        (let a = at_other v ne in
        rw (a, trail-other (at s.order v) (t.numbered v)) (old-link _ v (t.link v (omega arith))))
  ]

  named-on : (k : ℕ) → 2 ≤ k → k ≤ s.clock + 1 → (at (set s.trail (s.clock + 1) p) k < port_limit) ×
      (at (set s.order (far_vertex mate p) (s.clock + 1)) (far_vertex mate (at (set s.trail (s.clock + 1) p) k)) ≡ k)
  named-on k l h = elim (ℕ_discrete k (s.clock + 1)) [
    | yes e ↦ rw (e, trail-new) (on.port, at_new)
    | no ne ↦
        (let before = t.named k l (omega arith) in
        rw (trail-other k (omega arith))
        (before.0, at-reached (far_vertex mate (at s.trail k)) (omega (arith, before.1)) ∙ before.1))
  ]

  pub leads-on : Grown mate residual s (led_on mate s p)
  leads-on = record {
    tree = record {
      mated = t.mated;
      balanced = t.balanced;
      long_order = rw length-set t.long_order;
      long_trail = rw length-set t.long_trail;
      begun = omega arith;
      counted = omega (arith, count-on, t.counted);
      numbered = λ v. elim (ℕ_discrete v (far_vertex mate p))
          [ yes e ↦ rw (e, at_new) (omega arith) | no ne ↦ omega (arith, at_other v ne, t.numbered v) ];
      named = named-on;
      link = link_on;
    };
    way = refl;
    rises = omega arith;
    kept = at-reached;
    root = λ v h. elim (ℕ_discrete v (far_vertex mate p)) [
      | yes e ↦
          (let a = ap (at (set s.order (far_vertex mate p) (s.clock + 1))) e in absurd (omega (arith, at_new, t.begun)))
      | no ne ↦ omega (arith, at_other v ne)
    ];
    stays = trail-other;
  }

  -- what it comes to: another search has not reached the far vertex, or it has
  module _ (other : List ℕ) (apart : Apart s.order other) where
    pub went_on : at other (far_vertex mate p) ≡ 0
        → WentOn mate residual (λ q. q ≡ p) s other (led_on mate s p)
    went_on h = record {
      grown = leads-on;
      shut = λ q l e. rw e (λ _. omega (arith, at_new));
      apart = λ v. elim (ℕ_discrete v (far_vertex mate p)) [
        | yes e ↦ inr (ap (at other) e ∙ h)
        | no ne ↦ ⊎_elim (λ a. inl (at_other v ne ∙ a)) inr (apart v)
      ];
    }

    pub met : 1 ≤ at other (far_vertex mate p)
        → Encounter mate residual s other (led_on mate s p) (far_vertex mate p)
    met h = record {
      grown = leads-on;
      vertex = far-below;
      reaches = omega (arith, at_new);
      reached_before = h;
      only = λ v ne. ⊎_elim (λ a. inl (at_other v ne ∙ a)) inr (apart v);
    }

-- ── one growth after another ──
module _ {mate residual : List ℕ} where
  pub grown-none : {s : Reach} → Tree mate residual s → Grown mate residual s s
  grown-none t = record {
    tree = t;
    way = refl;
    rises = omega arith;
    kept = λ v h. refl;
    root = λ v h. h;
    stays = λ k l. refl;
  }

  pub grown-on : {s s' s'' : Reach} → Grown mate residual s s' → Grown mate residual s' s''
      → Grown mate residual s s''
  grown-on g h = record {
    tree = h.tree;
    way = h.way ∙ g.way;
    rises = omega (arith, g.rises, h.rises);
    kept = λ v r. h.kept v (omega (arith, g.kept v r)) ∙ g.kept v r;
    root = λ v r. g.root v (h.root v r);
    stays = λ k l. h.stays k (omega (arith, g.rises)) ∙ g.stays k l;
  }

  -- what is shut stays so
  pub shut-later : {s s' : Reach} → Grown mate residual s s' → (p : ℕ) → Shut mate residual s p
      → Shut mate residual s' p
  shut-later g p shut c = let far = shut (rw g.way at c) in omega (arith, g.kept (far_vertex mate p) far)

  module _ {other : List ℕ} where
    -- a port that leads to no new vertex, tried
    pub went-nowhere : {s : Reach} → Tree mate residual s → Apart s.order other → (p : ℕ)
        → Shut mate residual s p → WentOn mate residual (λ q. q ≡ p) s other s
    went-nowhere t apart p shut = record { grown = grown-none t; shut = λ q l e. rw e shut; apart = apart }

    -- no port tried
    pub went-none : {Tried : ℕ → Type 0} {s : Reach} → Tree mate residual s → Apart s.order other
        → ((p : ℕ) → Tried p → ⊥) → WentOn mate residual Tried s other s
    went-none t apart none = record { grown = grown-none t; shut = λ p l h. absurd (none p h); apart = apart }

    -- some ports tried, then others: of all that are one or the other
    pub went-further : {Some More Both : ℕ → Type 0} {s s' s'' : Reach}
        → WentOn mate residual Some s other s' → WentOn mate residual More s' other s''
        → ((p : ℕ) → Both p → Some p ⊎ More p) → WentOn mate residual Both s other s''
    went-further a b which = record {
      grown = grown-on a.grown b.grown;
      shut = λ p l h. ⊎_elim (λ x. shut-later b.grown p (a.shut p l x)) (λ x. b.shut p l x) (which p h);
      apart = b.apart;
    }

    pub met-further : {s s' s'' : Reach} {m : ℕ} → Grown mate residual s s'
        → Encounter mate residual s' other s'' m → Encounter mate residual s other s'' m
    met-further a b = record {
      grown = grown-on a b.grown;
      vertex = b.vertex;
      reaches = b.reaches;
      reached_before = b.reached_before;
      only = b.only;
    }

    -- what trying ports came to, by its answer
    pub comes-on : {Tried : ℕ → Type 0} {s s' : Reach} {r : ControlFlow ℕ (Unit {0})} {u : Unit {0}} → r ≡ Continue u
        → Comes mate residual Tried s other s' r → WentOn mate residual Tried s other s'
    unfolding Comes
    comes-on e h = rw e at h

    pub comes-met : (Tried : ℕ → Type 0) {s s' : Reach} {m : ℕ} {r : ControlFlow ℕ (Unit {0})} → r ≡ Break m
        → Comes mate residual Tried s other s' r → Encounter mate residual s other s' m
    unfolding Comes
    comes-met Tried e h = rw e at h
