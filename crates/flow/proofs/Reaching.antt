-- Laws of a search: an arc that leads on, and arcs tried in turn.
use mathlib.Core.Path.{◌≡◌, refl, ◌∙◌, ap}
use mathlib.Core.Logic.{◌≢◌}
use mathlib.Core.Bool.{true}
use mathlib.Core.List.{List}
use Prim.Native.Nat.{ℕ, zero, suc, ◌+◌, ◌≤◌, ◌<◌}
use native.Mathlib.Omega.{arith}
use native.Mathlib.Decide.{ℕ_discrete}
use borrow.Author.Count.{below_more}
use lib.ListN.{length, set, length-set}
use lib.Seq.{get_or-set_same, get_or-set_other}
use Rattle.base.specs.Fold.{bit}
use Rattle.base.specs.Limits.{vertex_limit}
use Rattle.base.proofs.Bools.{bit-low}
use Rattle.base.proofs.Sums.{sum_bound, sum-change}
use Rattle.base.specs.Columns.{at}
use Rattle.flow.specs.Arcs.{arc_limit, tail, head}
use Rattle.flow.specs.Search.{positive, reached, reached_count, Link, Tree, Grown, Shut, Relaxed, Swept, Stuck}
use Rattle.flow.specs.declared.Pair.{Pair}
use Rattle.flow.specs.declared.search.Search.{Search}

pub positive-yes : (n : ℕ) → 1 ≤ n → positive n ≡ true
positive-yes zero h = absurd (omega arith)
positive-yes (suc n) h = refl

count_most : (order : List ℕ) → reached_count order ≤ vertex_limit
unfolding reached_count
count_most order = omega (
  arith,
  sum_bound vertex_limit 1 (λ v. bit (reached order v)) (λ v l. bit-low (reached order v)),
)

count-more : (order : List ℕ) (w n : ℕ) → length order ≡ vertex_limit → w < vertex_limit → at order w ≡ 0 → 1 ≤ n
    → reached_count (set order w n) ≡ reached_count order + 1
unfolding reached_count
count-more order w n long l new pos =
    let change = sum-change vertex_limit w (λ v. bit (reached (set order w n) v)) (λ v. bit (reached order v)) l
    (λ v k ne. ap (λ m. bit (positive m)) (get_or-set_other order w v n 0 ne)) in
    let now = ap (λ m. bit (positive m)) (get_or-set_same order w n 0 (omega arith)) in
    let here = ap bit (positive-yes n pos) in
    let before = ap (λ m. bit (positive m)) new in
    omega arith

-- no more numbers are given than there are vertices
pub clock-most : {ends residual : List ℕ} {s : Search} → Tree ends residual s → s.clock ≤ vertex_limit
clock-most {s = s} t = omega (arith, t.counted, count_most s.order)

-- the numbers once arc p has led on, to the vertex at its head, and what has been found then
abbrev pub numbered_on : List ℕ → Search → ℕ → List ℕ
numbered_on ends s p = set s.order (head ends p) (s.clock + 1)

abbrev pub led_on : List ℕ → Search → ℕ → Search
led_on ends s p = record { order = numbered_on ends s p; trail = set s.trail (s.clock + 1) p; clock = s.clock + 1 }

-- arc p leads on to a vertex that is not reached yet
pub record LeadsOn (ends residual : List ℕ) (s : Search) (p : ℕ) : Type 0 where
  pub tree : Tree ends residual s
  pub arc : p < arc_limit
  pub vertex : head ends p < vertex_limit
  pub carries : 1 ≤ at residual p
  pub from : 1 ≤ at s.order (tail ends p)
  pub new : at s.order (head ends p) ≡ 0

module _ {ends residual : List ℕ} {s : Search} {p : ℕ} (on : LeadsOn ends residual s p) where
  t : Tree ends residual s
  t = on.tree

  count-on : reached_count (numbered_on ends s p) ≡ reached_count s.order + 1
  count-on = count-more s.order (head ends p) (s.clock + 1) t.long_order on.vertex on.new (omega arith)

  -- there is a number left for it
  pub number-left : s.clock < vertex_limit
  number-left = omega (arith, t.counted, count-on, count_most (numbered_on ends s p))

  at_new : at (numbered_on ends s p) (head ends p) ≡ s.clock + 1
  at_new = get_or-set_same s.order (head ends p) (s.clock + 1) 0 (omega (arith, t.long_order, on.vertex))

  at_other : (v : ℕ) → v ≢ head ends p → at (numbered_on ends s p) v ≡ at s.order v
  at_other v ne = get_or-set_other s.order (head ends p) v (s.clock + 1) 0 ne

  at-reached : (v : ℕ) → 1 ≤ at s.order v → at (numbered_on ends s p) v ≡ at s.order v
  at-reached v h = at_other v (λ e. let a = ap (at s.order) e in omega (arith, on.new))

  new-link : Link ends residual (numbered_on ends s p) p (head ends p)
  new-link = record {
    arc = on.arc;
    arrives = refl;
    from = omega (arith, at-reached (tail ends p) on.from, on.from);
    earlier = omega (arith, at-reached (tail ends p) on.from, at_new, t.numbered (tail ends p));
    carries = on.carries;
  }

  old-link : (q v : ℕ) → Link ends residual s.order q v → Link ends residual (numbered_on ends s p) q v
  old-link q v l = record {
    arc = l.arc;
    arrives = l.arrives;
    from = omega (arith, at-reached (tail ends q) l.from, l.from);
    earlier = omega (arith, at-reached (tail ends q) l.from, at-reached v (omega (arith, l.earlier)), l.earlier);
    carries = l.carries;
  }

  link_on : (v : ℕ) → 2 ≤ at (numbered_on ends s p) v
      → Link ends residual (numbered_on ends s p)
      (at (set s.trail (s.clock + 1) p) (at (numbered_on ends s p) v)) v
  link_on v h = elim (ℕ_discrete v (head ends p)) [
    | yes e ↦
        rw (e, at_new, get_or-set_same s.trail (s.clock + 1) p 0 (omega (arith, number-left, t.long_trail))) new-link
    | no ne ↦
        (let a = at_other v ne in
        rw (a, get_or-set_other s.trail (s.clock + 1) (at s.order v) p 0 (λ e. omega (arith, t.numbered v)))
        (old-link _ v (t.link v (omega arith))))
  ]

  pub leads-on : Relaxed ends residual p s (led_on ends s p)
  leads-on = record {
    grown = record {
      tree = record {
        long_order = rw length-set t.long_order;
        long_trail = rw length-set t.long_trail;
        begun = omega arith;
        counted = omega (arith, count-on, t.counted);
        numbered = λ v. elim (ℕ_discrete v (head ends p))
            [ yes e ↦ rw (e, at_new) (omega arith) | no ne ↦ omega (arith, at_other v ne, t.numbered v) ];
        link = link_on;
      };
      rises = omega arith;
      still = λ e. absurd (omega arith);
      kept = λ v h. omega (arith, at-reached v h);
      root = λ v h. elim (ℕ_discrete v (head ends p)) [
        | yes e ↦ (let a = ap (at (numbered_on ends s p)) e in absurd (omega (arith, at_new, t.begun)))
        | no ne ↦ omega (arith, at_other v ne)
      ];
    };
    shut = λ _ _. omega (arith, at_new);
  }

-- nothing changes while no arc is tried, and one growth goes on from another
pub grown-none : {ends residual : List ℕ} {s : Search} → Tree ends residual s → Grown ends residual s s
grown-none t = record { tree = t; rises = omega arith; still = λ _. refl; kept = λ v h. h; root = λ v h. h }

pub grown-on : {ends residual : List ℕ} {a b c : Search} → Grown ends residual a b → Grown ends residual b c
    → Grown ends residual a c
grown-on g h = record {
  tree = h.tree;
  rises = omega (arith, g.rises, h.rises);
  still = λ e. h.still (omega (arith, g.rises, h.rises)) ∙ g.still (omega (arith, g.rises, h.rises));
  kept = λ v r. h.kept v (g.kept v r);
  root = λ v r. g.root v (h.root v r);
}

-- a sweep, arc by arc
pub swept_none : {ends residual : List ℕ} {s : Search} → Tree ends residual s → Swept ends residual 0 s s
swept_none t = record { grown = grown-none t; shut = λ _ p h. absurd (omega arith) }

pub swept-on : {ends residual : List ℕ} {a b c : Search} {m : ℕ} → Swept ends residual m a b → Relaxed ends residual m b c
    → Swept ends residual (m + 1) a c
swept-on {ends} {residual} {c = c} {m} s r = record {
  grown = grown-on s.grown r.grown;
  shut = λ e. below_more (λ p. Shut ends residual c.order p) m
      (λ p l. rw (r.grown.still (omega (arith, s.grown.rises, r.grown.rises)))
      (s.shut (omega (arith, s.grown.rises, r.grown.rises)) p l))
      r.shut;
}

-- a sweep of all arcs that reaches nothing new: the search is stuck
pub swept-stuck : {ends residual : List ℕ} {s s' : Search} (sinks : Pair)
    → Swept ends residual arc_limit s s' → s'.clock ≡ s.clock
    → at s.order sinks.first ≡ 0 → at s.order sinks.second ≡ 0 → Stuck ends residual sinks s'.order
swept-stuck sinks w e first second =
    let still = w.grown.still e in
    record { first_missed = rw still first; second_missed = rw still second; shut = w.shut e }
