-- Laws of the roots of a search: a search that begins at one vertex or at two.
use mathlib.Core.Bool.{Bool, true, false}
use mathlib.Core.List.{List}
use mathlib.Core.Logic.{◌≢◌, ◌⊎◌, inl, inr, ⊎_elim}
use mathlib.Core.Path.{◌≡◌, refl, sym, ◌∙◌, ap}
use Prim.Native.Nat.{ℕ, zero, suc, ◌+◌, ◌*◌, ◌≤◌, ◌<◌}
use native.Mathlib.Decide.{ℕ_discrete}
use native.Mathlib.Omega.{arith}
use lib.ListN.{length, set, replicate, length-set, length-replicate}
use lib.Seq.{get_or-set_same, get_or-set_other}
use Rattle.base.specs.Columns.{at}
use Rattle.base.specs.Fold.{bit}
use Rattle.base.specs.Limits.{vertex_limit}
use Rattle.base.proofs.Sums.{term-le}
use Rattle.ports.specs.Ports.{ports_each, port_limit, vertex_of, far_vertex, Mated}
use Rattle.flow.specs.Capacity.{Balanced}
use Rattle.flow.specs.Reach.{positive, reached, reached_count, Apart}
use Rattle.flow.specs.declared.reach.Reach.{Reach}
use Rattle.flow.specs.Meet.{Searching, unreached, rooted, rooted_pair}
use Rattle.flow.specs.Sending.{Distinct}
use Rattle.flow.specs.declared.Pair.{Pair}

-- the roots are those of the numbers from `first` to 1, and no other vertex is reached
pub record Roots (mate : List ℕ) (back : Bool) (s : Reach) (first : ℕ) (root : ℕ → ℕ) : Type 0 where
  pub way : s.back ≡ back
  pub low : first ≤ 1
  pub begun : s.clock ≡ 1
  pub long_order : length s.order ≡ vertex_limit
  pub long_trail : length s.trail ≡ vertex_limit + 1
  pub vertex : (k : ℕ) → first ≤ k → k ≤ 1 → root k < vertex_limit
  pub port : (k : ℕ) → first ≤ k → k ≤ 1 → at s.trail k ≡ at mate (ports_each * root k)
  pub numbered : (k : ℕ) → first ≤ k → k ≤ 1 → at s.order (root k) ≡ 1
  pub only : (v : ℕ) → (at s.order v ≡ 0) ⊎ ((k : ℕ) × (first ≤ k) × (k ≤ 1) × (root k ≡ v))

module _ {mate : List ℕ} {back : Bool} {first : ℕ} {s : Reach} {root : ℕ → ℕ} (r : Roots mate back s first root) where
  -- a vertex that is reached is a root
  pub is_root : (v : ℕ) → 1 ≤ at s.order v → (k : ℕ) × (first ≤ k) × (k ≤ 1) × (root k ≡ v)
  is_root v h = ⊎_elim (λ e. absurd (omega arith)) (λ w. w) (r.only v)

  root-one : (v : ℕ) → at s.order v ≤ 1
  root-one v =
      ⊎_elim (λ e. omega arith)
      (λ w. let a = ap (at s.order) w.3 in omega (arith, r.numbered w.0 w.1 w.2)) (r.only v)

  root-counted : 1 ≤ reached_count s.order
  unfolding reached_count
  root-counted =
      let one = ap (λ n. bit (positive n)) (r.numbered 1 r.low (omega arith)) in
      omega (
        arith,
        term-le vertex_limit (λ v. bit (reached s.order v)) (root 1) (r.vertex 1 r.low (omega arith)),
      )

  module _ (m : Mated mate) where
    first-port : (k : ℕ) → first ≤ k → k ≤ 1 → ports_each * root k < port_limit
    first-port k f l = omega (arith, r.vertex k f l)

    -- the port in the s.trail leads to the root
    leads : (k : ℕ) → first ≤ k → k ≤ 1 → far_vertex mate (at s.trail k) ≡ root k
    leads k f l =
        ap (far_vertex mate) (r.port k f l) ∙ ap vertex_of (m.back _ (first-port k f l)) ∙ omega arith

    pub searching : {residual : List ℕ} → Balanced mate residual → Searching mate residual first s first
    searching b = record {
      tree = record {
        mated = m;
        balanced = b;
        long_order = r.long_order;
        long_trail = r.long_trail;
        begun = omega (arith, r.begun);
        counted = omega (arith, r.begun, root-counted);
        numbered = λ v. omega (arith, r.begun, root-one v);
        named = λ k l h. absurd (omega (arith, r.begun));
        link = λ v h. absurd (omega (arith, root-one v));
      };
      first-low = r.low;
      begun = omega arith;
      next-most = omega (arith, r.low);
      root-port = λ k f l. rw (r.port k f l) (m.below _ (first-port k f l));
      root-reached = λ k f l. ap (at s.order) (leads k f l) ∙ r.numbered k f l;
      root-found = λ v h. let w = is_root v (omega arith) in (w.0, w.1, w.2, leads w.0 w.1 w.2 ∙ w.3);
      visited = λ k f l. absurd (omega arith);
    }

-- no vertex is reached
abbrev pub blank : List ℕ
blank = replicate vertex_limit 0

zeros : (n v : ℕ) → at (replicate n 0) v ≡ 0
zeros zero v = refl
zeros (suc n) zero = refl
zeros (suc n) (suc v) = zeros n v

blank-long : length blank ≡ vertex_limit
blank-long = length-replicate {A = ℕ} vertex_limit 0

-- the roots of a pair, by their numbers 0 and 1
abbrev pub root_of : Pair → ℕ → ℕ
root_of roots zero = roots.first
root_of roots (suc k) = roots.second

module _ (mate : List ℕ) (back : Bool) (trail : List ℕ) (long : length trail ≡ vertex_limit + 1) where
  -- ── one root ──
  pub one-root : (v : ℕ) → v < vertex_limit → Roots mate back (rooted mate (unreached back trail) 1 v) 1 (λ _. v)
  one-root v below = record {
    way = refl;
    low = omega arith;
    begun = refl;
    long_order = rw length-set blank-long;
    long_trail = rw length-set long;
    vertex = λ k f l. below;
    port = λ k f l.
        let e : k ≡ 1 = omega arith in
        ap (at (set trail 1 (at mate (ports_each * v)))) e ∙ get_or-set_same trail 1 _ 0 (omega arith);
    numbered = λ k f l. get_or-set_same blank v 1 0 (omega (arith, blank-long));
    only = λ w. elim (ℕ_discrete w v) [
      | yes e ↦ inr (1, omega arith, omega arith, sym e)
      | no ne ↦ inl (get_or-set_other blank v w 1 0 ne ∙ zeros vertex_limit w)
    ];
  }

  -- ── two roots ──
  module _ (roots : Pair) (first_below : roots.first < vertex_limit) (second_below : roots.second < vertex_limit) where
    abbrev pub sown : List ℕ
    sown = set (set blank roots.first 1) roots.second 1

    abbrev pub planted : List ℕ
    planted = set (set trail 0 (at mate (ports_each * roots.first))) 1 (at mate (ports_each * roots.second))

    sown-second : at sown roots.second ≡ 1
    sown-second = get_or-set_same (set blank roots.first 1) roots.second 1 0 (rw length-set (omega (arith, blank-long)))

    sown-first : at sown roots.first ≡ 1
    sown-first =
        let fits : roots.first < length blank = omega (arith, blank-long) in
        elim (ℕ_discrete roots.first roots.second) [
          | yes e ↦ ap (at sown) e ∙ sown-second
          | no ne ↦ rw (get_or-set_other, get_or-set_same)
        ]

    sown-only : (v : ℕ) → (at sown v ≡ 0) ⊎ ((k : ℕ) × (0 ≤ k) × (k ≤ 1) × (root_of roots k ≡ v))
    sown-only v = elim (ℕ_discrete v roots.first) [
      | yes e ↦ inr (0, omega arith, omega arith, sym e)
      | no nf ↦
          elim (ℕ_discrete v roots.second) [
            | yes e ↦ inr (1, omega arith, omega arith, sym e)
            | no ns ↦ inl (simp get_or-set_other (zeros vertex_limit v))
          ]
    ]

    root-vertex : (k : ℕ) → k ≤ 1 → root_of roots k < vertex_limit
    root-vertex zero l = first_below
    root-vertex (suc k) l = second_below

    root-numbered : (k : ℕ) → k ≤ 1 → at sown (root_of roots k) ≡ 1
    root-numbered zero l = sown-first
    root-numbered (suc k) l = sown-second

    root-port : (k : ℕ) → k ≤ 1 → at planted k ≡ at mate (ports_each * root_of roots k)
    root-port zero l =
        get_or-set_other (set trail 0 (at mate (ports_each * roots.first))) 1 0 _ 0 (λ e. omega arith)
        ∙ get_or-set_same trail 0 _ 0 (omega arith)
    root-port (suc k) l =
        let one : suc k ≡ 1 = omega arith in
        ap (at planted) one
        ∙ get_or-set_same (set trail 0 (at mate (ports_each * roots.first))) 1 _ 0 (rw length-set (omega arith))

    pub two-roots : Roots mate back (rooted_pair mate (unreached back trail) roots) 0 (root_of roots)
    two-roots = record {
      way = refl;
      low = omega arith;
      begun = refl;
      long_order = simp length-set blank-long;
      long_trail = simp length-set long;
      vertex = λ k f l. root-vertex k l;
      port = λ k f l. root-port k l;
      numbered = λ k f l. root-numbered k l;
      only = sown-only;
    }

-- no vertex is reached from sources and from sinks
pub roots-apart : {mate : List ℕ} {forth back : Reach} {sources sinks : Pair}
    → Distinct sources sinks → Roots mate false forth 0 (root_of sources) → Roots mate true back 0 (root_of sinks)
    → Apart forth.order back.order
roots-apart {sources = sources} {sinks = sinks} d s t v =
    ⊎_elim inl
    (λ a.
    ⊎_elim inr (λ b. absurd (differ a.0 b.0 (a.3 ∙ sym b.3))) (t.only v))
    (s.only v)
  where
    differ : (j k : ℕ) → root_of sources j ≢ root_of sinks k
    differ zero zero = d.first_first
    differ zero (suc k) = d.first_second
    differ (suc j) zero = d.second_first
    differ (suc j) (suc k) = d.second_second
