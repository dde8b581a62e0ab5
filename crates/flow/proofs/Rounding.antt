-- Laws of a round: how the roots are planted, and the two endings of a search.
use mathlib.Core.Bool.{Bool, true, false, not}
use mathlib.Core.List.{List}
use mathlib.Core.Logic.{inl, inr, ⊎_elim}
use mathlib.Core.Path.{◌≡◌, refl, sym, ◌∙◌, ap}
use Prim.Native.Nat.{ℕ, zero, suc, ◌+◌, ◌≤◌, ◌<◌}
use native.Mathlib.Decide.{dec_lt, ℕ_discrete}
use native.Mathlib.Omega.{arith}
use borrow.Author.Tests.{not-true, not-false}
use lib.ListN.{length}
use Rattle.base.specs.Columns.{at}
use Rattle.base.specs.Fold.{bit}
use Rattle.base.specs.Limits.{vertex_limit}
use Rattle.base.proofs.Bools.{never}
use Rattle.base.proofs.Sums.{sum-ext, sum_zeros}
use Rattle.graph.specs.Cut.{Side}
use Rattle.ports.specs.Ports.{port_limit, vertex_of, far_vertex, Mated}
use Rattle.flow.specs.Capacity.{leaving, capacity, Balanced}
use Rattle.flow.specs.declared.reach.Reach.{Reach}
use Rattle.std.proofs.Common.{Option, Some, None}
use Rattle.flow.specs.Reach.{positive, reached, gate, Link, Grown, Apart, Encounter}
use Rattle.flow.specs.Meet.{unreached, rooted, rooted_pair, Closed, Over, Finds, Meeting, Parted, Meets}
use Rattle.flow.specs.Sending.{Sendable, Sent, Between, Leaving, Rounded}
use Rattle.flow.specs.declared.Pair.{Pair}
use Rattle.flow.proofs.Visiting.{positive-yes}
use Rattle.flow.proofs.Roots.{Roots, is_root, root_of, one-root, two-roots}

-- ── nothing leads on ──
leaving-none : (x y : Bool) (c : ℕ) → (x ≡ true → y ≡ false → c ≡ 0) → leaving x y c ≡ 0
unfolding leaving
leaving-none true true c h = refl
leaving-none true false c h = h refl refl
leaving-none false y c h = refl

-- a side that no port leads out of can pass nothing
nothing-passes : (mate residual : List ℕ) (S : Side)
    → ((p : ℕ) → p < port_limit → S (vertex_of p) ≡ true → S (far_vertex mate p) ≡ false → at residual p ≡ 0)
    → capacity mate residual S ≡ 0
unfolding capacity
nothing-passes mate residual S h =
    sum-ext port_limit _ (λ _. 0) (λ p l. leaving-none (S (vertex_of p)) (S (far_vertex mate p)) (at residual p) (h p l))
    ∙ sum_zeros port_limit

positive-at : (n : ℕ) → positive n ≡ true → 1 ≤ n
positive-at zero e = never e
positive-at (suc n) e = omega arith

positive-none : (n : ℕ) → positive n ≡ false → n ≡ 0
positive-none zero e = refl
positive-none (suc n) e = never (sym e)

none-carried : (c : ℕ) → (1 ≤ c → ⊥) → c ≡ 0
none-carried zero h = refl
none-carried (suc c) h = absurd (h (omega arith))

-- what is reached from the sources, and all but what is reached from the sinks
reached-full : (mate residual : List ℕ) (s : Reach) → s.back ≡ false → Closed mate residual s
    → capacity mate residual (reached s.order) ≡ 0
reached-full mate residual s way closed =
    nothing-passes mate residual (reached s.order)
    (λ p l from to.
    let out = positive-none _ to in
    none-carried (at residual p) (λ c. omega (arith, closed p l (positive-at _ from) (rw way c))))

unreached-full : (mate residual : List ℕ) (s : Reach) → s.back ≡ true → Mated mate → Closed mate residual s
    → capacity mate residual (λ v. not (reached s.order v)) ≡ 0
unreached-full mate residual s way m closed =
    nothing-passes mate residual (λ v. not (reached s.order v))
    (λ p l from to.
    let in-side = positive-none _ (not-true _ from) in
    let b = m.back p l in
    let shut = closed (at mate p) (m.below p l) (positive-at _ (not-false _ to)) in
    none-carried (at residual p) (λ c. omega (arith, rw b at (shut (rw (way, b) c)))))

-- ── one round to marked vertices ──
-- the root, as the code plants it
pub rooted-one : {mate : List ℕ} {back : Bool} {s : Reach} {source : ℕ} (old : List ℕ) → length old ≡ vertex_limit + 1
    → source < vertex_limit → s ≡ rooted mate (unreached back old) 1 source → Roots mate back s 1 (λ _. source)
rooted-one {mate} {back} {source = source} old long below e = rw e (one-root mate back old long source below)

-- the root is not marked
pub one-apart : {mate : List ℕ} {source : ℕ} {s : Reach} (marks : List ℕ) → Roots mate false s 1 (λ _. source)
    → at marks source ≡ 0 → Apart s.order marks
one-apart marks r h v = ⊎_elim inl (λ w. inr (ap (at marks) (sym w.3) ∙ h)) (r.only v)

-- how the search ended, by its answer
module _ {mate residual marks : List ℕ} {s s' : Reach} {found : Option ℕ} where
  pub finds-at : {m : ℕ} → found ≡ Some m → Finds mate residual s marks s' found → Encounter mate residual s marks s' m
  unfolding Finds
  finds-at e h = rw e at h

  pub finds-nothing : found ≡ None → Finds mate residual s marks s' found → Over mate residual s marks s'
  unfolding Finds
  finds-nothing e h = rw e at h

module _ {mate residual marks : List ℕ} {source : ℕ} {s s' : Reach} (r : Roots mate false s 1 (λ _. source)) where
  pub to-sendable : {m : ℕ} → Encounter mate residual s marks s' m → Sendable mate residual s' m
  to-sendable e = record { vertex = e.vertex; is_reached = e.reaches; tree = e.grown.tree }

  -- a marked vertex was reached: the unit went to it from the source
  pub to-sent : {m : ℕ} {residual' : List ℕ} → Encounter mate residual s marks s' m
      → Sent mate s' m residual residual'
      → Rounded mate (Leaving source marks) residual residual' true
  to-sent {m} e sent = record {
    balanced = sent.balanced;
    more = λ _ S d.
        let went = rw (e.grown.way ∙ r.way) at sent.went in
        let is = is_root r sent.root (omega (arith, e.grown.root sent.root sent.is_root)) in
        let in-side = ap bit (ap S (sym is.3) ∙ d.source_in) in
        let out = ap bit (d.marks_out m e.reached_before) in
        omega (arith, went S);
    full = λ q. never (sym q);
  }

  -- none was: what is reached is a side with the source in and the marked vertices out
  pub to-full : Balanced mate residual → Over mate residual s marks s'
      → Rounded mate (Leaving source marks) residual residual false
  to-full b o = record {
    balanced = b;
    more = λ q. never q;
    full = λ _. (
      reached s'.order,
      record {
        source_in = positive-yes _
            (let one = r.numbered 1 (omega arith) (omega arith) in
            omega (arith, o.grown.kept source (omega arith)));
        marks_out = λ v h. ⊎_elim (λ a. ap positive a) (λ a. absurd (omega arith)) (o.apart v);
      },
      reached-full mate residual s' (o.grown.way ∙ r.way) o.closed,
    );
  }

-- ── one round between pairs ──
-- the roots, as the code plants them
pub rooted-pair : {mate : List ℕ} {back : Bool} {s : Reach} (roots : Pair) (old : List ℕ) → length old ≡ vertex_limit + 1
    → roots.first < vertex_limit → roots.second < vertex_limit → s ≡ rooted_pair mate (unreached back old) roots
    → Roots mate back s 0 (root_of roots)
rooted-pair {mate} {back} roots old long first second e = rw e (two-roots mate back old long roots first second)

-- how two searches ended, by their answer
module _ {mate residual : List ℕ} {s t s' t' : Reach} {found : Option ℕ} where
  pub meets-at : {m : ℕ} → found ≡ Some m → Meets mate residual s t s' t' found → Meeting mate residual s t s' t' m
  unfolding Meets
  meets-at e h = rw e at h

  pub meets-nothing : found ≡ None → Meets mate residual s t s' t' found → Parted mate residual s t s' t'
  unfolding Meets
  meets-nothing e h = rw e at h

at-root : (roots : Pair) (S : Side) {b : Bool} → S roots.first ≡ b → S roots.second ≡ b
    → (k : ℕ) → S (root_of roots k) ≡ b
at-root roots S f g zero = f
at-root roots S f g (suc k) = g

-- where both roots are in, or both out, every root is
roots-in : {mate : List ℕ} {back : Bool} {s : Reach} {roots : Pair} → Roots mate back s 0 (root_of roots)
    → (S : Side) {b : Bool} → S roots.first ≡ b → S roots.second ≡ b → (v : ℕ) → at s.order v ≡ 1 → S v ≡ b
roots-in {roots = roots} r S f g v h =
    let is = is_root r v (omega arith) in
    ap S (sym is.3) ∙ at-root roots S f g is.0

-- a search keeps its roots
root-kept : {mate residual : List ℕ} {s s' : Reach} {roots : Pair} {back : Bool}
    → Roots mate back s 0 (root_of roots) → Grown mate residual s s'
    → (k : ℕ) → k ≤ 1 → 1 ≤ at s'.order (root_of roots k)
root-kept {roots = roots} r grown k l =
    let one = r.numbered k (omega arith) l in
    omega (arith, grown.kept (root_of roots k) (omega arith))

module _ {mate residual : List ℕ} {m : ℕ} {forth forth' back back' : Reach}
    (meeting : Meeting mate residual forth back forth' back' m) where
  pub first-sendable : Sendable mate residual forth' m
  first-sendable = record {
    vertex = meeting.vertex;
    is_reached = meeting.reaches;
    tree = meeting.grown.tree;
  }

  -- a vertex that both searches have reached is the one where they met
  met-at : (w : ℕ) → 1 ≤ at forth'.order w → 1 ≤ at back'.order w → w ≡ m
  met-at w h i = elim (ℕ_discrete w m) [
    | yes e ↦ e
    | no ne ↦ ⊎_elim (λ a. absurd (omega arith)) (λ a. absurd (omega arith)) (meeting.only w ne)
  ]

  module _ {residual' : List ℕ} (sent : Sent mate forth' m residual residual') where
    -- both vertices of a port that can carry less than before are reached, whichever way the port is passed
    both-reached : (way : Bool) (p : ℕ) → p < port_limit → at residual' (gate mate way p) < at residual (gate mate way p)
        → (1 ≤ at forth'.order (vertex_of p)) × (1 ≤ at forth'.order (far_vertex mate p))
    both-reached false p l less = sent.only p l less
    both-reached true p l less =
        let mated = meeting.grown_back.tree.mated in
        let only = sent.only (at mate p) (mated.below p l) less in
        (rw (mated.back p l) at only.1, only.0)

    -- the first half of the path has taken nothing from the second, since no vertex but the last is on both
    second-carries : (way : Bool) (p v : ℕ) → Link mate residual way back'.order p v
        → Link mate residual' way back'.order p v
    second-carries way p v l = record {
      port = l.port;
      arrives = l.arrives;
      from = l.from;
      earlier = l.earlier;
      carries = elim (dec_lt (at residual' (gate mate way p)) (at residual (gate mate way p))) [
        | yes less ↦
            (let both = both-reached way p l.port less in
            let here : vertex_of p ≡ m = met-at (vertex_of p) both.0 l.from in
            let there : v ≡ m = met-at v (rw l.arrives at both.1) (omega (arith, l.from, l.earlier)) in
            absurd (omega (arith, l.earlier, ap (at back'.order) (here ∙ sym there))))
        | no same ↦ omega (arith, l.carries)
      ];
    }

    pub second-sendable : Sendable mate residual' back' m
    second-sendable = record {
      vertex = meeting.vertex;
      is_reached = meeting.reaches_back;
      tree = let t = meeting.grown_back.tree in record {
        mated = t.mated;
        balanced = sent.balanced;
        long_order = t.long_order;
        long_trail = t.long_trail;
        begun = t.begun;
        counted = t.counted;
        numbered = t.numbered;
        named = t.named;
        link = λ v h. second-carries back'.back _ v (t.link v h);
      };
    }

    -- the unit went from a source to where the searches met, and from there to a sink
    pub between-sent : {sources sinks : Pair} {residual'' : List ℕ} → Roots mate false forth 0 (root_of sources)
        → Roots mate true back 0 (root_of sinks) → Sent mate back' m residual' residual''
        → Rounded mate (Between sources sinks) residual residual'' true
    between-sent r s second = record {
      balanced = second.balanced;
      more = λ _ S d.
          let first-went = rw (meeting.grown.way ∙ r.way) at sent.went in
          let second-went = rw (meeting.grown_back.way ∙ s.way) at second.went in
          let source = roots-in r S d.first_in d.second_in sent.root (meeting.grown.root sent.root sent.is_root) in
          let sink = roots-in s S d.first_out d.second_out second.root
          (meeting.grown_back.root second.root second.is_root) in
          let in-side = ap bit source in
          let out = ap bit sink in
          omega (arith, first-went S, second-went S);
      full = λ q. never (sym q);
    }

module _ {mate residual : List ℕ} {forth forth' back back' : Reach} {sources sinks : Pair}
    (r : Roots mate false forth 0 (root_of sources)) (s : Roots mate true back 0 (root_of sinks))
    (parted : Parted mate residual forth back forth' back') where
  -- no source is reached from the sinks, and no sink from the sources
  source-unreached : (k : ℕ) → k ≤ 1 → at back'.order (root_of sources k) ≡ 0
  source-unreached k l =
      let kept = root-kept r parted.grown k l in
      ⊎_elim (λ a. absurd (omega arith)) (λ a. a) (parted.apart (root_of sources k))

  sink-unreached : (k : ℕ) → k ≤ 1 → at forth'.order (root_of sinks k) ≡ 0
  sink-unreached k l =
      let kept = root-kept s parted.grown_back k l in
      ⊎_elim (λ a. a) (λ a. absurd (omega arith)) (parted.apart (root_of sinks k))

  reached-between : Between sources sinks (reached forth'.order)
  reached-between = record {
    first_in = positive-yes _ (root-kept r parted.grown 0 (omega arith));
    second_in = positive-yes _ (root-kept r parted.grown 1 (omega arith));
    first_out = ap positive (sink-unreached 0 (omega arith));
    second_out = ap positive (sink-unreached 1 (omega arith));
  }

  unreached-between : Between sources sinks (λ v. not (reached back'.order v))
  unreached-between = record {
    first_in = ap (λ n. not (positive n)) (source-unreached 0 (omega arith));
    second_in = ap (λ n. not (positive n)) (source-unreached 1 (omega arith));
    first_out = ap not (positive-yes _ (root-kept s parted.grown_back 0 (omega arith)));
    second_out = ap not (positive-yes _ (root-kept s parted.grown_back 1 (omega arith)));
  }

  -- the searches did not meet: what one of them has reached parts the sources from the sinks, and is full
  pub between-full : Rounded mate (Between sources sinks) residual residual false
  between-full = record {
    balanced = parted.grown.tree.balanced;
    more = λ q. never q;
    full = λ _.
        ⊎_elim
        (λ c. (reached forth'.order, reached-between, reached-full mate residual forth' (parted.grown.way ∙ r.way) c))
        (λ c. (
          (λ v. not (reached back'.order v)),
          unreached-between,
          unreached-full mate residual back' (parted.grown_back.way ∙ s.way) parted.grown.tree.mated c,
        ))
        parted.closed;
  }
