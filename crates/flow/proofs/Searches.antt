-- Laws of searches that visit the vertices in the order in which they are reached.
use mathlib.Core.List.{List}
use mathlib.Core.Logic.{◌⊎◌, inl, inr, ⊎_elim}
use mathlib.Core.Path.{◌≡◌, sym, ◌∙◌, ap}
use Prim.Native.Nat.{ℕ, ◌+◌, ◌≤◌, ◌<◌}
use native.Mathlib.Decide.{ℕ_discrete, dec_lt}
use native.Mathlib.Omega.{arith}
use Rattle.base.specs.Columns.{at}
use Rattle.base.specs.Limits.{vertex_limit}
use Rattle.ports.specs.Ports.{port_limit, vertex_of, far_vertex, Mated}
use Rattle.flow.specs.declared.reach.Reach.{Reach}
use Rattle.flow.specs.Reach.{Tree, Grown, Apart, WentOn, Encounter}
use Rattle.flow.specs.Meet.{Searching, Closed, Meeting, Parted}
use Rattle.flow.proofs.Visiting.{clock-most, grown-none, grown-on, shut-later}

module _ {mate residual : List ℕ} {first next : ℕ} {found : Reach}
    (s : Searching mate residual first found next) where
  -- the vertex that comes next is reached, by a port that is one
  module _ (l : next ≤ found.clock) where
    pub next-port : at found.trail next < port_limit
    next-port = elim (dec_lt 1 next) [
      | yes h ↦ (s.tree.named next h l).0
      | no h ↦ s.root-port next s.begun (omega arith)
    ]

    pub next-reached : 1 ≤ at found.order (far_vertex mate (at found.trail next))
    next-reached = elim (dec_lt 1 next) [
      | yes h ↦ omega (arith, (s.tree.named next h l).1)
      | no h ↦ omega (arith, s.root-reached next s.begun (omega arith))
    ]

    pub next-vertex : far_vertex mate (at found.trail next) < vertex_limit
    next-vertex = omega (arith, s.tree.mated.below (at found.trail next) next-port)

    pub number-most : next ≤ vertex_limit
    number-most = omega (arith, clock-most s.tree)

    -- its number can be looked up, and it can be visited
    pub listed : Mated mate × (next ≤ vertex_limit) × (at found.trail next < port_limit)
    listed = (s.tree.mated, number-most, next-port)

    pub visitable : {vertex : ℕ} (other : List ℕ) → vertex ≡ far_vertex mate (at found.trail next)
        → Apart found.order other
        → (vertex < vertex_limit) × (1 ≤ at found.order vertex) × Apart found.order other × Tree mate residual found
    visitable other is apart = (rw is next-vertex, rw is next-reached, apart, s.tree)

    -- it is visited, and the search goes on
    module _ {other : List ℕ} {vertex : ℕ} {found' : Reach} (vertex-is : vertex ≡ far_vertex mate (at found.trail next))
        (w : WentOn mate residual (λ p. vertex_of p ≡ vertex) found other found') where
      same-port : (k : ℕ) → k ≤ found.clock → far_vertex mate (at found'.trail k) ≡ far_vertex mate (at found.trail k)
      same-port k h = ap (far_vertex mate) (w.grown.stays k h)

      low : (k : ℕ) → k ≤ 1 → k ≤ found.clock
      low k h = omega (arith, s.tree.begun)

      pub searching-on : Searching mate residual first found' (next + 1)
      searching-on = record {
        tree = w.grown.tree;
        first-low = s.first-low;
        begun = omega (arith, s.begun);
        next-most = omega (arith, number-most);
        root-port = λ k f h. rw (w.grown.stays k (low k h)) (s.root-port k f h);
        root-reached = λ k f h.
            let r = s.root-reached k f h in
            rw (same-port k (low k h)) (w.grown.kept _ (omega arith) ∙ r);
        root-found = λ v h.
            let r = s.root-found v (w.grown.root v h) in (r.0, r.1, r.2, same-port r.0 (low r.0 r.2) ∙ r.3);
        visited = λ k f h p pl e. elim (ℕ_discrete k next) [
          | yes q ↦
              w.shut p pl
              (e ∙ same-port k (omega arith) ∙ ap (λ i. far_vertex mate (at found.trail i)) q ∙ sym vertex-is)
          | no q ↦ shut-later w.grown p (s.visited k f (omega arith) p pl (e ∙ same-port k (omega arith)))
        ];
      }

  -- all numbers have been visited, so that no port leads on
  pub search-closed : found.clock < next → Closed mate residual found
  search-closed l p pl reached = elim (dec_lt 1 (at found.order (vertex_of p))) [
    | yes h ↦
        let link = s.tree.link (vertex_of p) h in
        s.visited (at found.order (vertex_of p)) (omega (arith, s.first-low))
        (omega (arith, s.tree.numbered (vertex_of p))) p pl (sym link.arrives)
    | no h ↦
        let r = s.root-found (vertex_of p) (omega arith) in
        s.visited r.0 r.1 (omega (arith, r.2, s.tree.begun)) p pl (sym r.3)
  ]

pub other-apart : {mate residual other : List ℕ} {Tried : ℕ → Type 0} {found found' : Reach}
    → WentOn mate residual Tried found other found' → Apart other found'.order
other-apart w v = ⊎_elim inr inl (w.apart v)

-- ── two searches in turn ──
pub record Turns (mate residual : List ℕ) (forth₀ back₀ forth back : Reach)
    (next : ℕ) : Type 0 where
  pub forward : Searching mate residual 0 forth next
  pub backward : Searching mate residual 0 back next
  pub grown : Grown mate residual forth₀ forth
  pub grown_back : Grown mate residual back₀ back
  pub apart : Apart forth.order back.order

module _ {mate residual : List ℕ} {forth₀ back₀ : Reach} where
  pub turns-begun : Searching mate residual 0 forth₀ 0 → Searching mate residual 0 back₀ 0
      → Apart forth₀.order back₀.order → Turns mate residual forth₀ back₀ forth₀ back₀ 0
  turns-begun s b apart = record {
    forward = s;
    backward = b;
    grown = grown-none s.tree;
    grown_back = grown-none b.tree;
    apart = apart;
  }

  module _ {forth back : Reach} {next : ℕ} (t : Turns mate residual forth₀ back₀ forth back next) where
    pub parted : Closed mate residual forth ⊎ Closed mate residual back
        → Parted mate residual forth₀ back₀ forth back
    parted closed = record { grown = t.grown; grown_back = t.grown_back; apart = t.apart; closed = closed }

    pub met-forward : {forth' : Reach} {m : ℕ} → Encounter mate residual forth back.order forth' m
        → Meeting mate residual forth₀ back₀ forth' back m
    met-forward e = record {
      grown = grown-on t.grown e.grown;
      grown_back = t.grown_back;
      vertex = e.vertex;
      reaches = e.reaches;
      reaches_back = e.reached_before;
      only = e.only;
    }

    -- the first has gone on, and it is the second's turn
    module _ {forth' : Reach} {vertex : ℕ} (l : next ≤ forth.clock)
        (vertex-is : vertex ≡ far_vertex mate (at forth.trail next))
        (w : WentOn mate residual (λ p. vertex_of p ≡ vertex) forth back.order forth') where
      pub met-backward : {back' : Reach} {m : ℕ} → Encounter mate residual back forth'.order back' m
          → Meeting mate residual forth₀ back₀ forth' back' m
      met-backward e = record {
        grown = grown-on t.grown w.grown;
        grown_back = grown-on t.grown_back e.grown;
        vertex = e.vertex;
        reaches = e.reached_before;
        reaches_back = e.reaches;
        only = λ v ne. ⊎_elim inr inl (e.only v ne);
      }

      pub turned : {back' : Reach} {back-vertex : ℕ} → next ≤ back.clock
          → back-vertex ≡ far_vertex mate (at back.trail next)
          → WentOn mate residual (λ p. vertex_of p ≡ back-vertex) back forth'.order back'
          → Turns mate residual forth₀ back₀ forth' back' (next + 1)
      turned h is b = record {
        forward = searching-on t.forward l vertex-is w;
        backward = searching-on t.backward h is b;
        grown = grown-on t.grown w.grown;
        grown_back = grown-on t.grown_back b.grown;
        apart = other-apart b;
      }
