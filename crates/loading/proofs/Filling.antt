-- What is known while the edges of a network are stored in the state: as they are read from its text, or from columns.
use mathlib.Core.Path.{◌≡◌, refl, ◌∙◌, ap}
use mathlib.Core.Bool.{true}
use mathlib.Core.List.{List, [], ◌∷◌, ◌++◌, map, append-nil}
use Prim.Native.Nat.{ℕ, zero, suc, ◌+◌, ◌*◌, ◌-◌, ◌≤◌, ◌<◌}
use native.Mathlib.Numerals.{add-one}
use native.Mathlib.Omega.{arith}
use borrow.Author.Tests.{lt-ltb, le-ltb}
use lib.ListN.{length, get_or, set, replicate, length-append, length-replicate}
use lib.Seq.{take_all, append_snoc}
use lib.IntN.{ℤ, pos}
use mir.Syntax.{w64}
use mir.Val.{to_z, of_z}
use mir.Facts.{to_z-of_z}
use Rattle.std.proofs.Common.{Ok}
use Rattle.base.specs.Answer.{refused, answer, over}
use Rattle.base.specs.Limits.{edge_limit, vertex_limit, cost_ok}
use Rattle.base.specs.Refusals.{FORM}
use Rattle.base.proofs.Filling.{Copying, copying-none, copying-next, copying-all}
use Rattle.base.proofs.Integers.{size_fits}
use Rattle.base.proofs.LimitLaws.{cost-within}
use Rattle.base.proofs.Held.{Storing, storing-none, part-next}
use Rattle.base.proofs.Parts.{over-at}
use Rattle.frame.specs.declared.kinds.Edge.{Edge}
use Rattle.graph.specs.Network.{low_end, high_end}
use Rattle.graph.specs.declared.Network.{Network}
use Rattle.incidence.specs.Degrees.{degrees_of, degrees_among, end_counted}
use Rattle.incidence.proofs.Tally.{no_edge, one-more-edge, all_edges, degrees-below}
use Rattle.network_text.specs.Text.{Meaning, Valid, meaning_of}
use Rattle.network_frames.specs.Frames.{read_edge}
use Rattle.loading.specs.Loading.{state_of, no_ends, no_costs, network_of, loaded_answer}
use Rattle.loading.specs.declared.loaded.Loaded.{Loaded}
use Rattle.loading.specs.Pass.{Run, onward, run_of, tally_of, pass_over}
use Rattle.loading.proofs.Counting.{counted_none, counted_next, counted-most}

-- a cost within the limit is kept as it is
pub cost-kept : (c : ℤ) → cost_ok c ≡ true → to_z w64 (of_z w64 c) ≡ c
cost-kept c e = to_z-of_z (size_fits c (omega (arith, cost-within c e)))

-- ── the state ──

-- a state with other columns
abbrev with_columns : Network → List ℕ → List ℕ → List ℤ → Network
with_columns g low high cost =
    record {
      low = low;
      high = high;
      cost = cost;
      present = g.present;
      reserved = g.reserved;
      edges = g.edges;
      vertices = g.vertices;
      remaining = g.remaining;
    }

state-next : (n r : ℕ) (g : Network) → g ≡ state_of n r g.low g.high g.cost
    → (low high : List ℕ) (cost : List ℤ) → with_columns g low high cost ≡ state_of n r low high cost
unfolding state_of
state-next n r g s low high cost =
    rw (
      ap (λ h. h.present) s,
      ap (λ h. h.reserved) s,
      ap (λ h. h.edges) s,
      ap (λ h. h.vertices) s,
      ap (λ h. h.remaining) s,
    )

-- ── edges that are read from a text ──

-- a run behind edges that were read before it
abbrev behind : List Edge → Run → Run
behind es run = record { edges = es ++ run.edges; refusal = run.refusal; place = run.place }

-- the edges before the i-th were read and are tallied, the state's columns hold them,
-- its other fields are those that the head says, and the edges that are left end the run
pub record Filling (text : List ℕ) (n r first : ℕ) (g : Network) (tally : List ℕ) (at i : ℕ) : Type 0 where
  pub passed : List Edge
  pub count : length passed ≡ i
  pub within : i ≤ 2 * n
  pub run : run_of text n (2 * n) 0 first ≡ behind passed (run_of text n (2 * n - i) i at)
  pub lows : Storing (map (λ e. e.lower) passed) no_ends g.low
  pub highs : Storing (map (λ e. e.higher) passed) no_ends g.high
  pub costs : Storing (map (λ e. e.cost) passed) no_costs g.cost
  pub state : g ≡ state_of n r g.low g.high g.cost
  pub tallied : tally ≡ tally_of passed

pub filling-none : {text : List ℕ} (n r : ℕ) {first : ℕ} {g : Network} → g ≡ state_of n r no_ends no_ends no_costs
    → Filling text n r first g (replicate vertex_limit 0) first 0
unfolding state_of
filling-none n r e =
    let all : 2 * n - 0 ≡ 2 * n = omega arith in
    rw e
    (record {
      passed = [];
      count = refl;
      within = omega arith;
      run = rw all;
      lows = storing-none;
      highs = storing-none;
      costs = storing-none;
      state = refl;
      tallied = counted_none;
    })

module _ {text : List ℕ} {n r first : ℕ} {g : Network} {tally : List ℕ} {at i : ℕ}
    (w : Filling text n r first g tally at i) where
  -- a tally has room for one more edge at every vertex
  pub filling-room : (v : ℕ) → get_or tally v 0 ≤ i
  filling-room v = rw w.tallied (omega (arith, counted-most w.passed v, w.count))

  -- what is handed back with a refusal or 0, of so many edges, is what the pass comes to
  abbrev Comes : ℕ → ℕ → Type 0
  Comes k read =
      record { refusal = k; place = at; read = read; network = g; tally = tally }
      ≡ pass_over (record { vertices = n; reserved = r }) (run_of text n (2 * n) 0 first)

  comes : {k : ℕ} → run_of text n (2 * n - i) i at ≡ record { edges = []; refusal = k; place = at } → Comes k i
  unfolding pass_over network_of meaning_of
  comes x =
      rw (
        w.run,
        x,
        append-nil,
        w.count,
        ← w.lows.holds,
        ← w.highs.holds,
        ← w.costs.holds,
        ← w.state,
        w.tallied,
      )

  module _ (l : i < 2 * n) where
    one-due : 2 * n - i ≡ suc (2 * n - (i + 1))
    one-due = omega arith

    pub filling-refused : {k : ℕ} → refused k ≡ read_edge text at n i → Comes k i
    unfolding run_of onward
    filling-refused x = comes (rw (one-due, ← x))

    pub filling-next : {p : Edge × ℕ} {tally' : List ℕ} → answer p ≡ read_edge text at n i
        → tally' ≡ end_counted (end_counted tally p.0.lower) p.0.higher → p.0.lower < p.0.higher → n ≤ vertex_limit
        → Filling text n r first
        (with_columns g (set g.low i p.0.lower) (set g.high i p.0.higher) (set g.cost i p.0.cost))
        tally' p.1 (i + 1)
    unfolding run_of onward
    filling-next {p} x one_more rising few =
        let e = p.0 in
        record {
          passed = w.passed ++ (e ∷ []);
          count = length-append w.passed (e ∷ []) ∙ omega (arith, w.count);
          within = omega arith;
          run =
              w.run
              ∙ rw (
                one-due,
                ← x,
                add-one,
                append_snoc w.passed e (run_of text n (2 * n - suc i) (suc i) p.1).edges,
              );
          lows = part-next (λ a. a.lower) w.passed e w.lows w.count (room {A = ℕ} 0);
          highs = part-next (λ a. a.higher) w.passed e w.highs w.count (room {A = ℕ} 0);
          costs = part-next (λ a. a.cost) w.passed e w.costs w.count (room (pos 0));
          state = state-next n r g w.state _ _ _;
          tallied =
              one_more
              ∙ ap (λ (t : List ℕ). end_counted (end_counted t e.lower) e.higher) w.tallied
              ∙ counted_next w.passed e rising;
        }
      where
        room : {A : Type 0} (d : A) → i < length (replicate edge_limit d)
        room d = rw length-replicate (omega arith)

  -- the last edge is read: something is left over, or nothing
  module _ (l : 2 * n ≤ i) where
    none-due : 2 * n - i ≡ zero
    none-due = omega arith

    every : i ≡ 2 * n
    every = omega (arith, w.within)

    pub filling-left : at < length text → Comes FORM (2 * n)
    unfolding run_of
    filling-left m = rw every at (comes {k = FORM} (rw (none-due, lt-ltb at (length text) m)))

    pub filling-end : length text ≤ at → Comes 0 (2 * n)
    unfolding run_of
    filling-end m = rw every at (comes {k = 0} (rw (none-due, le-ltb at (length text) m)))

-- ── edges that stand in columns ──

-- the state's columns hold the edges before the i-th, its other fields
-- are those of the meaning, and the degrees among these edges are tallied
pub record Stored (m : Meaning) (g : Network) (degrees : List ℕ) (i : ℕ) : Type 0 where
  pub lows : Copying m.low no_ends g.low (2 * m.vertices) i
  pub highs : Copying m.high no_ends g.high (2 * m.vertices) i
  pub costs : Copying m.cost no_costs g.cost (2 * m.vertices) i
  pub state : g ≡ state_of m.vertices m.reserved g.low g.high g.cost
  pub tallied : degrees ≡ degrees_among (network_of m) i

module _ {m : Meaning} where
  pub stored-none : {g : Network} → g ≡ state_of m.vertices m.reserved no_ends no_ends no_costs
      → Stored m g (replicate vertex_limit 0) 0
  unfolding state_of
  stored-none e =
      rw e
      (record {
        lows = copying-none;
        highs = copying-none;
        costs = copying-none;
        state = refl;
        tallied = no_edge (network_of m);
      })

  module _ (s : Valid m) {g : Network} {degrees : List ℕ} {i : ℕ} (w : Stored m g degrees i) where
    -- a tally has room for one more edge at every vertex
    pub stored-room : (v : ℕ) → get_or degrees v 0 ≤ i * 2
    stored-room v = rw w.tallied (degrees-below (network_of m) i v)

    pub stored_next : {degrees' : List ℕ}
        → degrees' ≡ end_counted (end_counted degrees (get_or m.low i 0)) (get_or m.high i 0) → i < 2 * m.vertices
        → Stored m
        (with_columns g (set g.low i (get_or m.low i 0)) (set g.high i (get_or m.high i 0))
        (set g.cost i (get_or m.cost i (pos 0))))
        degrees' (i + 1)
    stored_next one_more l =
        let ends = length-replicate {A = ℕ} edge_limit 0 in
        let costs = length-replicate {A = ℤ} edge_limit (pos 0) in
        let few = s.few in
        record {
          lows = copying-next w.lows 0 l (omega (arith, s.low_count)) (omega arith);
          highs = copying-next w.highs 0 l (omega (arith, s.high_count)) (omega arith);
          costs = copying-next w.costs (pos 0) l (omega (arith, s.cost_count)) (omega arith);
          state = state-next m.vertices m.reserved g w.state _ _ _;
          tallied = one_more ∙ rw (w.tallied, ← low-is, ← high_is) (one-more-edge (network_of m) i);
        }
      where
        low-is : low_end (network_of m) i ≡ get_or m.low i 0
        low-is = unfold network_of state_of in over-at m.low no_ends 0 i (omega (arith, s.low_count))

        high_is : high_end (network_of m) i ≡ get_or m.high i 0
        high_is = unfold network_of state_of in over-at m.high no_ends 0 i (omega (arith, s.high_count))

    module _ (l : 2 * m.vertices ≤ i) where
      pub stored-all : g ≡ network_of m
      unfolding network_of
      stored-all =
          w.state
          ∙ rw (whole w.lows s.low_count, whole w.highs s.high_count, whole w.costs s.cost_count)
        where
          whole : {A : Type 0} {xs old column : List A} → Copying xs old column (2 * m.vertices) i
              → length xs ≡ 2 * m.vertices → column ≡ over xs old
          whole {xs = xs} {old = old} k e =
              copying-all k l ∙ ap (λ ys. over ys old) (take_all (2 * m.vertices) xs (omega arith))

      pub stored-degrees : degrees ≡ degrees_of g
      stored-degrees =
          let e : i ≡ (network_of m).edges = unfold network_of state_of in omega (arith, w.lows.within) in
          w.tallied ∙ rw (e, stored-all) (all_edges (network_of m))

      -- and so what is made of them is what was loaded
      pub stored_loaded : (loaded : Loaded) → loaded.network ≡ g → loaded.degrees ≡ degrees
          → (loaded_answer (Ok loaded) ≡ answer (network_of m)) × (loaded.degrees ≡ degrees_of (network_of m))
      stored_loaded loaded e d = (ap answer (e ∙ stored-all), d ∙ stored-degrees ∙ ap degrees_of stored-all)
