-- Laws of the search: what passing edges keeps, and that a sweep which leaves nothing waiting ends it.
use mathlib.Core.Path.{◌≡◌, refl, sym, ◌∙◌, ap}
use mathlib.Core.Bool.{Bool, true, false, not, cond}
use Prim.Native.Nat.{ℕ, zero, suc, ◌+◌, ◌-◌, ◌≤◌, ◌<◌}
use native.Mathlib.Omega.{arith}
use native.Mathlib.Decide.{ℕ_discrete, dec_lt}
use borrow.Author.Tests.{lt-ltb, le-ltb}
use lib.ListN.{get_or}
use Rattle.base.specs.Fold.{sum, bit}
use Rattle.graph.specs.Network.{kept}
use Rattle.graph.specs.Cut.{Side}
use Rattle.base.specs.Limits.{vertex_limit}
use Rattle.base.proofs.Bools.{never}
use Rattle.base.proofs.Sums.{sum-change}
use Rattle.connection.specs.Words.{has, empty, added, lowest}
use Rattle.connection.specs.declared.edges.Edges.{Edges}
use Rattle.connection.specs.declared.search.Search.{Search}
use Rattle.connection.specs.Search.{Closed, state, Passes, none, more, begun, entered}
use Rattle.connection.specs.Search.{taken, followed, passed, swept, settled}
use Rattle.connection.proofs.Sets.{Words, empty-words, empty-none, added-words, added-same, added-other, removed-words}
use Rattle.connection.proofs.Sets.{removed-same, removed-other, lowest-has, lowest-none}

-- no listed one of these edges leaves a set
abbrev pub ClosedBy : Edges → Side → Type 0
ClosedBy E = Closed E.low.now E.high.now E.listed.now E.count

-- both sets have their words
pub record Sized (s : Search) : Type 0 where
  pub reached : Words s.reached
  pub waiting : Words s.waiting

-- ── the work that is left ──

-- a vertex that is not reached may yet be entered and visited, and one that waits may be visited
to_do : Search → ℕ → ℕ
to_do s v = bit (not (has s.reached v)) + bit (has s.waiting v)

pub work : Search → ℕ
work s = sum vertex_limit (to_do s)

module _ (s : Search) (v : ℕ) (z : Sized s) (l : v < vertex_limit) where
  entered-sized : Sized (entered s v)
  unfolding entered
  entered-sized = record {
    reached = added-words s.reached v z.reached;
    waiting = added-words s.waiting v z.waiting;
  }

  -- entering a vertex adds no work
  entered-work : has s.reached v ≡ false → work (entered s v) ≤ work s
  unfolding work to_do entered
  entered-work h =
      let new : to_do (entered s v) v ≡ 1 =
      rw (added-same s.reached v z.reached l, added-same s.waiting v z.waiting l) in
      let old : 1 ≤ to_do s v = rw h (omega arith) in
      let reached-others = added-other s.reached v z.reached l in
      let waiting-others = added-other s.waiting v z.waiting l in
      let rest = sum-change vertex_limit v (to_do (entered s v)) (to_do s) l
      (λ u m ne. rw (reached-others u ne, waiting-others u ne)) in
      omega arith

  taken-sized : Sized (taken s v)
  unfolding taken
  taken-sized = record { reached = z.reached; waiting = removed-words s.waiting v z.waiting }

  -- visiting one that waits takes some away
  pub taken-work : has s.waiting v ≡ true → work (taken s v) < work s
  unfolding work to_do taken
  taken-work h =
      let new : to_do (taken s v) v ≡ bit (not (has s.reached v)) + 0 =
      rw (removed-same s.waiting v z.waiting l h) in
      let old : to_do s v ≡ bit (not (has s.reached v)) + 1 = rw h in
      let rest = sum-change vertex_limit v (to_do (taken s v)) (to_do s) l
      (λ u m ne. rw (removed-other s.waiting v z.waiting l u ne)) in
      omega arith

-- ── a sweep ──

module _ (E : Edges) where
  -- a sweep from edge e - 1 on, and its end
  pub swept-down : (s : Search) (e : ℕ) → 0 < e
      → swept E e s ≡ swept E (e - 1) (passed E s (e - 1))
  unfolding swept
  swept-down s zero l = absurd (omega arith)
  swept-down s (suc e) l = let q : suc e - 1 ≡ e = omega arith in rw q

  pub swept-done : (s : Search) (e : ℕ) → e ≤ 0 → swept E e s ≡ s
  unfolding swept
  swept-done s zero l = refl
  swept-done s (suc e) l = absurd (omega arith)

-- ── what the search keeps ──

module _ (E : Edges) where
  -- edge e, if it is listed, does not leave the reached set
  Shut : Search → ℕ → Type 0
  Shut s e = kept E.listed.now e ≡ true → has s.reached (get_or E.low.now e 0) ≡ has s.reached (get_or E.high.now e 0)

  -- what any number of passed edges keeps: s is the search before, t the one after
  record Grown (s t : Search) : Type 0 where
    sized : Sized t
    kept : (v : ℕ) → has s.reached v ≡ true → has t.reached v ≡ true
    inside : (T : Side) → ClosedBy E T → ((v : ℕ) → has s.reached v ≡ true → T v ≡ true)
        → (v : ℕ) → has t.reached v ≡ true → T v ≡ true
    no_more : work t ≤ work s

  pub settled-waits : (s : Search) → lowest s.waiting.words < vertex_limit → settled E s ≡ s
  unfolding settled
  settled-waits s h = rw (lt-ltb _ _ h)

  pub settled-sweeps : (s : Search) → vertex_limit ≤ lowest s.waiting.words → settled E s ≡ swept E E.count s
  unfolding settled
  settled-sweeps s h = rw (le-ltb _ _ h)

  -- ── passing edges ──

  -- passing an edge changes nothing, or enters one vertex that the edge joins to a reached one
  module _ (s : Search) (e : ℕ) (l : e < E.count) (P : Search → Type 0)
      (stays : Shut s e → P s)
      (enters : (u v : ℕ) → v < vertex_limit → ((T : Side) → ClosedBy E T → T u ≡ T v)
      → has s.reached u ≡ true → has s.reached v ≡ false → P (entered s v)) where
    passed-cases : P (passed E s e)
    unfolding passed followed Shut
    passed-cases = go (kept E.listed.now e) (has s.reached a) (has s.reached b) refl refl refl
      where
        a : ℕ
        a = get_or E.low.now e 0

        b : ℕ
        b = get_or E.high.now e 0

        go : (k p q : Bool) → kept E.listed.now e ≡ k → has s.reached a ≡ p → has s.reached b ≡ q
            → P (cond k (cond p (cond q s (entered s b)) (cond q (entered s a) s)) s)
        go false p q ek ep eq = stays (λ t. never (sym ek ∙ t))
        go true true true ek ep eq = stays (λ t. ep ∙ sym eq)
        go true false false ek ep eq = stays (λ t. ep ∙ sym eq)
        go true true false ek ep eq = enters a b (E.high_below e l) (λ T h. h e l ek) ep eq
        go true false true ek ep eq = enters b a (E.low_below e l) (λ T h. sym (h e l ek)) eq ep

  grown-entered : (s t : Search) (u v : ℕ) → v < vertex_limit → ((T : Side) → ClosedBy E T → T u ≡ T v)
      → has t.reached u ≡ true → has t.reached v ≡ false → Grown s t → Grown s (entered t v)
  unfolding entered
  grown-entered s t u v l joined hu hv w =
      let f = w.sized.reached in
      record {
        sized = entered-sized t v w.sized l;
        kept = λ x h. elim (ℕ_discrete x v) [
          | yes e ↦ ap (has (added t.reached v)) e ∙ added-same t.reached v f l
          | no ne ↦ added-other t.reached v f l x ne ∙ w.kept x h
        ];
        inside = λ T closed base x h. elim (ℕ_discrete x v) [
          | yes e ↦ ap T e ∙ sym (joined T closed) ∙ w.inside T closed base u hu
          | no ne ↦ w.inside T closed base x (sym (added-other t.reached v f l x ne) ∙ h)
        ];
        no_more = omega (arith, w.no_more, entered-work t v w.sized l hv);
      }

  passes-grown : (s t : Search) → Sized s → Passes E s t → Grown s t
  passes-grown s t z none = record { sized = z; kept = λ v h. h; inside = λ T c base. base; no_more = omega arith }
  passes-grown s t z (more {t = r} {e = e} p l) =
      let w = passes-grown s r z p in
      passed-cases r e l (Grown s) (λ same. w) (λ u v b joined hu hv. grown-entered s r u v b joined hu hv w)

  -- ── the sweep ──

  swept-passes : (s t : Search) (k : ℕ) → k ≤ E.count → Passes E s t
      → Passes E s (swept E k t)
  unfolding swept
  swept-passes s t zero l p = p
  swept-passes s t (suc k) l p = swept-passes s (passed E t k) k (omega arith) (more p (omega arith))

  -- passing an edge that leaves nothing waiting enters nothing
  passed-still : (s : Search) (e : ℕ) → e < E.count → Sized s → ((v : ℕ) → has (passed E s e).waiting v ≡ false)
      → (passed E s e ≡ s) × Shut s e
  unfolding entered
  passed-still s e b z = passed-cases s e b
      (λ t. ((v : ℕ) → has t.waiting v ≡ false) → (t ≡ s) × Shut s e)
      (λ shut empty. (refl, shut))
      (λ u v l joined hu hv empty. never (sym (empty v) ∙ added-same s.waiting v z.waiting l))

  -- so a sweep that leaves nothing waiting shows that no edge which it passed leaves the reached set
  swept-still : (s : Search) (k : ℕ) → Sized s → k ≤ E.count → ((v : ℕ) → has (swept E k s).waiting v ≡ false)
      → (swept E k s ≡ s) × ((e : ℕ) → e < k → Shut s e)
  unfolding swept
  swept-still s zero z l h = (refl, λ e b. absurd (omega arith))
  swept-still s (suc k) z l h =
      let t = passed E s k in
      let rest = swept-still t k (passes-grown s t z (more none (omega arith))).sized (omega arith) h in
      let here = passed-still s k (omega arith) z (λ v. ap (λ r. has r.waiting v) (sym rest.0) ∙ h v) in (
        rest.0 ∙ here.0,
        λ e b. elim (ℕ_discrete e k) [
          | yes q ↦ rw q here.1
          | no q ↦ rw here.0 at (rest.1 e (omega arith))
        ],
      )

  swept-closed : (s : Search) → Sized s
      → let r = swept E E.count s in
      vertex_limit ≤ lowest r.waiting.words → ClosedBy E (has r.reached)
  unfolding Shut
  swept-closed s z h =
      let r = swept E E.count s in
      let sized = (passes-grown s r z (swept-passes s s E.count (omega arith) none)).sized in
      let still = swept-still s E.count z (omega arith) (lowest-none r.waiting sized.waiting h) in
      rw still.0 still.1

-- ── the whole search ──

module _ (E : Edges) (start : ℕ) where
  -- the search before its next visit, which is v's; there is none where v is no vertex
  pub record Searching (s : Search) (v : ℕ) : Type 0 where
    pub sized : Sized s
    pub holds_start : has s.reached start ≡ true
    pub inside : (T : Side) → T start ≡ true → ClosedBy E T
        → (u : ℕ) → has s.reached u ≡ true → T u ≡ true
    pub waits : v < vertex_limit → has s.waiting v ≡ true
    pub shut : vertex_limit ≤ v → ClosedBy E (has s.reached)

  -- at the beginning the start vertex is reached, and waits
  pub search-begun : start < vertex_limit → Searching (begun start) start
  unfolding begun entered
  search-begun l =
      let words : Words empty = empty-words in
      let only : (u : ℕ) → has (added empty start) u ≡ true → u ≡ start = λ u h. elim (ℕ_discrete u start) [
        | yes e ↦ e
        | no ne ↦ never (sym (added-other empty start words l u ne ∙ empty-none u) ∙ h)
      ] in
      record {
        sized = entered-sized (state empty empty) start (record { reached = words; waiting = words }) l;
        holds_start = added-same empty start words l;
        inside = λ T z closed u h. ap T (only u h) ∙ z;
        waits = λ h. added-same empty start words l;
        shut = λ h. absurd (omega arith);
      }

  -- a visit of v, and whether something waits after it or a sweep follows
  module _ (s t : Search) (v : ℕ) (w : Searching s v) (l : v < vertex_limit) (p : Passes E (taken s v) t) where
    grown : (a b : Search) → Sized a → Passes E a b → Grown E a b
    grown = passes-grown E

    visited : Grown E (taken s v) t
    visited = grown (taken s v) t (taken-sized s v w.sized l) p

    searching-on : (r : Search) → Grown E t r
        → (vertex_limit ≤ lowest r.waiting.words → ClosedBy E (has r.reached))
        → Searching r (lowest r.waiting.words)
    unfolding taken
    searching-on r g shut = record {
      sized = g.sized;
      holds_start = g.kept start (visited.kept start w.holds_start);
      inside = λ T z closed. g.inside T closed (visited.inside T closed (w.inside T z closed));
      waits = lowest-has r.waiting g.sized.waiting;
      shut = shut;
    }

    visit-work : work t < work s
    visit-work = omega (arith, visited.no_more, taken-work s v w.sized l (w.waits l))

    -- something waits still, or a sweep looks for more
    settled-turn : let r = settled E t in Searching r (lowest r.waiting.words) × (work r < work s)
    settled-turn = elim (dec_lt (lowest t.waiting.words) vertex_limit) [
      | yes h ↦
          let same = grown t t visited.sized none in
          rw (settled-waits E t h) (searching-on t same (λ k. absurd (omega arith)), visit-work)
      | no h ↦
          let passes = swept-passes E t t E.count (omega arith) none in
          let g = grown t (swept E E.count t) visited.sized passes in
          let closed = swept-closed E t visited.sized in
          rw (settled-sweeps E t (omega arith))
          (searching-on _ g closed, omega (arith, g.no_more, visit-work))
    ]

    pub turn : (r : Search) (n : ℕ) → r ≡ settled E t → n ≡ lowest r.waiting.words
        → Searching r n × (work r < work s)
    turn r n e f = rw (f, e) settled-turn
