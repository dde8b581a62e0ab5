-- Laws of a round: the start of a search, its two endings, and what a
-- number of rounds says of the cuts between the terminals.
use mathlib.Core.Path.{◌≡◌, refl, sym, ◌∙◌, ap}
use mathlib.Core.Logic.{◌≢◌, ◌⊎◌, inl, inr, ⊎_elim}
use mathlib.Core.Bool.{Bool, true, false}
use mathlib.Core.List.{List}
use Prim.Native.Nat.{ℕ, zero, suc, ◌+◌, ◌≤◌, ◌<◌}
use native.Mathlib.Omega.{arith}
use native.Mathlib.Decide.{ℕ_discrete}
use lib.ListN.{length, set, replicate, length-set, length-replicate}
use lib.Seq.{get_or-set_same, get_or-set_other}
use Rattle.base.specs.Fold.{bit}
use Rattle.graph.specs.Cut.{Side, crossings}
use Rattle.base.specs.Limits.{vertex_limit}
use Rattle.graph.specs.declared.Network.{Network}
use Rattle.base.proofs.Bools.{never}
use Rattle.base.proofs.Sums.{sum-ext, sum_zeros, term-le}
use Rattle.flow.specs.Apart.{Between, FourApart}
use Rattle.base.specs.Columns.{at}
use Rattle.flow.specs.Arcs.{arc_limit, tail, head, Laid, leaving, capacity, Balanced}
use Rattle.flow.specs.Search.{positive, reached, reached_count, Tree, Shut, Stuck, Arrived, Ends, Searched}
use Rattle.flow.specs.Flow.{Sendable, Sent, Rounded}
use Rattle.flow.specs.declared.Pair.{Pair}
use Rattle.flow.specs.declared.search.Search.{Search}
use Rattle.std.proofs.Common.{Option, Some, None}
use Rattle.flow.proofs.Laying.{ones, balanced-ones, capacity-ones}
use Rattle.flow.proofs.Reaching.{positive-yes}

-- no arc leads on from what is reached, so nothing can leave it
leaving-none : (from to c : ℕ) → (1 ≤ c → 1 ≤ from → 1 ≤ to) → leaving (positive from) (positive to) c ≡ 0
unfolding leaving
leaving-none zero to c h = refl
leaving-none (suc from) (suc to) c h = refl
leaving-none (suc from) zero zero h = refl
leaving-none (suc from) zero (suc c) h = absurd (omega (arith, h (omega arith) (omega arith)))

-- so what is reached is a side that can pass nothing more
shut-full : (ends residual order : List ℕ)
    → ((p : ℕ) → p < arc_limit → Shut ends residual order p) → capacity ends residual (reached order) ≡ 0
unfolding capacity
shut-full ends residual order h =
    sum-ext arc_limit _ (λ _. 0)
    (λ p l. leaving-none (at order (tail ends p)) (at order (head ends p)) (at residual p) (h p l))
    ∙ sum_zeros arc_limit

-- no vertex has a number yet, and the sources are vertices
pub record Blank (none : List ℕ) (sources : Pair) : Type 0 where
  pub long : length none ≡ vertex_limit
  pub empty : (v : ℕ) → at none v ≡ 0
  pub first_vertex : sources.first < vertex_limit
  pub second_vertex : sources.second < vertex_limit

pub blank : (sources : Pair) → sources.first < vertex_limit → sources.second < vertex_limit
    → Blank (replicate vertex_limit 0) sources
blank sources first second = record {
  long = length-replicate {A = ℕ} vertex_limit 0;
  empty = zeros vertex_limit;
  first_vertex = first;
  second_vertex = second;
}
  where
    zeros : (n v : ℕ) → at (replicate n 0) v ≡ 0
    zeros zero v = refl
    zeros (suc n) zero = refl
    zeros (suc n) (suc v) = zeros n v

-- the numbers at the start of a search: 1 for the sources
abbrev pub sown : List ℕ → Pair → List ℕ
sown none sources = set (set none sources.first 1) sources.second 1

module _ {none : List ℕ} {sources : Pair} (b : Blank none sources) where
  sown-second : at (sown none sources) sources.second ≡ 1
  sown-second = get_or-set_same (set none sources.first 1) sources.second 1 0
      (rw length-set (omega (arith, b.long, b.second_vertex)))

  sown-first : at (sown none sources) sources.first ≡ 1
  sown-first =
      let fits : sources.first < length none = omega (arith, b.long, b.first_vertex) in
      elim (ℕ_discrete sources.first sources.second) [
        | yes e ↦ ap (at (sown none sources)) e ∙ sown-second
        | no ne ↦ rw (get_or-set_other, get_or-set_same)
      ]

  sown-other : (v : ℕ) → v ≢ sources.first → v ≢ sources.second → at (sown none sources) v ≡ 0
  sown-other v nf ns = simp get_or-set_other (b.empty v)

  -- a vertex is a source, or it has no number
  sown-cases : (v : ℕ) → ((v ≡ sources.first) ⊎ (v ≡ sources.second)) ⊎ (at (sown none sources) v ≡ 0)
  sown-cases v = elim (ℕ_discrete v sources.first) [
    | yes e ↦ inl (inl e)
    | no nf ↦ elim (ℕ_discrete v sources.second) [ yes e ↦ inl (inr e) | no ns ↦ inr (sown-other v nf ns) ]
  ]

  sown-low : (v : ℕ) → at (sown none sources) v ≤ 1
  sown-low v =
      ⊎_elim
      (⊎_elim
      (λ e. let a = ap (at (sown none sources)) e in omega (arith, sown-first))
      (λ e. let a = ap (at (sown none sources)) e in omega (arith, sown-second)))
      (λ e. omega arith)
      (sown-cases v)

  sown-counted : 1 ≤ reached_count (sown none sources)
  unfolding reached_count
  sown-counted =
      let one = ap (λ n. bit (positive n)) sown-second in
      omega (arith, term-le vertex_limit (λ v. bit (reached (sown none sources) v)) sources.second b.second_vertex)

  pub sown-tree : (ends residual trail : List ℕ) → length trail ≡ vertex_limit + 1
      → Tree ends residual (record { order = sown none sources; trail = trail; clock = 1 })
  sown-tree ends residual trail lt = record {
    long_order = simp length-set b.long;
    long_trail = lt;
    begun = omega arith;
    counted = sown-counted;
    numbered = sown-low;
    link = λ v h. absurd (omega (arith, sown-low v));
  }

  -- a side with the sources in has every vertex of number 1 in
  sown-in : (S : Side) → S sources.first ≡ true → S sources.second ≡ true
      → (v : ℕ) → at (sown none sources) v ≡ 1 → S v ≡ true
  sown-in S first second v h =
      ⊎_elim (⊎_elim (λ e. ap S e ∙ first) (λ e. ap S e ∙ second)) (λ e. absurd (omega arith)) (sown-cases v)

  module _ {ends residual trail : List ℕ} {sinks : Pair} {found : Option ℕ} {s' : Search}
      (s : Searched ends residual sinks (record { order = sown none sources; trail = trail; clock = 1 }) s' found) where
    arrived : {v : ℕ} → found ≡ Some v → Arrived sinks s'.order v
    unfolding Ends
    arrived e = rw e at s.ending

    pub sendable : {v : ℕ} → found ≡ Some v → Balanced residual → Sendable ends residual s' v
    sendable e balanced =
        record {
          vertex = (arrived e).vertex;
          is_reached = (arrived e).is_reached;
          balanced = balanced;
          tree = s.grown.tree;
        }

    -- a sink was reached: a side between the terminals has the path's start in and its end out, and passes one less
    pub round-sent : {v : ℕ} {residual' : List ℕ} → found ≡ Some v → Sent ends s'.order v residual residual'
        → Rounded ends sources sinks residual residual' true
    round-sent {v} e sent = record {
      balanced = sent.balanced;
      more = λ _ S cut.
          let spent = sent.spent S (λ u h. sown-in S cut.first_in cut.second_in u (s.grown.root u h)) in
          let out : S v ≡ false =
          ⊎_elim (λ q. ap S q ∙ cut.first_out) (λ q. ap S q ∙ cut.second_out) (arrived e).is_sink in
          let none_in = ap bit out in
          omega arith;
      full = λ q. never (sym q);
    }

    stuck : found ≡ None → Stuck ends residual sinks s'.order
    unfolding Ends
    stuck e = rw e at s.ending

    -- no sink was reached: what is reached is a side between the terminals that can pass nothing
    pub round-full : found ≡ None → Balanced residual → Rounded ends sources sinks residual residual false
    round-full e balanced = record {
      balanced = balanced;
      more = λ q. never q;
      full = λ _. (
        reached s'.order,
        record {
          first_in = positive-yes _ (s.grown.kept sources.first (omega (arith, sown-first)));
          second_in = positive-yes _ (s.grown.kept sources.second (omega (arith, sown-second)));
          first_out = ap positive (stuck e).first_missed;
          second_out = ap positive (stuck e).second_missed;
        },
        shut-full ends residual s'.order (stuck e).shut,
      );
    }

-- so many units were sent: what every side between the terminals
-- could pass at the start is that much more than it can pass now
pub record SentSoFar (ends : List ℕ) (sources sinks : Pair) (residual : List ℕ) (sent : ℕ) : Type 0 where
  pub balanced : Balanced residual
  pub passed : (g : Network) → Laid g ends → (S : Side) → Between sources sinks S
      → capacity ends residual S + sent ≡ crossings g S

module _ {ends : List ℕ} {sources sinks : Pair} {residual : List ℕ} {sent : ℕ}
    (so_far : SentSoFar ends sources sinks residual sent) where
  pub sent-on : {residual' : List ℕ} {more : Bool} → more ≡ true
      → Rounded ends sources sinks residual residual' more
      → SentSoFar ends sources sinks residual' (sent + 1)
  sent-on e r = record {
    balanced = r.balanced;
    passed = λ g l S b. omega (arith, so_far.passed g l S b, r.more e S b);
  }

  -- a round that sends nothing finds a side that too few edges cross: as many as were sent, since it passes no more
  pub sent-short : {residual' : List ℕ} {more : Bool} → sent < 4 → more ≡ false
      → Rounded ends sources sinks residual residual' more
      → (g : Network) → Laid g ends → FourApart g sources sinks → ⊥
  sent-short lt e r g l apart =
      let cut = r.full e in
      omega (arith, cut.2, so_far.passed g l cut.0 cut.1, apart cut.0 cut.1)

  -- after four units every side between the terminals is crossed by four edges and by as many as it can still pass
  pub sent-four : 4 ≤ sent → (g : Network) → Laid g ends → FourApart g sources sinks
  sent-four le g l S b = omega (arith, so_far.passed g l S b)

-- the same of at most four units, which are as many as are asked for
pub record Level (ends : List ℕ) (sources sinks : Pair) (residual : List ℕ) (sent : ℕ) : Type 0 where
  pub few : sent ≤ 4
  pub balanced : Balanced residual
  pub passed : (g : Network) → Laid g ends → (S : Side) → Between sources sinks S
      → capacity ends residual S + sent ≡ crossings g S

pub level-none : (ends : List ℕ) (sources sinks : Pair) → Level ends sources sinks ones 0
level-none ends sources sinks = record {
  few = omega arith;
  balanced = balanced-ones;
  passed = λ g l S b. omega (arith, capacity-ones l S);
}

module _ {ends : List ℕ} {sources sinks : Pair} {residual : List ℕ} {sent : ℕ}
    (level : Level ends sources sinks residual sent) where
  -- so all that holds of units that were sent holds of these
  pub level-sent : SentSoFar ends sources sinks residual sent
  level-sent = record { balanced = level.balanced; passed = level.passed }

  pub level-on : {residual' : List ℕ} {more : Bool} → sent < 4 → more ≡ true
      → Rounded ends sources sinks residual residual' more
      → Level ends sources sinks residual' (sent + 1)
  level-on lt e r =
      let on = sent-on level-sent e r in
      record { few = omega arith; balanced = on.balanced; passed = on.passed }

  pub level-short : {residual' : List ℕ} {more : Bool} → sent < 4 → more ≡ false
      → Rounded ends sources sinks residual residual' more
      → (g : Network) → Laid g ends → FourApart g sources sinks → ⊥
  level-short = sent-short level-sent

  pub level-four : 4 ≤ sent → (g : Network) → Laid g ends → FourApart g sources sinks
  level-four = sent-four level-sent
