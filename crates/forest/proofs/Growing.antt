-- A search goes on, turn by turn, for every list whose search it may be; and how it begins.
use mathlib.Core.Path.{◌≡◌, refl}
use mathlib.Core.Bool.{Bool, cond}
use mathlib.Core.List.{List}
use mathlib.Core.Logic.{inr}
use Prim.Native.Nat.{ℕ, suc, ◌/◌, ◌≤◌, ◌<◌}
use native.Mathlib.Omega.{arith}
use native.Mathlib.Decide.{dec_lt}
use borrow.Author.Tests.{lt-ltb, le-ltb}
use lib.Dec.{leb, ltb}
use lib.ListN.{length, replicate, length-replicate, get_or-replicate}
use Rattle.base.specs.Fold.{bit}
use Rattle.base.specs.Limits.{vertex_limit, edge_limit}
use Rattle.base.proofs.Bools.{bit-low}
use Rattle.base.proofs.Sums.{sum_bound}
use Rattle.graph.specs.declared.Network.{Network}
use Rattle.connection.specs.Incidence.{end_limit, far_vertex_of, incidence, Chains}
use Rattle.connection.specs.Searchable.{Searchable}
use Rattle.connection.proofs.Tabling.{incidence-chains}
use Rattle.connection.specs.declared.ends.Incidence.{Incidence}
use Rattle.base.specs.Columns.{at}
use Rattle.forest.specs.Forest.{no_place, DepthFirst}
use Rattle.forest.specs.Search.{forest, entered, unplaced, Sized, Searching, Progress, advanced, work, Grown}
use Rattle.forest.specs.declared.Forest.{Forest}
use Rattle.forest.proofs.Entering.{number-new}
use Rattle.forest.proofs.Passing.{less, passed-known, passed-new, place-free, new-keeps}
use Rattle.forest.proofs.Finishing.{finished, root-place, root-entered, root-keeps, search-over}

-- ── how far a place is from the end of its tree's search ──

pub rank : ℕ → ℕ
rank i = cond (ltb i no_place) (suc i) 0

rank-place : (i : ℕ) → i < no_place → rank i ≡ suc i
unfolding rank
rank-place i l = rw (lt-ltb _ _ l)

rank-none : (i : ℕ) → no_place ≤ i → rank i ≡ 0
unfolding rank
rank-none i l = rw (le-ltb _ _ l)

pub rank_most : (i : ℕ) → rank i ≤ no_place
rank_most i = elim (dec_lt i no_place) [
  | yes l ↦ omega (arith, rank-place i l)
  | no l ↦ omega (arith, rank-none i (omega arith))
]

-- ── one search after another ──

module _ {low high next : List ℕ} {t : Forest} {ahead : List ℕ} {i : ℕ} where
  module _ {t' : Forest} {ahead' : List ℕ} {i' : ℕ} (g : Grown low high next t ahead i t' ahead' i') where
    pub grown-on : {t'' : Forest} {ahead'' : List ℕ} {i'' : ℕ} → Grown low high next t' ahead' i' t'' ahead'' i''
        → Grown low high next t ahead i t'' ahead'' i''
    grown-on h = record {
      keeps = λ v l. h.keeps v (g.keeps v l);
      on = λ K m end w. let (end', w') = g.on K m end w in h.on K m end' w';
    }

    pub progress-on : Progress low high next t ahead i → Progress low high next t' ahead' i'
    progress-on (K, m, end, w) = let (end', w') = g.on K m end w in (K, m, end', w')

  -- ── a turn at a place ──

  module _ (p : Progress low high next t ahead i) (place : i < no_place) where
    abbrev v : ℕ
    v = at t.order i

    pub parent-less : rank (at t.parent i) < rank i
    parent-less =
        let course = p.3.course in
        elim (dec_lt (at t.parent i) no_place) [
          | yes l ↦
              let earlier = (course.trees.tree i (course.here place).0 l).earlier in
              omega (arith, rank-place i place, rank-place _ l)
          | no l ↦ omega (arith, rank-place i place, rank-none (at t.parent i) (omega arith))
        ]

    -- no end is left there
    pub grown-finished : end_limit ≤ at ahead v → Grown low high next t ahead i t ahead (at t.parent i)
    grown-finished none = record { keeps = λ v l. l; on = λ K m end w. (_, finished w place none) }

    -- the next end is passed
    module _ (some : at ahead v < end_limit) where
      pub turn-less : work (advanced next ahead v) < work ahead
      turn-less = less p.3 place some

      -- and a vertex is met behind it
      module _ {met : ℕ} (far : met ≡ far_vertex_of low high (at ahead v)) (vertex : met < vertex_limit) where
        pub grown-known : at t.number met < no_place → Grown low high next t ahead i t (advanced next ahead v) i
        grown-known old = record {
          keeps = λ v l. l;
          on = λ K m end w. (end, passed-known w place some (rw far at vertex) (rw far at old));
        }

        module _ (new : no_place ≤ at t.number met) where
          pub new-place : t.count < vertex_limit
          new-place = place-free p.3 place some (rw far at vertex) (rw far at new)

          pub grown-new : Grown low high next t ahead i (entered t met i (at ahead v / 2)) (advanced next ahead v)
              t.count
          grown-new = rw far (record {
            keeps = new-keeps p.3 place some (rw far at vertex) (rw far at new);
            on = λ K m end w. (_, passed-new w place some (rw far at vertex) (rw far at new));
          })

-- ── a tree is planted ──

module _ {low high next : List ℕ} {t : Forest} {ahead : List ℕ} (p : Progress low high next t ahead no_place) (v : ℕ)
    (vertex : v < vertex_limit) (new : no_place ≤ at t.number v) where
  pub free-place : t.count < vertex_limit
  free-place = root-place p.3 v vertex new

  pub root-placed : at (entered t v no_place edge_limit).number v < no_place
  root-placed =
      rw (number-new t v no_place edge_limit (omega (arith, p.3.course.sized.long_number, vertex))) free-place

  pub grown-root : Grown low high next t ahead no_place (entered t v no_place edge_limit) ahead t.count
  grown-root = record {
    keeps = root-keeps p.3 v vertex new;
    on = λ K m end w. (_, root-entered w v vertex new);
  }

-- ── the beginning ──

pub search-begun : {low high : List ℕ} {K : List Bool} {m : ℕ} (table : Incidence) (t : Forest)
    → Chains low high K m table → m ≤ edge_limit → Sized low high table.next t table.first → t.count ≡ 0
    → ((v : ℕ) → v < vertex_limit → no_place ≤ at t.number v)
    → Searching low high K m table.next t table.first no_place (λ k. 0)
unfolding unplaced
search-begun table t chains few sized none new = record {
  course = record {
    sized = sized;
    few = few;
    rises = chains.rises;
    trees = record {
      placed = λ v l h. absurd (omega (arith, new v l));
      holds = λ k l. absurd (omega arith);
      tree = λ k l. absurd (omega arith);
      root = λ k l. absurd (omega arith);
      own = λ k l. absurd (omega arith);
      parents = λ i k b l. absurd (omega arith);
      children = λ k l. absurd (omega arith);
      nested = λ i k b l. absurd (omega arith);
    };
    room = omega (arith, sum_bound vertex_limit 1 (λ v. bit (free v)) (λ v l. bit-low (free v)));
    here = λ l. absurd (omega arith);
    turns = λ k l. absurd (omega arith);
    sound = chains.sound;
  };
  passed = λ x d. inr (chains.whole x d);
}
  where
    free : ℕ → Bool
    free v = leb no_place (at t.number v)

-- a forest that has no place yet
abbrev pub empty : Forest
empty =
    forest (replicate vertex_limit no_place) (replicate vertex_limit 0) (replicate vertex_limit no_place)
    (replicate vertex_limit edge_limit) 0

-- the columns of a network and of a table of its edges' ends have their lengths
pub record Long (g : Network) (table : Incidence) : Type 0 where
  pub low : length g.low ≡ edge_limit
  pub high : length g.high ≡ edge_limit
  pub present : length g.present ≡ vertex_limit
  pub first : length table.first ≡ vertex_limit
  pub next : length table.next ≡ end_limit

module _ {g : Network} {table : Incidence} (w : Searchable g) (long : Long g table) where
  few-vertices : g.vertices ≤ vertex_limit
  few-vertices = omega (arith, w.present_room, long.present)

  module _ {K : List Bool} (is : table ≡ incidence g K) where
    -- the search begins
    pub search-opened : Searching g.low g.high K g.edges table.next empty table.first no_place (λ k. 0)
    search-opened = search-begun table empty chains few-edges sized refl new
      where
        few-edges : g.edges ≤ edge_limit
        few-edges = omega (arith, w.low_room, long.low)

        chains : Chains g.low g.high K g.edges table
        chains = rw is (incidence-chains g K w few-vertices few-edges)

        sized : Sized g.low g.high table.next empty table.first
        sized = record {
          long_low = long.low;
          long_high = long.high;
          long_next = long.next;
          long_number = length-replicate vertex_limit no_place;
          long_order = length-replicate {A = ℕ} vertex_limit 0;
          long_parent = length-replicate vertex_limit no_place;
          long_edge = length-replicate vertex_limit edge_limit;
          long_ahead = long.first;
        }

        new : (v : ℕ) → v < vertex_limit → no_place ≤ at empty.number v
        new v l = rw (get_or-replicate vertex_limit v no_place 0 l) (omega arith)

    -- and once each vertex has a place, the forest is a depth-first one
    pub search-ended : {t : Forest} {ahead : List ℕ}
        → Grown g.low g.high table.next empty table.first no_place t ahead no_place
        → ((v : ℕ) → v < g.vertices → at t.number v < no_place) → DepthFirst g.low g.high K g.edges g.vertices t
    search-ended grown all =
        search-over (grown.on K g.edges (λ k. 0) search-opened).1 g.vertices few-vertices all w.low_below
