-- The depth-first search for a forest, which goes on at one place at a time.
use Rattle.std.specs.Prelude.{Bool, List, ◌⊎◌, ◌≡◌, ℕ, suc, ◌+◌, ◌-◌, ◌/◌, ◌≤◌, ◌<◌, leb, length, set}
use Rattle.base.specs.Fold.{sum, bit}
use Rattle.base.specs.Limits.{vertex_limit, edge_limit}
use Rattle.connection.specs.Incidence.{end_limit, vertex_of, ListedEnd, Chained}
use Rattle.base.specs.Columns.{at}
use Rattle.forest.specs.Forest.{no_place, Trees, Related}
use Rattle.forest.specs.declared.Forest.{Forest}

-- a forest by its columns and the number of its places
abbrev pub forest : List ℕ → List ℕ → List ℕ → List ℕ → ℕ → Forest
forest number order parent edge count =
    record { number = number; order = order; parent = parent; edge = edge; count = count }

-- vertex v gets the next place, below another one, by an edge
unfoldable pub entered : Forest → ℕ → ℕ → ℕ → Forest
entered t v from by =
    forest (set t.number v t.count) (set t.order t.count v) (set t.parent t.count from)
    (set t.edge t.count by) (t.count + 1)

-- how many vertices have no place yet
unfoldable pub unplaced : Forest → ℕ
unplaced t = sum vertex_limit (λ v. bit (leb no_place (at t.number v)))

-- a subtree that still grows ends behind all places
abbrev pub unfinished : ℕ
unfinished = suc no_place

-- the subtree at place k grows no more, and no end at its vertex is left
pub record Finished (t : Forest) (ahead : List ℕ) (end : ℕ → ℕ) (k : ℕ) : Type 0 where
  pub ended : end k ≤ t.count
  pub exhausted : end_limit ≤ at ahead (at t.order k)

-- it still grows: the search is at a place i in it
pub record Open (t : Forest) (i : ℕ) (end : ℕ → ℕ) (k : ℕ) : Type 0 where
  pub grows : end k ≡ unfinished
  pub above : k ≤ i
  pub some : i < t.count

-- the ends of an edge have places, which are related
pub record Met (low high : List ℕ) (t : Forest) (end : ℕ → ℕ) (e : ℕ) : Type 0 where
  pub low_placed : at t.number (at low e) < t.count
  pub high_placed : at t.number (at high e) < t.count
  pub related : Related end (at t.number (at low e)) (at t.number (at high e))

-- all columns have their lengths
pub record Sized (low high next : List ℕ) (t : Forest) (ahead : List ℕ) : Type 0 where
  pub long_low : length low ≡ edge_limit
  pub long_high : length high ≡ edge_limit
  pub long_next : length next ≡ end_limit
  pub long_number : length t.number ≡ vertex_limit
  pub long_order : length t.order ≡ vertex_limit
  pub long_parent : length t.parent ≡ vertex_limit
  pub long_edge : length t.edge ≡ vertex_limit
  pub long_ahead : length ahead ≡ vertex_limit

-- where a search is: at place i, or between two trees where i is none; `ahead` has the end that is next at each vertex
pub record Course (low high : List ℕ) (K : List Bool) (m : ℕ) (next : List ℕ) (t : Forest) (ahead : List ℕ) (i : ℕ)
    (end : ℕ → ℕ) : Type 0 where
  pub sized : Sized low high next t ahead
  pub few : m ≤ edge_limit
  pub rises : (x : ℕ) → x < end_limit → x < at next x
  -- what is found so far are trees, and there is a place left for each vertex that has none
  pub trees : Trees low high K m t end
  pub room : t.count + unplaced t ≤ vertex_limit
  -- the subtree at place i grows, and each subtree is finished or holds place i
  pub here : i < no_place → (i < t.count) × (end i ≡ unfinished)
  pub turns : (k : ℕ) → k < t.count → Finished t ahead end k ⊎ Open t i end k
  -- what is ahead at a vertex are listed ends there
  pub sound : (v x : ℕ) → v < vertex_limit → Chained next (at ahead v) x → ListedEnd K m x × (vertex_of low high x ≡ v)

-- and what it knows: an edge with an end that is not ahead was met
pub record Searching (low high : List ℕ) (K : List Bool) (m : ℕ) (next : List ℕ) (t : Forest) (ahead : List ℕ) (i : ℕ)
    (end : ℕ → ℕ) : Type 0 where
  pub course : Course low high K m next t ahead i end
  pub passed : (x : ℕ) → ListedEnd K m x
      → Met low high t end (x / 2) ⊎ Chained next (at ahead (vertex_of low high x)) x

-- some list's search is there
abbrev pub Progress : List ℕ → List ℕ → List ℕ → Forest → List ℕ → ℕ → Type 0
Progress low high next t ahead i =
    (K : List Bool) × (m : ℕ) × (end : ℕ → ℕ) × Searching low high K m next t ahead i end

-- the end at a vertex is passed
abbrev pub advanced : List ℕ → List ℕ → ℕ → List ℕ
advanced next ahead v = set ahead v (at next (at ahead v))

-- how many ends can still be passed, or more
unfoldable pub work : List ℕ → ℕ
work ahead = sum vertex_limit (λ v. end_limit - at ahead v)

-- a search goes on, for each list whose search was there: a vertex that has a place keeps one
pub record Grown (low high next : List ℕ) (t : Forest) (ahead : List ℕ) (i : ℕ) (t' : Forest) (ahead' : List ℕ)
    (i' : ℕ) : Type 0 where
  pub keeps : (v : ℕ) → at t.number v < no_place → at t'.number v < no_place
  pub on : (K : List Bool) (m : ℕ) (end : ℕ → ℕ) → Searching low high K m next t ahead i end
      → (end' : ℕ → ℕ) × Searching low high K m next t' ahead' i' end'
