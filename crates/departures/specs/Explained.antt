-- What is owed of the reasons of a chain, said of any account of how each edge leaves: of the definition, and of the
-- lines of a text.
use Rattle.std.specs.Prelude.{Bool, true, ◌&&◌, ◌||◌, List, ◌∷◌, ◌↔◌, ◌⊎◌, ◌≡◌, ℕ, suc, ◌+◌, ◌≤◌, ◌<◌, eqb}
use Rattle.base.specs.Fold.{sum, bit}
use Rattle.base.specs.Limits.{fewest_vertices}
use Rattle.graph.specs.Network.{kept}
use Rattle.graph.specs.declared.Network.{Network}
use Rattle.graph.specs.declared.Step.{Step}
use Rattle.departures.specs.Departures.{RESERVED_EDGE, KEPT_AS_Y, KEPT_AS_X, OUT_AS_X, KEPT_LAST, DROPPED_LAST}
use Rattle.departures.specs.Departures.{FIRST_STEP, Departure, keeps}

-- how many numbers below n pass a test
abbrev pub how_many : ℕ → (ℕ → Bool) → ℕ
how_many n p = sum n (λ e. bit (p e))

-- whether edge e leaves by a rule
abbrev pub leaves_by : (ℕ → Departure) → ℕ → ℕ → Bool
leaves_by how rule e = eqb (how e).rule rule

-- whether it leaves as y, or as x, of the step with the number k
abbrev pub leaves_as_y : (ℕ → Departure) → ℕ → ℕ → Bool
leaves_as_y how k e = leaves_by how KEPT_AS_Y e && eqb (how e).step k

abbrev pub leaves_as_x : (ℕ → Departure) → ℕ → ℕ → Bool
leaves_as_x how k e = (leaves_by how KEPT_AS_X e || leaves_by how OUT_AS_X e) && eqb (how e).step k

-- t is the step with the number k, where the first step has the number j
pub data Numbered : ℕ → List Step → ℕ → Step → Type 0 where
  first : {k : ℕ} {t : Step} {ts : List Step} → Numbered k (t ∷ ts) k t
  later : {j k : ℕ} {s t : Step} {ts : List Step} → Numbered (suc j) ts k t → Numbered j (s ∷ ts) k t

-- an account of how the edges of g leave in a chain, with steps ts, an ending that drops d, and the kept marks K
pub record Explained (g : Network) (ts : List Step) (d : ℕ) (K : List Bool) (how : ℕ → Departure) : Type 0 where
  -- 'Every cable has one rule', which is one of the six,
  pub ruled : (e : ℕ) → e < g.edges → (how e).rule ≤ DROPPED_LAST
  -- 'and the kept ones are exactly those with 1, 2 or 4'
  pub exactly : (e : ℕ) → e < g.edges → keeps (how e).rule ≡ kept K e
  -- 'Rule 0 is the reserved cable', and no other edge has it
  pub reserved : (how g.reserved).rule ≡ RESERVED_EDGE
  pub one_reserved : how_many g.edges (leaves_by how RESERVED_EDGE) ≡ 1
  -- '5 dropped at the ending' is the edge that the chain drops, and no other has it
  pub dropped : (how d).rule ≡ DROPPED_LAST
  pub one_dropped : how_many g.edges (leaves_by how DROPPED_LAST) ≡ 1
  -- '4 kept at the ending': two edges
  pub two_last : how_many g.edges (leaves_by how KEPT_LAST) ≡ 2
  -- 'Step is 0 for rules 0, 4 and 5', and for these alone
  pub no_step : (e : ℕ) → e < g.edges
      → ((how e).step ≡ 0) ↔ (((how e).rule ≡ RESERVED_EDGE) ⊎ ((how e).rule ≡ KEPT_LAST) ⊎ ((how e).rule ≡ DROPPED_LAST))
  -- what a step names as y and x leaves as these, with the step's number
  pub y_leaves : {k : ℕ} {t : Step} → Numbered FIRST_STEP ts k t → leaves_as_y how k t.y ≡ true
  pub x_leaves : {k : ℕ} {t : Step} → Numbered FIRST_STEP ts k t → leaves_as_x how k t.x ≡ true
  -- so that each number from 1 to n - 2 stands at exactly one y and one x
  pub one_y : (k : ℕ) → FIRST_STEP ≤ k → k + fewest_vertices ≤ g.vertices
      → how_many g.edges (leaves_as_y how k) ≡ 1
  pub one_x : (k : ℕ) → FIRST_STEP ≤ k → k + fewest_vertices ≤ g.vertices
      → how_many g.edges (leaves_as_x how k) ≡ 1
