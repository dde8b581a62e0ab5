-- Document 01's district examples: the table of those that it marks.
use Rattle.std.specs.Prelude.{Bool, true, ◌&&◌, List, [], ◌∷◌, ℕ, zero, suc, ℤ, pos, negsuc, replicate}

-- a network's vertices and reserved edge, and the ends and costs of its edges
pub record District : Type 0 where
  pub vertices : ℕ
  pub reserved : ℕ
  pub ends : List (ℕ × ℕ)
  pub costs : List ℤ

abbrev minus : ℕ → ℤ
minus zero = pos 0
minus (suc n) = negsuc n

-- two vertices, at given costs
abbrev two : List ℤ → District
two costs = record { vertices = 2; reserved = 0; ends = replicate 4 (0, 1); costs = costs }

-- the network T that document 01 prints, at given costs
abbrev triangle : List ℤ → District
triangle costs = record
    { vertices = 3; reserved = 0; ends = (0, 1) ∷ (0, 1) ∷ (0, 2) ∷ (0, 2) ∷ (1, 2) ∷ (1, 2) ∷ []; costs = costs }

abbrev pub T : District
T = triangle (pos 7 ∷ pos 4 ∷ pos 1 ∷ pos 2 ∷ pos 6 ∷ pos 3 ∷ [])

abbrev pub square : District
square =
    record {
      vertices = 4;
      reserved = 4;
      ends = (0, 1) ∷ (0, 1) ∷ (2, 3) ∷ (2, 3) ∷ (0, 2) ∷ (1, 3) ∷ (0, 3) ∷ (1, 2) ∷ [];
      costs = pos 2 ∷ pos 5 ∷ pos 1 ∷ pos 4 ∷ pos 9 ∷ pos 3 ∷ pos 6 ∷ pos 2 ∷ [];
    }

-- two triples of parallel edges, and two edges between the halves
abbrev halves : District
halves =
    record {
      vertices = 4;
      reserved = 0;
      ends = (0, 1) ∷ (0, 1) ∷ (0, 1) ∷ (2, 3) ∷ (2, 3) ∷ (2, 3) ∷ (0, 2) ∷ (1, 3) ∷ [];
      costs = replicate 8 (pos 1);
    }

-- vertex 0 has five edges
abbrev uneven : District
uneven = record {
  vertices = 3;
  reserved = 0;
  ends = (0, 1) ∷ (0, 1) ∷ (0, 1) ∷ (0, 2) ∷ (0, 2) ∷ (1, 2) ∷ [];
  costs =
      replicate 6 (pos 1);
}

-- a step: v, x, y, z and z's new cost
abbrev pub Numbers : Type 0
Numbers = ℕ × ℕ × ℕ × ℕ × ℤ

pub data Case : Type 0 where
  -- the planner's steps and dropped edge, the kept edges, their cost and that of all but the reserved
  plans : District → List Numbers → ℕ → List ℕ → ℤ → ℤ → Case
  -- the refusal of a chain on T: one step and a dropped edge
  breaks : Numbers → ℕ → ℕ → Case
  -- the refusal of a network
  refuses : District → ℕ → Case

abbrev pub table : List Case
table =
    plans (two (pos 5 ∷ minus 1 ∷ pos 3 ∷ pos 3 ∷ [])) [] 3 (1 ∷ 2 ∷ []) (pos 2) (pos 5)
    ∷ plans (two (pos 9 ∷ pos 1 ∷ pos 1 ∷ pos 1 ∷ [])) [] 3 (1 ∷ 2 ∷ []) (pos 2) (pos 3)
    ∷ plans (two (pos 0 ∷ minus 4 ∷ minus 4 ∷ minus 6 ∷ [])) [] 2 (1 ∷ 3 ∷ []) (minus 10) (minus 14)
    ∷ plans T ((1, 4, 5, 1, minus 2) ∷ []) 3 (1 ∷ 2 ∷ 5 ∷ []) (pos 8) (pos 16)
    ∷ plans (triangle (pos 7 ∷ pos 40 ∷ pos 1 ∷ pos 2 ∷ pos 6 ∷ pos 3 ∷ [])) ((1, 4, 5, 1, pos 34) ∷ []) 1
    (2 ∷ 3 ∷ 4 ∷ 5 ∷ []) (pos 12) (pos 52)
    ∷ plans (triangle (replicate 6 (pos 1))) ((1, 4, 5, 1, pos 0) ∷ []) 3 (1 ∷ 2 ∷ 5 ∷ []) (pos 3) (pos 5)
    ∷ plans square ((2, 3, 2, 7, minus 2) ∷ (3, 5, 7, 6, pos 3) ∷ []) 1 (0 ∷ 2 ∷ 6 ∷ 7 ∷ []) (pos 11) (pos 23)
    ∷ breaks (2, 4, 5, 1, minus 2) 3 8
    ∷ breaks (1, 4, 0, 1, minus 2) 3 9
    ∷ breaks (1, 1, 5, 4, pos 2) 3 10
    ∷ breaks (1, 5, 4, 1, pos 1) 3 11
    ∷ breaks (1, 4, 5, 1, minus 2) 2 12
    ∷ refuses halves 7
    ∷ refuses uneven 6
    ∷ []

-- and chains that document 01 does not mark: y, parallel to the reserved edge, is not admissible while x is; another
-- edge for z; z's cost before the step, and with c(x) added; x cheaper than y, and a cost that the step does not give
abbrev pub unmarked : List Case
unmarked =
    breaks (1, 4, 1, 5, minus 3) 3 10
    ∷ breaks (1, 4, 5, 2, minus 2) 3 17
    ∷ breaks (1, 4, 5, 1, pos 4) 3 17
    ∷ breaks (1, 4, 5, 1, pos 10) 3 17
    ∷ breaks (1, 5, 4, 1, minus 2) 3 11
    ∷ []

-- whether a test holds of every row
unfoldable pub every : {A : Type 0} → (A → Bool) → List A → Bool
every test [] = true
every test (row ∷ rows) = test row && every test rows
