-- The networks of document 01's district examples, as the program holds them.
use Rattle.std.specs.Prelude.{true, false, List, [], ◌∷◌, ◌++◌, ℕ, ℤ, pos, length, drop, replicate}
use Rattle.base.specs.Limits.{vertex_limit, edge_limit}
use Rattle.graph.specs.declared.Network.{Network}

-- an array of n elements that starts with xs and has d from there on
abbrev pub filled : {A : Type 0} → ℕ → List A → A → List A
filled n xs d = xs ++ drop (length xs) (replicate n d)

-- a network of n vertices that are all present, its reserved edge, and the ends and costs of its edges
unfoldable pub network : ℕ → ℕ → List ℕ → List ℕ → List ℤ → Network
network n r low high cost =
    record {
      low = filled edge_limit low 0;
      high = filled edge_limit high 0;
      cost = filled edge_limit cost (pos 0);
      present = filled vertex_limit (replicate n true) false;
      reserved = r;
      edges = length low;
      vertices = n;
      remaining = n;
    }

-- the network T that document 01 prints
abbrev pub triangle : Network
triangle =
    network 3 0 (0 ∷ 0 ∷ 0 ∷ 0 ∷ 1 ∷ 1 ∷ []) (1 ∷ 1 ∷ 2 ∷ 2 ∷ 2 ∷ 2 ∷ [])
    (pos 7 ∷ pos 4 ∷ pos 1 ∷ pos 2 ∷ pos 6 ∷ pos 3 ∷ [])

-- the district of four vertices
abbrev pub square : Network
square =
    network 4 4 (0 ∷ 0 ∷ 2 ∷ 2 ∷ 0 ∷ 1 ∷ 0 ∷ 1 ∷ []) (1 ∷ 1 ∷ 3 ∷ 3 ∷ 2 ∷ 3 ∷ 3 ∷ 2 ∷ [])
    (pos 2 ∷ pos 5 ∷ pos 1 ∷ pos 4 ∷ pos 9 ∷ pos 3 ∷ pos 6 ∷ pos 2 ∷ [])

-- the network that refusal 6 meets
abbrev pub uneven : Network
uneven = network 3 0 (0 ∷ 0 ∷ 0 ∷ 0 ∷ 0 ∷ 1 ∷ []) (1 ∷ 1 ∷ 1 ∷ 2 ∷ 2 ∷ 2 ∷ []) (replicate 6 (pos 1))
