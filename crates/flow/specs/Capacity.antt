-- What can still be sent through ports. A list `residual` has for each port how many units can leave by it.
use Rattle.std.specs.Prelude.{Bool, true, false, List, ◌≡◌, ℕ, ◌+◌, ◌-◌, ◌≤◌, ◌<◌, length, set}
use Rattle.base.specs.Columns.{at}
use Rattle.base.specs.Fold.{sum}
use Rattle.graph.specs.Cut.{Side}
use Rattle.ports.specs.Ports.{port_limit, vertex_of, far_vertex}

-- what leaves a part by a port that carries c: all of it, if the port is inside and leads outside
unfoldable pub leaving : Bool → Bool → ℕ → ℕ
leaving true true c = 0
leaving true false c = c
leaving false outside c = 0

abbrev pub carried : List ℕ → Side → ℕ → ℕ → ℕ
carried mate S p c = leaving (S (vertex_of p)) (S (far_vertex mate p)) c

-- what all ports together can carry out of a side
unfoldable pub capacity : List ℕ → List ℕ → Side → ℕ
capacity mate residual S = sum port_limit (λ p. carried mate S p (at residual p))

-- the two ports of an edge carry at most two units between them
pub record Balanced (mate residual : List ℕ) : Type 0 where
  pub long : length residual ≡ port_limit
  pub paired : (p : ℕ) → p < port_limit → at residual p + at residual (at mate p) ≤ 2

-- the residual once a unit has left by one port and come in by another: one less by the first, and one more by the second
unfoldable pub pushed : List ℕ → ℕ → ℕ → List ℕ
pushed residual from to = set (set residual from (at residual from - 1)) to (at residual to + 1)
