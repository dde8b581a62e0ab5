-- The arcs that start at each vertex, up to four of them, each at a port of its own. They make a search fast: what a
-- search finds does not depend on them.
use Rattle.std.specs.Prelude.{cond, List, ℕ, zero, suc, ◌+◌, ◌*◌, eqb, ltb, set, replicate}
use Rattle.base.specs.Limits.{vertex_limit}
use Rattle.base.specs.Columns.{at}
use Rattle.flow.specs.Arcs.{arc_limit, tail, head}

-- how many ports a vertex has
abbrev pub port_limit : ℕ
port_limit = 4

-- the arcs at the ports, vertex by vertex, and how many ports of each vertex are taken
pub record Wiring : Type 0 where
  pub ports : List ℕ
  pub used : List ℕ

abbrev pub wiring : List ℕ → List ℕ → Wiring
wiring ports used = record { ports = ports; used = used }

-- arc p takes the next port of the vertex where it starts, if one is left; a loop leads nowhere and takes none
unfoldable pub plugged : List ℕ → Wiring → ℕ → Wiring
plugged ends w p =
    let v = tail ends p in
    let port = at w.used v in
    cond (eqb v (head ends p)) w
    (cond (ltb port port_limit) (wiring (set w.ports (port_limit * v + port) p) (set w.used v (port + 1))) w)

-- the first m arcs take ports in turn
unfoldable pub wired : List ℕ → ℕ → Wiring
wired ends zero = wiring (replicate arc_limit 0) (replicate vertex_limit 0)
wired ends (suc m) = plugged ends (wired ends m) m
