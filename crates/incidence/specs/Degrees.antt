-- A tally of degrees, edge by edge.
use Rattle.std.specs.Prelude.{List, ℕ, ◌+◌, get_or, set}
use Rattle.base.specs.Fold.{sum, tabulate}
use Rattle.base.specs.Limits.{vertex_limit}
use Rattle.graph.specs.Network.{ends_at, degree}
use Rattle.graph.specs.declared.Network.{Network}

-- the degree of each vertex
abbrev pub degrees_of : Network → List ℕ
degrees_of g = tabulate vertex_limit (degree g)

-- the degree of each vertex among the first k edges
unfoldable pub degrees_among : Network → ℕ → List ℕ
degrees_among g k = tabulate vertex_limit (λ v. sum k (ends_at g v))

-- a tally with one more end at v
abbrev pub end_counted : List ℕ → ℕ → List ℕ
end_counted tally v = set tally v (get_or tally v 0 + 1)
