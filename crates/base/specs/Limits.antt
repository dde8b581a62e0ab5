-- The limits of a network's numbers.
use Rattle.std.specs.Prelude.{Bool, ◌&&◌, ℕ, ◌*◌, ◌-◌, leb, ℤ, pos, negsuc}
use Rattle.std.specs.Int.Signed.{le_z}

-- a network has 2 to 256 vertices
abbrev pub fewest_vertices : ℕ
fewest_vertices = 2

abbrev pub vertex_limit : ℕ
vertex_limit = 256

-- and twice as many edges as vertices
abbrev pub edge_limit : ℕ
edge_limit = 2 * vertex_limit

-- steps go on until the fewest vertices are left
abbrev pub step_limit : ℕ
step_limit = vertex_limit - fewest_vertices

unfoldable pub vertices_ok : ℕ → Bool
vertices_ok n = leb fewest_vertices n && leb n vertex_limit

-- a cost is within the limit on either side
abbrev pub cost_limit : ℕ
cost_limit = 1000000000000

unfoldable pub cost_ok : ℤ → Bool
cost_ok c = le_z (negsuc (cost_limit - 1)) c && le_z c (pos cost_limit)
