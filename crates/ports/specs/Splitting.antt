-- Splitting off a vertex, at its ports.
use Rattle.std.specs.Prelude.{List, ℕ}
use Rattle.base.specs.Columns.{at}
use Rattle.ports.specs.Ports.{plugged, labelled}

-- the far ports of a and b are each other's mates, and so are a and b; one edge joins those, another these
unfoldable pub rejoined : List ℕ → ℕ → ℕ → List ℕ
rejoined mate a b = plugged (plugged mate (at mate a) (at mate b)) a b

unfoldable pub relabelled : List ℕ → List ℕ → ℕ → ℕ → ℕ → ℕ → List ℕ
relabelled mate edge a b kept retired = labelled (labelled edge (at mate a) (at mate b) kept) a b retired

-- the ports once the vertex of r, x, y and z is split off: the edges at r and at z go on, those at x and y retire
abbrev pub split_mates : List ℕ → ℕ → ℕ → ℕ → ℕ → List ℕ
split_mates mate r x y z = rejoined (rejoined mate r x) y z

abbrev pub split_labels : List ℕ → List ℕ → ℕ → ℕ → ℕ → ℕ → List ℕ
split_labels mate edge r x y z =
    relabelled (rejoined mate r x) (relabelled mate edge r x (at edge r) (at edge x)) y z (at edge z) (at edge y)
