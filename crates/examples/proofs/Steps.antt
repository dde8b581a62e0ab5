-- The steps of the examples: what each split needs.
use Prim.Native.Nat.{ℕ, ◌^◌}
use lib.Dec.{T, leb, ltb, lit<, lit≤}
use Rattle.base.specs.Fold.{fold}
use Rattle.graph.specs.Network.{far}
use Rattle.graph.specs.Split.{split}
use Rattle.graph.specs.Sound.{weight}
use Rattle.base.specs.Limits.{edge_limit}
use Rattle.graph.specs.State.{Splittable}
use Rattle.graph.specs.declared.Network.{Network}
use Rattle.examples.specs.District.{network, triangle, square}

-- the network that the first step of the square leaves
abbrev square-middle : Network
square-middle = split square 2 3 2 7

-- of a network that is written out, each part is a test that computes
splits : (g : Network) (x y z : ℕ)
    → T (ltb 0 g.remaining) → T (leb g.edges edge_limit) → T (ltb g.reserved g.edges)
    → T (ltb x g.edges) → T (ltb y g.edges) → T (ltb z g.edges) → T (ltb (weight g) (2 ^ 62))
    → Splittable g x y z
splits g x y z left room reserved x_edge y_edge z_edge light =
    record {
      left = lit< left;
      room = lit≤ room;
      reserved_edge = lit< reserved;
      x_edge = lit< x_edge;
      y_edge = lit< y_edge;
      z_edge = lit< z_edge;
      light = lit< light;
    }

pub triangle-step : Splittable triangle 4 5 1
unfolding network weight fold
triangle-step = splits triangle 4 5 1 tt tt tt tt tt tt tt

pub square-step : Splittable square 3 2 7
unfolding network weight fold
square-step = splits square 3 2 7 tt tt tt tt tt tt tt

pub square-next : Splittable square-middle 5 7 6
unfolding network weight fold split far
square-next = splits square-middle 5 7 6 tt tt tt tt tt tt tt
