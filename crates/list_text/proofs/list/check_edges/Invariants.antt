-- What the loop of `list_text::list::check_edges` keeps.
use mathlib.Core.List.{map}
use Prim.Native.Nat.{◌≤◌}
use lib.ListN.{take, drop}
use Rattle.base.specs.Limits.{vertex_limit}
use Rattle.frame.specs.Frames.{listed}
use Rattle.list_text.specs.Text.{frame_of, list_in}
use Rattle.list_text.proofs.Taken.{Taken}
use Rattle.list_text.proofs.list.check_edges.Given as goal

abbrev pub invariant-loop-number : goal.invariant-loop-number
invariant-loop-number l =
    (l.vertices ≤ vertex_limit)
    × Taken l.vertices (list_in l.vertices (listed (map frame_of l.edges))) (take l.number-index l.edges) l.number-index
    l.least (listed (map frame_of (drop l.number-index l.edges)))
