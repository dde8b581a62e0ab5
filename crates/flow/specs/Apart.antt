-- Two vertices apart from two others: the cuts between them, and how many edges must cross each.
use Rattle.std.specs.Prelude.{true, false, ◌≡◌, ◌≤◌}
use Rattle.graph.specs.Cut.{Side, crossings}
use Rattle.graph.specs.declared.Network.{Network}
use Rattle.flow.specs.declared.Pair.{Pair}

-- a side with both sources in and both sinks out
pub record Between (sources sinks : Pair) (S : Side) : Type 0 where
  pub first_in : S sources.first ≡ true
  pub second_in : S sources.second ≡ true
  pub first_out : S sinks.first ≡ false
  pub second_out : S sinks.second ≡ false

-- every such side is crossed by at least four edges
abbrev pub FourApart : Network → Pair → Pair → Type 0
FourApart g sources sinks = (S : Side) → Between sources sinks S → 4 ≤ crossings g S
