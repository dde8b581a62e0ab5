-- What the loop of `cuts::every_cut_four` keeps.
use Rattle.cuts.proofs.Anchored.{Tested, Gathered}
use Rattle.cuts.proofs.every_cut_four.Given as goal

abbrev pub invariant-loop-vertex : goal.invariant-loop-vertex
invariant-loop-vertex l =
    Tested l.network.edges l.initial.ends l.network.present l.anchor l.vertex
    × Gathered l.network.edges l.initial.ends l.ends l.network.present l.anchor l.vertex
