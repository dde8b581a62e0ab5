-- What the loop of `connection::words::VertexSet::first` keeps: the words passed have no bit set.
use Prim.Native.Nat.{◌+◌, ◌*◌}
use mathlib.Core.Path.{◌≡◌}
use lib.ListN.{drop}
use Rattle.connection.specs.Words.{word_bits, lowest}
use Rattle.connection.proofs.words.VertexSet.first.Given as goal

abbrev pub invariant-loop-i : goal.invariant-loop-i
invariant-loop-i l = lowest l.self.words ≡ word_bits * l.i + lowest (drop l.i l.self.words)
