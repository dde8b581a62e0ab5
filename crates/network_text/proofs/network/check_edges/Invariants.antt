-- What the loop of `network_text::network::check_edges` keeps.
use Rattle.network_text.proofs.Checking.{Checking}
use Rattle.network_text.proofs.network.check_edges.Given as goal

abbrev pub invariant-loop-i : goal.invariant-loop-i
invariant-loop-i l = Checking l.vertices l.low l.high l.cost l.i
