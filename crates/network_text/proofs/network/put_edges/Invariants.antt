-- What the loop of `network_text::network::put_edges` keeps.
use lib.ListN.{drop}
use Rattle.base.proofs.Writing.{Written}
use Rattle.network_text.specs.Text.{edges_in, edges_text}
use Rattle.network_text.proofs.network.put_edges.Given as goal

abbrev pub invariant-loop-place : goal.invariant-loop-place
invariant-loop-place l =
    Written (edges_text (edges_in 0 l.low l.high l.cost))
    (edges_text (edges_in l.place (drop l.place l.low) (drop l.place l.high) (drop l.place l.cost))) l.initial.out l.out l.at
