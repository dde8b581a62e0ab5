-- What the loop of `list_text::list::put_list` keeps.
use lib.ListN.{drop}
use Rattle.base.proofs.Writing.{Written}
use Rattle.list_text.specs.Text.{list_text}
use Rattle.list_text.proofs.list.put_list.Given as goal

abbrev pub invariant-loop-edge : goal.invariant-loop-edge
invariant-loop-edge l =
    Written (list_text l.fn.edges) (list_text (drop l.edge-index l.edges)) l.initial.text l.text l.at
