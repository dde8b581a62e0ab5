-- What the loop of `kept_text::put_kept` keeps.
use Prim.Native.Nat.{◌-◌}
use Rattle.base.specs.Fold.{pick}
use Rattle.base.proofs.Writing.{Written}
use Rattle.list_text.specs.Text.{list_text}
use Rattle.kept_text.specs.Text.{is_kept, kept_edges}
use Rattle.kept_text.proofs.put_kept.Given as goal

abbrev pub invariant-loop-edge : goal.invariant-loop-edge
invariant-loop-edge l =
    Written (list_text (kept_edges l.edges l.kept)) (list_text (pick (l.edges - l.edge) l.edge (is_kept l.kept)))
    l.initial.text l.text l.at
