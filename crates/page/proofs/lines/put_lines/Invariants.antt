-- What the loop of `page::lines::put_lines` keeps.
use Prim.Native.Nat.{◌-◌}
use Rattle.base.specs.Fold.{pick}
use Rattle.base.proofs.Writing.{Written}
use Rattle.kept_text.specs.Text.{is_kept, kept_edges}
use Rattle.page.specs.Page.{edge_lines}
use Rattle.page.proofs.lines.put_lines.Given as goal

abbrev pub invariant-loop-edge : goal.invariant-loop-edge
invariant-loop-edge l =
    Written (edge_lines l.network (kept_edges l.network.edges l.listed))
    (edge_lines l.network (pick (l.network.edges - l.edge) l.edge (is_kept l.listed))) l.initial.page l.page l.at
