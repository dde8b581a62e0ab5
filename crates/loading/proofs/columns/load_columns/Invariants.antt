-- What the loop of `loading::columns::load_columns` keeps.
use Rattle.network_text.specs.Text.{meant}
use Rattle.loading.proofs.Filling.{Stored}
use Rattle.loading.proofs.columns.load_columns.Given as goal

abbrev pub invariant-loop-i : goal.invariant-loop-i
invariant-loop-i l =
    Stored (meant l.vertices l.reserved l.low l.high l.cost) l.network l.degrees l.i
