-- What the loop of `loading::pass::pass_behind` keeps.
use Rattle.loading.proofs.Filling.{Filling}
use Rattle.loading.proofs.pass.pass_behind.Given as goal

abbrev pub invariant-loop-i : goal.invariant-loop-i
invariant-loop-i l =
    Filling l.text l.vertices l.fn.head.reserved l.first l.network l.tally l.place l.i
