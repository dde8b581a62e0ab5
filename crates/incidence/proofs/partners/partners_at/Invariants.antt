-- What the loop of `incidence::partners::partners_at` keeps: the partners among the edges passed.
use mathlib.Core.Path.{◌≡◌}
use Rattle.graph.specs.Split.{is_partner}
use Rattle.incidence.proofs.Picked
use Rattle.incidence.proofs.partners.partners_at.Given as goal

abbrev pub invariant-loop-e : goal.invariant-loop-e
invariant-loop-e l = l.found ≡ Picked.found (is_partner l.network l.v) l.e
