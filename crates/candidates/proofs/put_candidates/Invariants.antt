-- What the loop of `candidates::put_candidates` keeps.
use lib.ListN.{drop}
use Rattle.base.proofs.Writing.{Written}
use Rattle.candidates.specs.Services.{candidates_costs}
use Rattle.candidates.proofs.put_candidates.Given as goal

abbrev pub invariant-loop-candidate : goal.invariant-loop-candidate
invariant-loop-candidate l =
    Written (candidates_costs l.network l.candidates) (candidates_costs l.network (drop l.candidate-index l.candidates))
    l.initial.costs l.costs l.at
