-- `candidates::put_candidates` meets its contract.
use mathlib.Core.List.{List, ◌++◌}
use Prim.Native.Nat.{ℕ, ◌+◌}
use native.Mathlib.Omega.{arith}
use lib.ListN.{drop, get_or}
use Rattle.base.proofs.Words.{below_at}
use Rattle.base.proofs.Writing.{Written, written_none, written_all, piece-within, piece-room, piece-more}
use Rattle.claim.specs.Condition.{reserving}
use Rattle.candidates.specs.Services.{plan_costs, candidates_costs}
use Rattle.candidates.proofs.Reserving.{reserving-running}
use Rattle.candidates.proofs.Listing.{candidate-left, candidates-end}
use Rattle.candidates.proofs.put_candidates.Goals as goal
use Rattle.candidates.proofs.put_candidates.Goals.{In-loop-candidate}

-- the line that is due, and those behind it
abbrev line : (c : In-loop-candidate) → List ℕ
line c = plan_costs (reserving (get_or c.args.candidates.now c.loop-candidate.candidate-index 0) c.args.network)

abbrev later : (c : In-loop-candidate) → List ℕ
later c = candidates_costs c.args.network (drop (c.loop-candidate.candidate-index + 1) c.args.candidates.now)

line-due : (c : In-loop-candidate) → Written (candidates_costs c.args.network c.args.candidates.now) (line c ++ later c)
    c.args.costs.now c.loop-candidate.costs c.loop-candidate.at
line-due c =
    candidate-left c.args.network c.args.candidates.now c.loop-candidate.candidate-index c.loop-candidate.invariant
    c.loop-candidate-test.true

pub loop-candidate-init : goal.loop-candidate-init
loop-candidate-init c = written_none _ c.args.costs.now c.requires.long

pub put_candidate-at-requires : goal.put_candidate-at-requires
put_candidate-at-requires c =
    let at = (goal.at.put_candidate-at-requires c).In-loop-candidate in
    record {
      running = reserving-running _ (below_at _ c.args.candidates.now c.requires.below _ c.loop-candidate-test.true)
          c.requires.known c.requires.passed;
      long = piece-room _ (line at) (later at) _ _ _ (line-due at);
    }

pub overflow_add-at : goal.overflow_add-at
overflow_add-at c =
    let at = (goal.at.overflow_add-at c).In-loop-candidate in
    omega (arith, c.put_candidate-at.ensures.0, piece-within _ (line at) (later at) _ _ _ (line-due at))

pub loop-candidate-preserved : goal.loop-candidate-preserved
loop-candidate-preserved c =
    let at = (goal.at.loop-candidate-preserved c).In-loop-candidate in
    let e = c.put_candidate-at.ensures in
    piece-more _ (line at) (later at) _ _ _ (line-due at) _ _ e.0 e.1

pub returns : goal.returns
returns c =
    let a = c.args in
    written_all _ _ _ _ _ c.loop-candidate.invariant
    (candidates-end a.network a.candidates.now c.loop-candidate.candidate-index c.loop-candidate-test.false)
