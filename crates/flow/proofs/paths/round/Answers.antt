-- `round` meets its contract: a search from the sources, and a unit sent where it ends at a sink.
use native.Mathlib.Omega.{arith}
use borrow.Author.Rules.{rules}
use lib.ListN.{replicate}
use Rattle.base.specs.Limits.{vertex_limit}
use Rattle.flow.proofs.Rounds.{Blank, blank, sown-tree, sendable, round-sent, round-full}
use Rattle.flow.proofs.paths.round.Goals as goal
use Rattle.flow.proofs.paths.round.Goals.{Start}

-- nothing is reached before the round
start : (c : Start) → Blank (replicate vertex_limit 0) c.args.sources
start c = blank c.args.sources (omega arith) (omega arith)

pub run-requires : goal.run-requires
run-requires c = sown-tree (start (goal.at.run-requires c).Start) _ _ _ (search rules)

pub returns-in_default : goal.returns-in_default
returns-in_default c =
    round-full (start (goal.at.returns-in_default c).Start) c.run.ensures c.in_default.is c.requires

pub augment-requires : goal.augment-requires
augment-requires c = sendable (start (goal.at.augment-requires c).Start) c.run.ensures c.in-Some.is c.requires

pub returns : goal.returns
returns c = round-sent (start (goal.at.returns c).Start) c.run.ensures c.in-Some.is c.augment.ensures
