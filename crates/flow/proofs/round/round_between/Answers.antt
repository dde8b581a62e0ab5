-- `flow::round::round_between` meets its contract: two searches, and where they meet a unit sent to a sink, which came
-- there from a source.
use mathlib.Core.Bool.{true, false}
use native.Mathlib.Omega.{arith}
use borrow.Author.Rules.{rules}
use Rattle.flow.proofs.Roots.{Roots, root_of, searching, roots-apart}
use Rattle.flow.proofs.Rounding.{rooted-pair, meets-at, meets-nothing, first-sendable, second-sendable}
use Rattle.flow.proofs.Rounding.{between-sent, between-full}
use Rattle.flow.proofs.round.round_between.Goals as goal
use Rattle.flow.proofs.round.round_between.Goals.{After-root_pair-2}

-- the sources are the roots of the first search, and the sinks those of the second
sources : (c : After-root_pair-2) → Roots c.args.mate.now false c.root_pair.new.self 0 (root_of c.args.sources)
sources c =
    let a = c.args in
    rooted-pair a.sources a.search.now.trail (search rules) (omega arith) (omega arith)
    (rw c.begin.ensures at c.root_pair.ensures)

sinks : (c : After-root_pair-2) → Roots c.args.mate.now true c.root_pair-2.new.self 0 (root_of c.args.sinks)
sinks c =
    let a = c.args in
    rooted-pair a.sinks a.back.now.trail (search rules) (omega arith) (omega arith)
    (rw c.begin-2.ensures at c.root_pair-2.ensures)

pub search_between-requires : goal.search_between-requires
search_between-requires c =
    let planted = (goal.at.search_between-requires c).After-root_pair-2 in
    let r = sources planted in
    let s = sinks planted in
    let m = c.requires.0 in
    let b = c.requires.1 in
    (searching r m b, searching s m b, roots-apart c.requires.2 r s)

pub returns-in_default : goal.returns-in_default
returns-in_default c =
    let planted = (goal.at.returns-in_default c).After-root_pair-2 in
    between-full (sources planted) (sinks planted) (meets-nothing c.in_default.is c.search_between.ensures)

pub augment-requires : goal.augment-requires
augment-requires c = first-sendable (meets-at c.in-Some.is c.search_between.ensures)

pub augment-requires-2 : goal.augment-requires-2
augment-requires-2 c = second-sendable (meets-at c.in-Some.is c.search_between.ensures) c.augment.ensures

pub returns : goal.returns
returns c =
    let planted = (goal.at.returns c).After-root_pair-2 in
    between-sent (meets-at c.in-Some.is c.search_between.ensures) c.augment.ensures (sources planted) (sinks planted)
    c.augment-2.ensures
