-- `flow::round::round_to` meets its contract: a search from the vertex, and a unit sent where it comes to a marked one.
use mathlib.Core.Bool.{false}
use native.Mathlib.Omega.{arith}
use borrow.Author.Rules.{rules}
use Rattle.flow.proofs.Roots.{Roots, searching}
use Rattle.flow.proofs.Rounding.{rooted-one, one-apart, finds-at, finds-nothing, to-sendable, to-sent, to-full}
use Rattle.flow.proofs.round.round_to.Goals as goal
use Rattle.flow.proofs.round.round_to.Goals.{After-root}

-- the vertex is the only root
only-root : (c : After-root) → Roots c.args.mate.now false c.root.new.self 1 (λ _. c.args.source)
only-root c = rooted-one c.args.search.now.trail (search rules) (omega arith) (rw c.begin.ensures at c.root.ensures)

pub search_to-requires : goal.search_to-requires
search_to-requires c =
    let r = only-root (goal.at.search_to-requires c).After-root in
    (searching r c.requires.0 c.requires.1, one-apart c.args.marks.now r c.requires.2)

pub returns-in_default : goal.returns-in_default
returns-in_default c =
    let over = finds-nothing c.in_default.is c.search_to.ensures in
    to-full (only-root (goal.at.returns-in_default c).After-root) c.requires.1 over

pub augment-requires : goal.augment-requires
augment-requires c =
    to-sendable (only-root (goal.at.augment-requires c).After-root) (finds-at c.in-Some.is c.search_to.ensures)

pub returns : goal.returns
returns c =
    let met = finds-at c.in-Some.is c.search_to.ensures in
    to-sent (only-root (goal.at.returns c).After-root) met c.augment.ensures
