-- `list_text::list::parse_list` meets its contract.
use mathlib.Core.Path.{sym, ◌∙◌}
use Prim.Native.Nat.{◌<◌}
use native.Mathlib.Omega.{arith}
use lib.ListN.{length}
use borrow.Author.Rules.{rules}
use Rattle.frame.proofs.Runs.{next-read}
use Rattle.list_text.proofs.Taken.{tested}
use Rattle.list_text.proofs.Reading.{reading-limits, reading-none, reading-broken, reading-unlisted}
use Rattle.list_text.proofs.Reading.{reading-next, reading-all}
use Rattle.list_text.proofs.list.parse_list.Goals as goal

pub returns-then-not-vertices_ok : goal.returns-then-not-vertices_ok
returns-then-not-vertices_ok c = reading-limits _ _ _ (sym c.vertices_ok.ensures ∙ c.if-not-vertices_ok.true)

pub loop-at-init : goal.loop-at-init
loop-at-init c = reading-none _ _ _ (sym c.vertices_ok.ensures ∙ c.if-not-vertices_ok.false)

pub returns-in_default : goal.returns-in_default
returns-in_default c = reading-broken c.loop-at.invariant c.loop-at-test.true c.in_default.ensures

pub returns-then-not-may_follow : goal.returns-then-not-may_follow
returns-then-not-may_follow c =
    reading-unlisted c.loop-at.invariant (next-read _ _ _ _ _ c.in-Ok.ensures) c.of-edge.ensures
    (sym c.may_follow.ensures ∙ c.if-not-may_follow.true)

pub loop-at-smaller : goal.loop-at-smaller
loop-at-smaller c =
    let line = next-read _ _ _ _ _ c.in-Ok.ensures in
    omega (arith, line.later, line.within)

pub loop-at-preserved : goal.loop-at-preserved
loop-at-preserved c =
    let w = c.loop-at.invariant in
    let follows = tested w.known _ _ c.may_follow.ensures c.if-not-may_follow.false in
    let room : c.loop-at.count < length c.args.edges.now =
    omega (arith, w.few, w.known.few, follows.above, follows.inside, c.requires) in
    reading-next w (next-read _ _ _ _ _ c.in-Ok.ensures) c.of-edge.ensures follows room

pub returns : goal.returns
returns c = reading-all c.loop-at.invariant (search rules)
