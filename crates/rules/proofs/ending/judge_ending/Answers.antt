-- `rules::ending::judge_ending` meets its contract.
use mathlib.Core.Path.{◌≡◌, sym, ◌∙◌}
use borrow.Author.Rules.{rules}
use native.Mathlib.Omega.{arith}
use Rattle.std.proofs.Common.{Err, Some, None}
use Rattle.base.specs.Answer.{refusal_of}
use Rattle.base.specs.declared.refusals.Refusal.TheVariants as refusal
use Rattle.graph.specs.Network.{low_end}
use Rattle.rules.proofs.Trios.{costed}
use Rattle.rules.proofs.Judging.{Named, others-found, others-missing}
use Rattle.rules.proofs.Ends.{last-trio, none-of-last, cheaper-low, cheaper-high, dearer-two}
use Rattle.rules.proofs.ending.judge_ending.Goals as goal
use Rattle.rules.proofs.ending.judge_ending.Goals.{In_ok-low}

-- d is one of the last three, and these are the others
named : (c : In_ok-low)
    → Named c.args.network (low_end c.args.network c.args.network.reserved) c.args.d c.in_ok-low.low c.in_ok-low.high
named c =
    let found : c.others_than.result ≡ Some (c.in_ok-low.low, c.in_ok-low.high) = grind arith in
    others-found c.last_three-last.result (last-trio c.requires c.last_three-last.result c.last_three-last.ensures)
    c.args.d (sym c.others_than.ensures ∙ found)

pub returns-in_err-low : goal.returns-in_err-low
unfolding refusal_of
returns-in_err-low c =
    let e : c.from_residual.result ≡ Err c.in_err-low.field-0.0 = search rules in
    let r : c.in_err-low.field-0.0 ≡ refusal.NotDearest = grind arith in
    let none : c.others_than.result ≡ None = grind arith in
    rw (e, r)
    (none-of-last c.requires c.args.d
    (others-missing c.last_three-last.result (last-trio c.requires c.last_three-last.result c.last_three-last.ensures)
    c.args.d (sym c.others_than.ensures ∙ none)))

pub cheaper-requires : goal.cheaper-requires
cheaper-requires c = let f = (named c).at.four in costed c.requires.run f.x< f.y<

pub returns-then-cheaper : goal.returns-then-cheaper
unfolding refusal_of
returns-then-cheaper c =
    cheaper-low c.requires c.args.d (named (goal.at.returns-then-cheaper c).In_ok-low)
    (sym c.cheaper.ensures ∙ c.if-cheaper.true)

pub cheaper-requires-2 : goal.cheaper-requires-2
cheaper-requires-2 c =
    let f = (named (goal.at.cheaper-requires-2 c).In_ok-low).at.four in costed c.requires.run f.x< f.z<

pub returns-then-cheaper-2 : goal.returns-then-cheaper-2
unfolding refusal_of
returns-then-cheaper-2 c =
    cheaper-high c.requires c.args.d (named (goal.at.returns-then-cheaper-2 c).In_ok-low)
    (sym c.cheaper-2.ensures ∙ c.if-cheaper-2.true)

pub returns : goal.returns
unfolding refusal_of
returns c =
    dearer-two c.requires c.args.d (named (goal.at.returns c).In_ok-low) (sym c.cheaper.ensures ∙ c.if-cheaper.false)
    (sym c.cheaper-2.ensures ∙ c.if-cheaper-2.false)
