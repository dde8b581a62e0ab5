-- `rules::judge::judge_at` meets its contract.
use mathlib.Core.Path.{◌≡◌, sym, ◌∙◌}
use mathlib.Core.Bool.{true}
use borrow.Author.Rules.{rules}
use native.Mathlib.Omega.{arith}
use Rattle.std.proofs.Common.{Err, Some, None}
use Rattle.base.specs.Answer.{refusal_of}
use Rattle.base.specs.declared.refusals.Refusal.TheVariants as refusal
use Rattle.graph.specs.Split.{admissible, third}
use Rattle.graph.proofs.Rules.{around}
use Rattle.rules.proofs.Trios.{trio, costed}
use Rattle.rules.proofs.Judging.{Named, partnered, others-found, others-missing, third-other, no-partner-x}
use Rattle.rules.proofs.Judging.{no-partner-y, one-partner, not-admissible-x, not-admissible-y, x-cheaper}
use Rattle.rules.proofs.Judging.{not-given, by-rule}
use Rattle.rules.proofs.judge.judge_at.Goals as goal
use Rattle.rules.proofs.judge.judge_at.Goals.{In_ok-x_low, In_ok-y_low}
use Rattle.rules.proofs.judge.judge_at.Goals.{Else-not-admissible, Else-not-admissible-2, After-other_than}

-- x and y are partners at v, with the others
named-x : (c : In_ok-x_low) → Named c.args.network c.args.v c.args.step.x c.in_ok-x_low.x_low c.in_ok-x_low.x_high
named-x c =
    let others : c.others_than.result ≡ Some (c.in_ok-x_low.x_low, c.in_ok-x_low.x_high) = grind arith in
    others-found c.partners_at-partners.result (trio c.requires.0 c.args.v c.requires.1 c.partners_at-partners.result c.partners_at-partners.ensures) c.args.step.x
    (sym c.others_than.ensures ∙ others)

named-y : (c : In_ok-y_low) → Named c.args.network c.args.v c.args.step.y c.in_ok-y_low.y_low c.in_ok-y_low.y_high
named-y c =
    let others : c.others_than-2.result ≡ Some (c.in_ok-y_low.y_low, c.in_ok-y_low.y_high) = grind arith in
    others-found c.partners_at-partners.result (trio c.requires.0 c.args.v c.requires.1 c.partners_at-partners.result c.partners_at-partners.ensures) c.args.step.y
    (sym c.others_than-2.ensures ∙ others)

-- both are admissible
x-ok : (c : Else-not-admissible) → admissible c.args.network c.args.v c.args.step.x ≡ true
x-ok c = sym c.admissible.ensures ∙ c.if-not-admissible.false

y-ok : (c : Else-not-admissible-2) → admissible c.args.network c.args.v c.args.step.y ≡ true
y-ok c = sym c.admissible-2.ensures ∙ c.if-not-admissible-2.false

pub returns-in_err-x_low : goal.returns-in_err-x_low
unfolding refusal_of
returns-in_err-x_low c =
    let e : c.from_residual.result ≡ Err c.in_err-x_low.field-0.0 = search rules in
    let r : c.in_err-x_low.field-0.0 ≡ refusal.NoPartner = grind arith in
    let none : c.others_than.result ≡ None = grind arith in
    let t = trio c.requires.0 c.args.v c.requires.1 c.partners_at-partners.result c.partners_at-partners.ensures in
    rw (e, r)
    (no-partner-x c.args.network c.args.step c.requires.2 c.requires.1
    (others-missing c.partners_at-partners.result t c.args.step.x (sym c.others_than.ensures ∙ none)))

pub returns-in_err-y_low : goal.returns-in_err-y_low
unfolding refusal_of
returns-in_err-y_low c =
    let e : c.from_residual-in_err-y_low.result ≡ Err c.in_err-y_low.field-0.0 = search rules in
    let r : c.in_err-y_low.field-0.0 ≡ refusal.NoPartner = grind arith in
    let none : c.others_than-2.result ≡ None = grind arith in
    let t = trio c.requires.0 c.args.v c.requires.1 c.partners_at-partners.result c.partners_at-partners.ensures in
    rw (e, r)
    (no-partner-y c.args.network c.args.step c.requires.2 c.requires.1
    (named-x (goal.at.returns-in_err-y_low c).In_ok-x_low).x_in
    (others-missing c.partners_at-partners.result t c.args.step.y (sym c.others_than-2.ensures ∙ none)))

pub returns-then-x-y : goal.returns-then-x-y
unfolding refusal_of
returns-then-x-y c =
    let at = goal.at.returns-then-x-y c in
    one-partner c.args.network c.args.step c.requires.2 c.requires.1 (named-x at.In_ok-x_low).x_in
    (named-y at.In_ok-y_low).x_in c.if-x-y.true

pub admissible-requires : goal.admissible-requires
admissible-requires c = partnered c.requires.0 c.requires.1 (named-x (goal.at.admissible-requires c).In_ok-x_low)

pub returns-then-not-admissible : goal.returns-then-not-admissible
unfolding refusal_of
returns-then-not-admissible c =
    let at = goal.at.returns-then-not-admissible c in
    not-admissible-x c.args.network c.args.step c.requires.2 c.requires.1 (named-x at.In_ok-x_low).x_in
    (named-y at.In_ok-y_low).x_in c.if-x-y.false (sym c.admissible.ensures ∙ c.if-not-admissible.true)

pub admissible-requires-2 : goal.admissible-requires-2
admissible-requires-2 c = partnered c.requires.0 c.requires.1 (named-y (goal.at.admissible-requires-2 c).In_ok-y_low)

pub returns-then-not-admissible-2 : goal.returns-then-not-admissible-2
unfolding refusal_of
returns-then-not-admissible-2 c =
    let at = goal.at.returns-then-not-admissible-2 c in
    not-admissible-y c.args.network c.args.step c.requires.2 c.requires.1 (named-x at.In_ok-x_low).x_in
    (named-y at.In_ok-y_low).x_in c.if-x-y.false (x-ok at.Else-not-admissible)
    (sym c.admissible-2.ensures ∙ c.if-not-admissible-2.true)

pub cheaper-x_cheaper-requires : goal.cheaper-x_cheaper-requires
cheaper-x_cheaper-requires c =
    let at = goal.at.cheaper-x_cheaper-requires c in
    costed c.requires.0 (named-x at.In_ok-x_low).at.four.x< (named-y at.In_ok-y_low).at.four.x<

-- z is the third partner
third-is : (c : After-other_than) → third c.args.network c.args.v c.args.step.x c.args.step.y ≡ c.other_than.result
third-is c =
    let at = goal.at.names_third-z_named-requires c in
    third-other (named-x at.In_ok-x_low) (named-y at.In_ok-y_low).x_in c.if-x-y.false ∙ sym c.other_than.ensures

pub names_third-z_named-requires : goal.names_third-z_named-requires
names_third-z_named-requires c =
    let at = goal.at.names_third-z_named-requires c in
    let f = (around c.requires.0.sound c.requires.0.left c.args.v c.requires.1 c.args.step.x c.args.step.y
    (named-x at.In_ok-x_low).x_in (named-y at.In_ok-y_low).x_in c.if-x-y.false).at.four in
    costed c.requires.0 f.x< (rw (third-is c) at f.z<)

pub returns-then-x_cheaper : goal.returns-then-x_cheaper
unfolding refusal_of
returns-then-x_cheaper c =
    let at = goal.at.returns-then-x_cheaper c in
    x-cheaper c.args.network c.args.step c.requires.2 c.requires.1 (named-x at.In_ok-x_low).x_in
    (named-y at.In_ok-y_low).x_in c.if-x-y.false (x-ok at.Else-not-admissible) (y-ok at.Else-not-admissible-2)
    (sym c.cheaper-x_cheaper.ensures ∙ c.if-x_cheaper.true)

pub returns-then-not-z_named : goal.returns-then-not-z_named
unfolding refusal_of
returns-then-not-z_named c =
    let at = goal.at.returns-then-not-z_named c in
    not-given c.args.network c.args.step c.requires.2 c.requires.1 (named-x at.In_ok-x_low).x_in
    (named-y at.In_ok-y_low).x_in c.if-x-y.false (x-ok at.Else-not-admissible) (y-ok at.Else-not-admissible-2)
    (sym c.cheaper-x_cheaper.ensures ∙ c.if-x_cheaper.false) (third-is at.After-other_than)
    (sym c.names_third-z_named.ensures ∙ c.if-not-z_named.true)

pub returns : goal.returns
unfolding refusal_of
returns c =
    let at = goal.at.returns c in
    by-rule c.args.network c.args.step c.requires.2 c.requires.1 (named-x at.In_ok-x_low).x_in
    (named-y at.In_ok-y_low).x_in c.if-x-y.false (x-ok at.Else-not-admissible) (y-ok at.Else-not-admissible-2)
    (sym c.cheaper-x_cheaper.ensures ∙ c.if-x_cheaper.false) (third-is at.After-other_than)
    (sym c.names_third-z_named.ensures ∙ c.if-not-z_named.false)
