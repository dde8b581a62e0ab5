-- `rules::judge::names_third` meets its contract: costs are one where their bits are.
use mathlib.Core.Path.{◌∙◌}
use borrow.Author.Rules.{rules}
use borrow.Author.Tests.{eq-eqb, ne_eqb}
use mir.Syntax.{w64}
use mir.Val.{SFits}
use Rattle.graph.proofs.Differences.{difference-small, bits-same}
use Rattle.rules.specs.Judgements.{names}
use Rattle.rules.proofs.judge.names_third.Goals as goal

pub returns-then-z-third : goal.returns-then-z-third
unfolding names
returns-then-z-third c =
    let due-fits : SFits w64 c.cost_after-due.result =
    rw c.cost_after-due.ensures
    (difference-small c.args.network c.requires.light _ _ c.requires.j_edge c.requires.i_edge) in
    let step-fits : SFits w64 c.args.step.cost = search rules in
    bits-same c.args.step.cost c.cost_after-due.result step-fits due-fits
    ∙ rw (eq-eqb _ _ c.if-z-third.true, c.cost_after-due.ensures)

pub returns-else-z-third : goal.returns-else-z-third
unfolding names
returns-else-z-third c = rw (ne_eqb _ _ c.if-z-third.false)
