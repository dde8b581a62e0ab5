-- `rules::choice::ordered` meets its contract.
use mathlib.Core.Path.{sym, ◌∙◌}
use Rattle.rules.proofs.choice.ordered.Goals as goal

pub returns-then-cheaper : goal.returns-then-cheaper
returns-then-cheaper c = rw (sym c.cheaper.ensures ∙ c.if-cheaper.true) c.step_with.ensures

pub returns : goal.returns
returns c = rw (sym c.cheaper.ensures ∙ c.if-cheaper.false) c.step_with-2.ensures
