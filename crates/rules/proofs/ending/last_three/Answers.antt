-- `rules::ending::last_three` meets its contract.
use mathlib.Core.Path.{sym, ◌∙◌, ap}
use Rattle.incidence.specs.Partners.{first_three}
use Rattle.rules.proofs.Ends.{last-three}
use Rattle.rules.proofs.ending.last_three.Goals as goal

pub returns : goal.returns
returns c = c.partners_at.ensures ∙ ap first_three (sym (last-three c.requires))
