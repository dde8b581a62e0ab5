-- `tables::check_table` meets its contract.
use mathlib.Core.Path.{◌∙◌, ap}
use Rattle.claim.specs.Services.{acceptance_of}
use Rattle.tables.proofs.Same.{accept-loaded}
use Rattle.tables.proofs.check_table.Goals as goal

pub returns : goal.returns
returns c = c.check_loaded.ensures ∙ ap acceptance_of (accept-loaded _ c.load_table.ensures)
