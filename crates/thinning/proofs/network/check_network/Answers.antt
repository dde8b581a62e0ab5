-- `thinning::network::check_network` meets its contract.
use mathlib.Core.Path.{◌∙◌, ap}
use Rattle.claim.specs.Services.{acceptance_of}
use Rattle.claim.proofs.Accepting.{accept-loaded}
use Rattle.thinning.proofs.network.check_network.Goals as goal

pub returns : goal.returns
returns c = c.check_loaded.ensures ∙ ap acceptance_of (accept-loaded _ _ c.load.ensures)
