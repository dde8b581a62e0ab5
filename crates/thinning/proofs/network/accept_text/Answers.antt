-- `thinning::network::accept_text` meets its contract.
use mathlib.Core.Path.{◌∙◌}
use Rattle.claim.proofs.Accepting.{accept-loaded}
use Rattle.thinning.proofs.network.accept_text.Goals as goal

pub returns : goal.returns
returns c = c.accept.ensures ∙ accept-loaded _ _ c.load.ensures
