-- `digits::sign::half_of` meets its contract.
-- Assumes nothing.
use Rattle.digits.proofs.Signs.{half}
use Rattle.digits.proofs.sign.half_of.Goals as goal

pub returns : goal.returns
returns c = half c.args.digits c.requires.0 c.requires.1
