-- `flow::send::push` meets its contract.
use mathlib.Core.Path.{refl}
use Rattle.flow.specs.Capacity.{pushed}
use Rattle.flow.proofs.send.push.Goals as goal

pub returns : goal.returns
unfolding pushed
returns c = refl
