-- `loading::nothing` meets its contract.
use Rattle.loading.specs.Loading.{no_network}
use Rattle.loading.proofs.nothing.Goals as goal

pub returns : goal.returns
unfolding no_network
returns c = c.bare.ensures
