-- `loading::bare` meets its contract.
use Rattle.loading.specs.Loading.{state_of}
use Rattle.loading.proofs.bare.Goals as goal

pub returns : goal.returns
unfolding state_of
returns c = rw c.present.ensures
