-- The vertices that remain are fewer at each call of `thinning::chain::check_from`.
use Rattle.thinning.proofs.chain.+check_from.Given as goal

abbrev pub decreases-check_from : goal.decreases-check_from
decreases-check_from l = l.network.remaining
