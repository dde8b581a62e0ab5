-- `thinning::network::accept` meets its contract.
use mathlib.Core.Path.{sym, ◌∙◌, ap}
use Rattle.std.proofs.Common.{rules}
use Rattle.std.proofs.lemmas.Result.{err_from_is_err_and}
use Rattle.base.specs.Answer.{refused, answer, and_then}
use Rattle.base.proofs.Answers.{unless-met, unless-passed}
use Rattle.thinning.proofs.network.accept.Goals as goal

pub returns-in_default : goal.returns-in_default
unfolding and_then
returns-in_default g c = search rules

pub returns-in_err-check_cuts : goal.returns-in_err-check_cuts
unfolding and_then
returns-in_err-check_cuts g c =
    let own = err_from_is_err_and c.from_residual.result c.from_residual.ensures.1 in
    let met = unless-met (answer c.in-Ok.read.network) c.in_err-check_cuts.was c.check_cuts.ensures in
    rw (own.1, c.in-Ok.is) (ap refused (g.met.E.Refuses.keeps_number _ _ own.2) ∙ sym met)

pub returns-in_ok-check_cuts : goal.returns-in_ok-check_cuts
unfolding and_then
returns-in_ok-check_cuts g c =
    rw c.in-Ok.is (sym (unless-passed (answer c.in-Ok.read.network) c.in_ok-check_cuts.was c.check_cuts.ensures))
