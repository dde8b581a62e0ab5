-- `thinning::network::check_loaded` meets its contract.
use mathlib.Core.Path.{◌≡◌, ◌∙◌, ap}
use Rattle.std.proofs.Common.{rules, Ok}
use Rattle.std.proofs.lemmas.Result.{err_from_is_err_and}
use Rattle.base.specs.Answer.{refused, answer, and_then}
use Rattle.base.proofs.Answers.{unless-met, unless-passed}
use Rattle.claim.specs.Services.{acceptance_of}
use Rattle.claim.proofs.Accepting.{answered-refused, answered-accepted}
use Rattle.thinning.proofs.network.check_loaded.Goals as goal

pub returns-in_err-read : goal.returns-in_err-read
unfolding and_then acceptance_of
returns-in_err-read g c = search rules

pub returns-in_err-check_cuts : goal.returns-in_err-check_cuts
unfolding and_then
returns-in_err-check_cuts g c =
    let given : c.args.loaded ≡ Ok c.in_ok-read.read = search rules in
    let own = err_from_is_err_and c.from_residual-in_err-check_cuts.result c.from_residual-in_err-check_cuts.ensures.1 in
    let met = unless-met (answer c.in_ok-read.read.network) c.in_err-check_cuts.was c.check_cuts.ensures in
    rw (own.1, given)
    (ap refused (g.met.E.Refuses.keeps_number _ _ own.2) ∙ answered-refused _ _ met)

pub returns : goal.returns
unfolding and_then
returns g c =
    let given : c.args.loaded ≡ Ok c.in_ok-read.read = search rules in
    let passed = unless-passed (answer c.in_ok-read.read.network) c.in_ok-check_cuts.was c.check_cuts.ensures in
    rw given (answered-accepted _ _ passed)
