-- `loading::load` meets its contract.
use mathlib.Core.Path.{◌≡◌}
use borrow.Author.Rules.{rules}
use Rattle.std.proofs.Common.{Err}
use Rattle.loading.proofs.OnePass.{pass-refused, pass-loaded, pass-known, pass-counted}
use Rattle.loading.proofs.load.Goals as goal
use Rattle.loading.proofs.load.Goals.{In_ok-read}

pub returns-in_err-read : goal.returns-in_err-read
returns-in_err-read c =
    let e : c.from_residual.result ≡ Err c.in_err-read.field-0.0 = search rules in
    rw e (pass-refused _ _ c.one_pass-read.ensures c.in_err-read.was)

pub invariant_of-result : goal.invariant_of-result
invariant_of-result c =
    record {
      known = pass-known _ c.one_pass-read.result c.one_pass-read.ensures c.in_ok-read.was;
      counted = pass-counted _ c.one_pass-read.result c.one_pass-read.ensures c.in_ok-read.was;
    }

pub returns : goal.returns
returns c = pass-loaded _ c.one_pass-read.result c.one_pass-read.ensures c.in_ok-read.was
