-- `host_lists::audits::thinning_audit` meets its contract.
use mathlib.Core.Path.{◌∙◌, ap}
use Rattle.base.specs.Answer.{refusal_of, number_given}
use Rattle.host_lists.proofs.audits.thinning_audit.Goals as goal

pub returns-in-Ok : goal.returns-in-Ok
unfolding refusal_of number_given
returns-in-Ok c =
    let e = c.in-Ok.ensures in
    let a = c.args in
    record {
      number = ap refusal_of e;
      connected = ap (λ r. number_given (λ m. m.connected) r a.connected.now) e;
      reached = ap (λ r. number_given (λ m. m.reached) r a.reached.now) e;
      critical = ap (λ r. number_given (λ m. m.bridges) r a.critical.now) e;
    }

pub returns-in-Err : goal.returns-in-Err
unfolding refusal_of number_given
returns-in-Err c =
    let e = c.in-Err.ensures in
    let a = c.args in
    record {
      number = c.number.ensures ∙ ap refusal_of e;
      connected = ap (λ r. number_given (λ m. m.connected) r a.connected.now) e;
      reached = ap (λ r. number_given (λ m. m.reached) r a.reached.now) e;
      critical = ap (λ r. number_given (λ m. m.bridges) r a.critical.now) e;
    }
