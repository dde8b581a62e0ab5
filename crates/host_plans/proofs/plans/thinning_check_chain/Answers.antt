-- `host_plans::plans::thinning_check_chain` meets its contract.
use mathlib.Core.Path.{◌≡◌}
use Rattle.std.proofs.Common.{rules}
use Rattle.base.specs.Answer.{told, refusal_of, number_given}
use Rattle.base.proofs.Given.{given-number, given-length}
use Rattle.host_plans.proofs.plans.thinning_check_chain.Goals as goal

pub returns : goal.returns
returns c =
    let out : c.give_out.new.out ≡ number_given (λ value. value) (told c.check_chain.result) c.args.kept_written.now =
    search (rules, c.give_out.ensures.out) in
    let number : c.give_out.result ≡ refusal_of (told c.check_chain.result) = search (rules, c.give_out.ensures.number) in
    record {
      number = given-number _ _ c.check_chain.ensures.reply number;
      kept = c.check_chain.ensures.kept;
      kept_written = given-length _ _ c.check_chain.ensures.reply _ out;
    }
