-- `host_texts::networks::thinning_write_network` meets its contract.
use mathlib.Core.Path.{◌≡◌}
use Rattle.std.proofs.Common.{rules}
use Rattle.base.specs.Answer.{told, refusal_of, number_given}
use Rattle.base.proofs.Given.{given-number, given-length}
use Rattle.host_texts.proofs.networks.thinning_write_network.Goals as goal

pub returns : goal.returns
returns c =
    let out : c.give_out.new.out ≡ number_given (λ value. value) (told c.write_network.result) c.args.written.now =
    search (rules, c.give_out.ensures.out) in
    let number : c.give_out.result ≡ refusal_of (told c.write_network.result) = search (rules, c.give_out.ensures.number) in
    record {
      number = given-number _ _ c.write_network.ensures.0 number;
      text = c.write_network.ensures.1;
      written = given-length _ _ c.write_network.ensures.0 _ out;
    }
