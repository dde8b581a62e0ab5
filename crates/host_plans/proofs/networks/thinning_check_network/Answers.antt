-- `host_plans::networks::thinning_check_network` meets its contract.
use mathlib.Core.Path.{◌≡◌, ◌∙◌, ap}
use Rattle.std.proofs.Common.{rules}
use Rattle.base.specs.Answer.{told, refusal_of}
use Rattle.host_plans.proofs.Numbers.{accepted-number}
use Rattle.host_plans.proofs.networks.thinning_check_network.Goals as goal

pub returns : goal.returns
returns c =
    let number : c.give_out.result ≡ refusal_of (told c.check_network.result) = search (rules, c.give_out.ensures.number) in
    number ∙ ap refusal_of c.check_network.ensures ∙ accepted-number _
