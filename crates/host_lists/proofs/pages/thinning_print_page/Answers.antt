-- `host_lists::pages::thinning_print_page` meets its contract.
use mathlib.Core.Path.{◌≡◌}
use Rattle.std.proofs.Common.{rules}
use Rattle.base.specs.Answer.{told, refusal_of, number_given}
use Rattle.base.proofs.Given.{given-number, given-length}
use Rattle.host_lists.proofs.pages.thinning_print_page.Goals as goal

pub returns : goal.returns
returns c =
    let out : c.give_out.new.out ≡ number_given (λ value. value) (told c.print_page.result) c.args.written.now =
    search (rules, c.give_out.ensures.out) in
    let number : c.give_out.result ≡ refusal_of (told c.print_page.result) = search (rules, c.give_out.ensures.number) in
    record {
      number = given-number _ _ c.print_page.ensures.reply number;
      page = c.print_page.ensures.page;
      written = given-length _ _ c.print_page.ensures.reply _ out;
    }
