-- `kept_text::count_kept` meets its contract.
use mathlib.Core.Path.{◌≡◌, ◌∙◌}
use borrow.Author.Rules.{rules}
use lib.ListN.{take}
use Rattle.std.specs.List.{count_by}
use Rattle.kept_text.proofs.Texts.{kept-counted}
use Rattle.kept_text.proofs.count_kept.Goals as goal

pub returns : goal.returns
returns c =
    let e : c.count.result ≡ count_by (λ b. b) (take c.args.edges c.args.kept.now) = search rules in
    e ∙ kept-counted c.args.kept.now c.args.edges c.requires
