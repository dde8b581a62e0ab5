-- `thinning::kept::put_kept` meets its contract.
use mathlib.Core.Path.{◌∙◌, ap}
use Rattle.base.specs.Answer.{answer, reply_of, after}
use Rattle.claim.proofs.Keepings.{kept-text}
use Rattle.thinning.proofs.kept.put_kept.Goals as goal

pub returns : goal.returns
returns c =
    let e =
    kept-text c.requires c.kept_cost-cost.result c.all_but_reserved-unreserved.result c.kept_cost-cost.ensures
    c.all_but_reserved-unreserved.ensures in record {
      reply = c.write_kept.ensures.0 ∙ ap (λ t. reply_of (answer t) c.args.text.now) e;
      text = c.write_kept.ensures.1 ∙ ap (λ t. after (answer t) c.args.text.now) e;
    }
