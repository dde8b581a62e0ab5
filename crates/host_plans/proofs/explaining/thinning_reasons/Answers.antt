-- `host_plans::explaining::thinning_reasons` meets its contract.
use Rattle.base.proofs.Given.{given-number, given-length}
use Rattle.host_plans.proofs.explaining.thinning_reasons.Goals as goal

pub returns : goal.returns
returns c =
    record {
      number = given-number _ _ c.explain_chain.ensures.reply c.give_out.ensures.number;
      reasons = c.explain_chain.ensures.reasons;
      written = given-length _ _ c.explain_chain.ensures.reply _ c.give_out.ensures.out;
    }
