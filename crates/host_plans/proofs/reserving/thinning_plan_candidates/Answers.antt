-- `host_plans::reserving::thinning_plan_candidates` meets its contract.
use Rattle.base.proofs.Given.{given-number, given-length}
use Rattle.host_plans.proofs.reserving.thinning_plan_candidates.Goals as goal

pub returns : goal.returns
returns c =
    record {
      number = given-number _ _ c.plan_candidates.ensures.reply c.give_out.ensures.number;
      costs = c.plan_candidates.ensures.costs;
      written = given-length _ _ c.plan_candidates.ensures.reply _ c.give_out.ensures.out;
    }
