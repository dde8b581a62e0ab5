-- `thinning::planner::plan` meets its contract.
use mathlib.Core.Path.{◌∙◌, ap}
use Rattle.base.specs.Answer.{filled}
use Rattle.claim.specs.Services.{planned_of}
use Rattle.claim.proofs.Handing.{plan-loaded}
use Rattle.thinning.proofs.planner.plan.Goals as goal

pub returns : goal.returns
returns c =
    let a = c.args in
    let e = plan-loaded a.network.now a.chain.now a.kept.now _ c.load.ensures in record {
      reply = c.plan_loaded.ensures.reply ∙ ap planned_of e;
      chain = c.plan_loaded.ensures.chain ∙ ap (λ w. filled (λ t. t.chain) w a.chain.now) e;
      kept = c.plan_loaded.ensures.kept ∙ ap (λ w. filled (λ t. t.kept) w a.kept.now) e;
    }
