-- `plan::plan_roomy` meets its contract.
use mathlib.Core.Path.{◌∙◌, ap}
use Rattle.base.specs.Answer.{filled}
use Rattle.claim.specs.Services.{planned_of}
use Rattle.claim.proofs.Longest.{every-plan-fits}
use Rattle.plan.proofs.plan_roomy.Goals as goal

pub returns : goal.returns
returns c =
    let e = every-plan-fits c.args.network.now c.args.chain.now c.args.kept.now c.requires.0
    c.requires.1 in
    let p = c.plan.ensures in
    record {
      reply = p.reply ∙ ap planned_of e;
      chain = p.chain ∙ ap (λ a. filled (λ t. t.chain) a c.args.chain.now) e;
      kept = p.kept ∙ ap (λ a. filled (λ t. t.kept) a c.args.kept.now) e;
    }
