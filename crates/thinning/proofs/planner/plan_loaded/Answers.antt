-- `thinning::planner::plan_loaded` meets its contract.
use mathlib.Core.Path.{◌≡◌, refl, sym, ◌∙◌, ap}
use Prim.Native.Nat.{ℕ, ◌-◌}
use native.Mathlib.Omega.{arith}
use borrow.Author.Rules.{rules}
use Rattle.std.proofs.Common.{Err}
use Rattle.std.proofs.lemmas.Result.{err_from_is_err_and}
use Rattle.base.specs.Answer.{refused, answer, filled}
use Rattle.loading.specs.Loading.{loaded_by}
use Rattle.rules.specs.Plans.{StepRoom}
use Rattle.rules.specs.Running.{Running}
use Rattle.rules.proofs.Planning.{room-for}
use Rattle.claim.specs.Services.{accepting, texts_given, plan_in, planned_of}
use Rattle.claim.proofs.Accepting.{loaded-running, running-few}
use Rattle.claim.proofs.Handing.{handed-refused, plan-refused, plan-given, plan-ready}
use Rattle.thinning.proofs.planner.plan_loaded.Goals as goal
use Rattle.thinning.proofs.planner.plan_loaded.Goals.{In_ok-accepted, After-new-steps, After-hand_over}

-- the network is accepted, and so it runs
accepted : (g : _) (c : In_ok-accepted g)
    → accepting (loaded_by g.E.Refuses.number c.args.loaded) ≡ answer c.in_ok-accepted.accepted.network
accepted g c = sym c.in_ok-accepted.ensures

running : (g : _) (c : In_ok-accepted g) → Running c.in_ok-accepted.accepted.network
running g c = loaded-running g.E.Refuses.number c.args.loaded _ (accepted g c)

-- the columns have room for its steps
room : (g : _) (c : After-new-steps g) {n : ℕ} → n ≡ c.in_ok-accepted.accepted.network.remaining - 2
    → let s = c.new-steps.result in StepRoom n s.v s.x s.y s.z s.cost
room g c e =
    let few = running-few (loaded-running g.E.Refuses.number c.args.loaded _ (sym c.in_ok-accepted.ensures)) in
    room-for c.new-steps.ensures.room (omega arith)

pub returns-in_err-accepted : goal.returns-in_err-accepted
returns-in_err-accepted g c =
    let a = c.args in
    let e : c.from_residual.result ≡ Err c.in_err-accepted.field-0.0 = search rules in
    let left = handed-refused _ a.chain.now a.kept.now _
    (plan-refused _ a.chain.now a.kept.now _ (sym c.in_err-accepted.ensures)) in
    record { reply = rw e left.0; chain = left.1.0; kept = left.1.1 }

pub plan_steps-dropped-requires : goal.plan_steps-dropped-requires
plan_steps-dropped-requires g c =
    let at = goal.at.plan_steps-dropped-requires g c in
    let run = running g at.In_ok-accepted in
    let few = running-few run in
    (run, refl, omega arith, room g at.After-new-steps (omega arith))

pub hand_over-requires : goal.hand_over-requires
hand_over-requires g c =
    let at = goal.at.hand_over-requires g c in
    let w = c.plan_steps-dropped.ensures in
    plan-ready (running g at.In_ok-accepted) _ _ _ _ _ _ _ _ _ _ (room g at.After-new-steps refl) _ w.marks _ w.dropped
    w.v w.x w.y w.z w.cost

-- what is handed over is the plan of what was loaded
handed : (g : _) (c : After-hand_over g) → let a = c.args in
    texts_given c.in_ok-accepted.accepted.network c.plan_steps-dropped.new.marks a.chain.now a.kept.now
    ≡ plan_in (accepting (loaded_by g.E.Refuses.number a.loaded)) a.chain.now a.kept.now
handed g c =
    let a = c.args in
    plan-given _ a.chain.now a.kept.now _ (sym c.in_ok-accepted.ensures) _ c.plan_steps-dropped.ensures.marks

pub returns-in_err-planned : goal.returns-in_err-planned
returns-in_err-planned g c =
    let a = c.args in
    let given = handed g (goal.at.returns-in_err-planned g c).After-hand_over in
    let own = err_from_is_err_and c.from_residual-in_err-planned.result c.from_residual-in_err-planned.ensures.1 in record {
      reply = rw own.1
          (ap refused (g.met.E.Refuses.keeps_number _ _ own.2) ∙ c.in_err-planned.ensures.reply ∙ ap planned_of given);
      chain = c.in_err-planned.ensures.chain ∙ ap (λ w. filled (λ t. t.chain) w a.chain.now) given;
      kept = c.in_err-planned.ensures.kept ∙ ap (λ w. filled (λ t. t.kept) w a.kept.now) given;
    }

pub returns : goal.returns
returns g c =
    let a = c.args in
    let given = handed g (goal.at.returns g c).After-hand_over in record {
      reply = c.in_ok-planned.ensures.reply ∙ ap planned_of given;
      chain = c.in_ok-planned.ensures.chain ∙ ap (λ w. filled (λ t. t.chain) w a.chain.now) given;
      kept = c.in_ok-planned.ensures.kept ∙ ap (λ w. filled (λ t. t.kept) w a.kept.now) given;
    }
