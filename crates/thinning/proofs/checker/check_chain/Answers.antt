-- `thinning::checker::check_chain` meets its contract.
use mathlib.Core.Path.{◌≡◌, refl, sym, ◌∙◌, ap}
use mathlib.Core.Bool.{Bool}
use mathlib.Core.List.{List}
use Prim.Native.Nat.{◌-◌}
use native.Mathlib.Omega.{arith}
use borrow.Author.Rules.{rules}
use Rattle.std.proofs.Common.{Err}
use Rattle.base.specs.Answer.{answer, reply_of, after}
use Rattle.base.proofs.Answers.{refuses}
use Rattle.departures.specs.Columns.{kept_by}
use Rattle.claim.specs.Verdicts.{check_chain}
use Rattle.claim.specs.Services.{accept_network, kept_in}
use Rattle.claim.proofs.Chains.{kept_leaves, was-met, was-kept}
use Rattle.claim.proofs.Meets.{chain-numbered}
use Rattle.claim.proofs.Accepting.{known-running, accept-loaded, accepted-running, running-few, passing-keeping}
use Rattle.claim.proofs.Accepting.{accepted-whole, chain-network-refused, chain-refused, chain-kept}
use Rattle.claim.proofs.Condition.{marks-left}
use Rattle.rules.specs.Running.{Running}
use Rattle.thinning.proofs.checker.check_chain.Goals as goal
use Rattle.thinning.proofs.checker.check_chain.Goals.{In_ok-accepted, In_ok-check_from, After-mark_kept}

-- the network is accepted, and so it runs
accepted : (c : In_ok-accepted) → accept_network c.args.network.now ≡ answer c.in_ok-accepted.accepted.network
accepted c = sym (c.in_ok-accepted.ensures ∙ accept-loaded _ _ c.load.ensures)

running : (c : In_ok-accepted) → Running c.in_ok-accepted.accepted.network
running c = accepted-running c.args.network.now _ (accepted c)

-- the chain passes, and keeps these
passed : (c : In_ok-check_from) → let g = c.in_ok-accepted.accepted.network in
    (K : List Bool) × (check_chain (g.remaining - 2) g c.args.chain.now ≡ answer K)
passed c =
    let g = c.in_ok-accepted.accepted.network in
    was-kept _ (chain-numbered (g.remaining - 2) g _) c.in_ok-check_from.ensures.refusal

marked : (c : After-mark_kept) {K : List Bool} → let g = c.in_ok-accepted.accepted.network in
    check_chain (g.remaining - 2) g c.args.chain.now ≡ answer K → c.mark_kept.new.marks ≡ K
marked c passed =
    let g = c.in_ok-accepted.accepted.network in
    let whole = accepted-whole c.args.network.now g (sym (c.in_ok-accepted.ensures ∙ accept-loaded _ _ c.load.ensures)) in
    let left = kept_leaves passed in
    c.mark_kept.ensures
    ∙ ap (kept_by g.edges) (c.check_from.ensures.rules ∙ sym (left.1 _ _))
    ∙ marks-left (known-running whole.known whole.passed) whole.known.fresh c.args.chain.now passed

pub returns-in_err-accepted : goal.returns-in_err-accepted
returns-in_err-accepted c =
    let a = c.args in
    let e : c.from_residual.result ≡ Err c.in_err-accepted.field-0.0 = search rules in
    let met = sym (c.in_err-accepted.ensures ∙ accept-loaded _ _ c.load.ensures) in
    let left = refuses _ a.kept.now _ (chain-network-refused a.network.now a.chain.now _ met) in
    record { reply = rw e left.0; kept = left.1 }

pub check_from-requires : goal.check_from-requires
check_from-requires c =
    let run = running (goal.at.check_from-requires c).In_ok-accepted in
    (run, c.new-noted.ensures.rules, c.new-noted.ensures.steps, omega (arith, running-few run))

pub returns-in_err-check_from : goal.returns-in_err-check_from
returns-in_err-check_from c =
    let a = c.args in
    let accepted = accepted (goal.at.returns-in_err-check_from c).In_ok-accepted in
    let e : c.from_residual-in_err-check_from.result ≡ Err c.in_err-check_from.field-0.0 = search rules in
    let met = was-met _ _ c.in_err-check_from.ensures.refusal in
    let left = refuses _ a.kept.now _ (chain-refused a.network.now a.chain.now _ accepted _ met) in
    record { reply = rw e left.0; kept = left.1 }

pub mark_kept-requires : goal.mark_kept-requires
mark_kept-requires c = ((running (goal.at.mark_kept-requires c).In_ok-accepted).edge_room, refl)

pub put_kept-requires : goal.put_kept-requires
put_kept-requires c =
    let at = goal.at.put_kept-requires c in
    let passed = passed at.In_ok-check_from in
    rw (marked at.After-mark_kept passed.1) (passing-keeping (running at.In_ok-accepted) c.args.chain.now _ passed.1)

pub returns : goal.returns
unfolding kept_in
returns c =
    let at = goal.at.returns c in
    let a = c.args in
    let passed = passed at.In_ok-check_from in
    let kept =
    chain-kept a.network.now a.chain.now _ (accepted at.In_ok-accepted) _ passed.1
    ∙ ap (λ K. kept_in c.in_ok-accepted.accepted.network (answer K)) (sym (marked at.After-mark_kept passed.1)) in record {
      reply = c.put_kept.ensures.reply ∙ ap (λ w. reply_of w a.kept.now) (sym kept);
      kept = c.put_kept.ensures.text ∙ ap (λ w. after w a.kept.now) (sym kept);
    }
