-- `reasons::explain_chain` meets its contract.
use mathlib.Core.Path.{◌≡◌, sym, ◌∙◌, ap, ap₂}
use mathlib.Core.Bool.{Bool}
use mathlib.Core.List.{List}
use Prim.Native.Nat.{◌-◌}
use native.Mathlib.Omega.{arith}
use Rattle.std.proofs.Common.{rules, Ok, Err}
use Rattle.base.specs.Answer.{answer, reply_of, after}
use Rattle.base.proofs.Answers.{refuses}
use Rattle.reasons_text.specs.Text.{reasons_text}
use Rattle.claim.specs.Services.{accept_network}
use Rattle.claim.specs.Verdicts.{check_chain, rules_in, numbers_in}
use Rattle.claim.proofs.Chains.{kept_leaves, was-met, was-kept}
use Rattle.claim.proofs.Meets.{chain-numbered}
use Rattle.claim.proofs.Accepting.{accepted-running, running-few}
use Rattle.reasons.specs.Services.{reasons_of}
use Rattle.reasons.proofs.Answering.{network-refused, chain-refused, chain-answered}
use Rattle.reasons.proofs.explain_chain.Goals as goal
use Rattle.reasons.proofs.explain_chain.Goals.{In_ok-accepted, In_ok-verdict}

-- the network is accepted
accepted : (c : In_ok-accepted) → accept_network c.args.network.now ≡ answer c.in_ok-accepted.accepted.network
accepted c = sym c.in_ok-accepted.ensures

-- the chain passes
passed : (c : In_ok-verdict) → let g = c.in_ok-accepted.accepted.network in
    (K : List Bool) × (check_chain (g.remaining - 2) g c.args.chain.now ≡ answer K)
passed c =
    let g = c.in_ok-accepted.accepted.network in
    let met : c.check_from-verdict.result ≡ Ok c.in_ok-verdict.field-0 = search rules in
    was-kept _ (chain-numbered (g.remaining - 2) g _) (rw met at c.check_from-verdict.ensures.refusal)

pub returns-in_err-accepted : goal.returns-in_err-accepted
returns-in_err-accepted c =
    let e : c.from_residual.result ≡ Err c.in_err-accepted.field-0.0 = search rules in
    let a = c.args in
    let left = refuses _ a.reasons.now _ (network-refused a.network.now a.chain.now _ (sym c.in_err-accepted.ensures)) in
    record { reply = rw e left.0; reasons = left.1 }

pub check_from-verdict-requires : goal.check_from-verdict-requires
check_from-verdict-requires c =
    let run = accepted-running c.args.network.now _ (accepted (goal.at.check_from-verdict-requires c).In_ok-accepted) in
    (run, c.new-noted.ensures.rules, c.new-noted.ensures.steps, omega (arith, running-few run))

pub returns-in_err-verdict : goal.returns-in_err-verdict
returns-in_err-verdict c =
    let a = c.args in
    let e : c.from_residual-in_err-verdict.result ≡ Err c.in_err-verdict.field-0.0 = search rules in
    let refused : c.check_from-verdict.result ≡ Err c.in_err-verdict.field-0.0 = search rules in
    let met = was-met _ _ (rw refused at c.check_from-verdict.ensures.refusal) in
    let left = refuses _ a.reasons.now _ (chain-refused a.network.now a.chain.now _
    (accepted (goal.at.returns-in_err-verdict c).In_ok-accepted) _ met) in
    record { reply = rw e left.0; reasons = left.1 }

pub write_reasons-requires : goal.write_reasons-requires
write_reasons-requires c =
    (accepted-running c.args.network.now _ (accepted (goal.at.write_reasons-requires c).In_ok-accepted)).edge_room

pub returns : goal.returns
unfolding reasons_of rules_in numbers_in
returns c =
    let a = c.args in
    let at = goal.at.returns c in
    let g = c.in_ok-accepted.accepted.network in
    let passed = passed at.In_ok-verdict in
    let left = kept_leaves passed.1 in
    let text =
    ap₂ (λ rules steps. answer (reasons_text g.edges rules steps))
    (c.check_from-verdict.ensures.rules ∙ sym (left.1 _ _)) (c.check_from-verdict.ensures.steps ∙ sym (left.1 _ _))
    ∙ sym (chain-answered a.network.now a.chain.now g (accepted at.In_ok-accepted) _ passed.1) in record {
      reply = c.write_reasons.ensures.0 ∙ ap (λ t. reply_of t a.reasons.now) text;
      reasons = c.write_reasons.ensures.1 ∙ ap (λ t. after t a.reasons.now) text;
    }
