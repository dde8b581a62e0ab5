-- `candidates::plan_candidates` meets its contract.
use mathlib.Core.Path.{◌≡◌, sym, ◌∙◌, ap}
use mathlib.Core.Bool.{true}
use mathlib.Core.List.{List}
use Prim.Native.Nat.{ℕ}
use native.Mathlib.Omega.{arith}
use Rattle.std.proofs.Common.{rules, Err}
use Rattle.base.specs.Answer.{answer}
use Rattle.base.proofs.Answers.{refuses, short, fits}
use Rattle.claim.proofs.Accepting.{accepted-whole}
use Rattle.candidates.specs.Services.{are_edges, candidates_costs, candidates_text}
use Rattle.candidates.proofs.Listing.{edges-below}
use Rattle.candidates.proofs.Answering.{network-refused, list-refused, costs-answered, line-bytes}
use Rattle.candidates.proofs.Answering.{room-short, room-enough}
use Rattle.candidates.proofs.plan_candidates.Goals as goal
use Rattle.candidates.proofs.plan_candidates.Goals.{Else-not-are_edges}

-- all candidates are edges, so their costs are due
abbrev due : (c : Else-not-are_edges) → List ℕ
due c = candidates_costs c.in_ok-accepted.accepted.network c.args.candidates.now

all_edges : (c : Else-not-are_edges) → are_edges c.in_ok-accepted.accepted.network.edges c.args.candidates.now ≡ true
all_edges c = sym c.are_edges.ensures ∙ c.if-not-are_edges.false

answered : (c : Else-not-are_edges) → candidates_text c.args.network.now c.args.candidates.now ≡ answer (due c)
answered c =
    costs-answered c.args.network.now c.args.candidates.now _ (sym c.in_ok-accepted.ensures) (all_edges c)

pub returns-in_err-accepted : goal.returns-in_err-accepted
returns-in_err-accepted c =
    let e : c.from_residual.result ≡ Err c.in_err-accepted.field-0.0 = search rules in
    let a = c.args in
    let left = refuses _ a.costs.now _ (network-refused a.network.now a.candidates.now _ (sym c.in_err-accepted.ensures)) in
    record { reply = rw e left.0; costs = left.1 }

pub nonzero_div-room : goal.nonzero_div-room
nonzero_div-room c = omega (arith, c.length_of.ensures, line-bytes)

pub returns-then-not-are_edges : goal.returns-then-not-are_edges
returns-then-not-are_edges c =
    let a = c.args in
    let none = sym c.are_edges.ensures ∙ c.if-not-are_edges.true in
    let left = refuses _ a.costs.now _ (list-refused a.network.now a.candidates.now _ (sym c.in_ok-accepted.ensures) none) in
    record { reply = left.0; costs = left.1 }

pub returns-then-room-candidates : goal.returns-then-room-candidates
returns-then-room-candidates c =
    let all = (goal.at.returns-then-room-candidates c).Else-not-are_edges in
    let left = short _ _ (due all) (answered all) (room-short _ _ _ _ c.length_of.ensures c.if-room-candidates.true) in
    record { reply = left.0; costs = left.1 }

pub put_candidates-requires : goal.put_candidates-requires
put_candidates-requires c =
    let all = (goal.at.put_candidates-requires c).Else-not-are_edges in
    let w = accepted-whole _ _ (sym c.in_ok-accepted.ensures) in
    record {
      known = w.known;
      passed = w.passed;
      below = edges-below _ _ (all_edges all);
      long = room-enough _ _ _ _ c.length_of.ensures c.if-room-candidates.false;
    }

pub returns : goal.returns
returns c =
    let all = (goal.at.returns c).Else-not-are_edges in
    let old = c.args.costs.now in
    let f = fits _ old (due all) (answered all) (room-enough _ _ _ _ c.length_of.ensures c.if-room-candidates.false) in
    record {
      reply = ap answer c.put_candidates.ensures.0 ∙ f.0;
      costs = c.put_candidates.ensures.1 ∙ f.1;
    }
