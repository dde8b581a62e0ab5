-- `network_text::network::check_edges` meets its contract.
use mathlib.Core.Logic.{inl, inr}
use native.Mathlib.Omega.{arith}
use Rattle.std.proofs.Common.{rules, Err, ◌≡◌}
use Rattle.base.specs.Answer.{refusal_of}
use Rattle.network_text.proofs.Columns.{one_of}
use Rattle.network_text.proofs.Checking.{checking-none, checking-missing, checking-refused}
use Rattle.network_text.proofs.Checking.{checking-next, checking-beyond, checking-end}
use Rattle.network_text.proofs.network.check_edges.Goals as goal
use Rattle.network_text.proofs.network.check_edges.Goals.{then-low-i-via-then-low-i, then-low-i-via-else-low-i+then-high-i}
use Rattle.network_text.proofs.network.check_edges.Goals.{then-low-i-via-else-low-i+else-high-i+then-cost-i}

pub loop-i-init : goal.loop-i-init
loop-i-init c = checking-none

pub returns-then-low-i : goal.returns-then-low-i
unfolding refusal_of
returns-then-low-i c =
    checking-missing c.loop-i.invariant c.loop-i-test.true
    (elim c.then-low-i.branch [
      | then-low-i-via-then-low-i w ↦ inl w.if-low-i.true
      | then-low-i-via-else-low-i+then-high-i w ↦ inr (inl w.if-high-i.true)
      | then-low-i-via-else-low-i+else-high-i+then-cost-i w ↦ inr (inr w.if-cost-i.true)
    ])

pub returns-in_err-check_edge : goal.returns-in_err-check_edge
unfolding refusal_of
returns-in_err-check_edge c =
    let e : c.from_residual.result ≡ Err c.in_err-check_edge.field-0.0 = search rules in
    rw e
    (checking-refused c.loop-i.invariant c.loop-i-test.true
    (record { low_there = c.if-low-i.false; high_there = c.if-high-i.false; cost_there = c.if-cost-i.false })
    c.edge_at.ensures c.in_err-check_edge.field-0.0 c.in_err-check_edge.ensures)

pub loop-i-preserved : goal.loop-i-preserved
unfolding refusal_of
loop-i-preserved c =
    checking-next c.loop-i.invariant c.loop-i-test.true
    (record { low_there = c.if-low-i.false; high_there = c.if-high-i.false; cost_there = c.if-cost-i.false })
    c.edge_at.ensures c.in_ok-check_edge.ensures

pub returns-then-edges-low : goal.returns-then-edges-low
unfolding refusal_of
returns-then-edges-low c =
    checking-beyond c.loop-i.invariant (omega arith)
    (one_of (λ w. omega arith) (λ w. omega arith) (λ w. omega arith) c.then-edges-low.either)

pub returns : goal.returns
unfolding refusal_of
returns c = checking-end c.loop-i.invariant (omega arith) c.if-edges-low.false (omega arith) (omega arith)
