-- `network_frames::check_edge` meets its contract.
use mathlib.Core.Path.{◌≡◌}
use mathlib.Core.Bool.{true, false}
use Rattle.std.proofs.Common.{rules}
use borrow.Author.Tests.{lt-ltb, le-ltb, eq-eqb, ne_eqb}
use Rattle.base.specs.Limits.{cost_ok}
use Rattle.base.specs.Answer.{refusal_of}
use Rattle.network_frames.specs.Frames.{edge_refusal}
use Rattle.network_frames.proofs.check_edge.Goals as goal

pub returns-then-edge-place : goal.returns-then-edge-place
unfolding edge_refusal refusal_of
returns-then-edge-place c = rw (ne_eqb _ _ c.if-edge-place.true)

pub returns-then-edge : goal.returns-then-edge
unfolding edge_refusal refusal_of
returns-then-edge c = rw (eq-eqb _ _ c.if-edge-place.false, le-ltb _ _ c.if-edge.true)

pub returns-then-vertices-edge : goal.returns-then-vertices-edge
unfolding edge_refusal refusal_of
returns-then-vertices-edge c = rw (eq-eqb _ _ c.if-edge-place.false, lt-ltb _ _ c.if-edge.false, le-ltb _ _ c.if-vertices-edge.true)

pub returns-then-cost_ok : goal.returns-then-cost_ok
unfolding edge_refusal refusal_of
returns-then-cost_ok c =
    let limited : cost_ok c.args.edge.cost ≡ true = search rules in
    rw (eq-eqb _ _ c.if-edge-place.false, lt-ltb _ _ c.if-edge.false, lt-ltb _ _ c.if-vertices-edge.false, limited)

pub returns-else-cost_ok : goal.returns-else-cost_ok
unfolding edge_refusal refusal_of
returns-else-cost_ok c =
    let unlimited : cost_ok c.args.edge.cost ≡ false = search rules in
    rw (eq-eqb _ _ c.if-edge-place.false, lt-ltb _ _ c.if-edge.false, lt-ltb _ _ c.if-vertices-edge.false, unlimited)
