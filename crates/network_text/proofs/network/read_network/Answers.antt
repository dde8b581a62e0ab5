-- `network_text::network::read_network` meets its contract.
use mathlib.Core.Logic.{inl, inr}
use native.Mathlib.Omega.{arith}
use Rattle.std.proofs.Common.{rules, Err, ◌≡◌}
use borrow.Author.Tests.{ltb-false}
use Rattle.network_text.proofs.Meaning.{read-valid}
use Rattle.network_text.proofs.Given.{stored, given-none, no_room, given-all}
use Rattle.network_text.proofs.network.read_network.Goals as goal
use Rattle.network_text.proofs.network.read_network.Goals.{then-low-edges-via-then-low-edges, then-low-edges-via-else-low-edges+then-high-edges}
use Rattle.network_text.proofs.network.read_network.Goals.{then-low-edges-via-else-low-edges+else-high-edges+then-cost-edges}

pub returns-in_err-read : goal.returns-in_err-read
returns-in_err-read c =
    let e : c.from_residual.result ≡ Err c.in_err-read.field-0.0 = search rules in
    rw e (given-none _ _ _ _ c.in_err-read.ensures)

pub overflow_mul-edges : goal.overflow_mul-edges
overflow_mul-edges c = omega (arith, (stored (read-valid _) c.in_ok-read.ensures).few)

pub returns-then-low-edges : goal.returns-then-low-edges
returns-then-low-edges c =
    no_room _ _ _ _ (stored (read-valid _) c.in_ok-read.ensures)
    (elim c.then-low-edges.branch [
      | then-low-edges-via-then-low-edges w ↦ inl w.if-low-edges.true
      | then-low-edges-via-else-low-edges+then-high-edges w ↦ inr (inl w.if-high-edges.true)
      | then-low-edges-via-else-low-edges+else-high-edges+then-cost-edges w ↦ inr (inr w.if-cost-edges.true)
    ])

pub copy-requires : goal.copy-requires
copy-requires c = omega (arith, (stored (read-valid _) c.in_ok-read.ensures).low.within)

pub copy-requires-2 : goal.copy-requires-2
copy-requires-2 c = omega (arith, ltb-false, (stored (read-valid _) c.in_ok-read.ensures).high.within)

pub copy-requires-3 : goal.copy-requires-3
copy-requires-3 c = omega (arith, ltb-false, (stored (read-valid _) c.in_ok-read.ensures).cost.within)

pub returns : goal.returns
returns c =
    let holds = stored (read-valid _) c.in_ok-read.ensures in
    given-all _ _ _ _ holds
    (record {
      few = holds.few;
      low_room = omega arith;
      high_room = omega (arith, ltb-false);
      cost_room = omega (arith, ltb-false);
    })
    c.copy.ensures c.copy-2.ensures c.copy-3.ensures
