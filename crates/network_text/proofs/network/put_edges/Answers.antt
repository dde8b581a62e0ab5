-- `network_text::network::put_edges` meets its contract.
use mathlib.Core.Path.{◌∙◌, ap}
use native.Mathlib.Omega.{arith}
use Rattle.frame.specs.Kinds.{of_edge}
use Rattle.network_text.specs.Columns.{edge_at}
use Rattle.network_text.proofs.CostField.{cost-spelt}
use Rattle.network_text.proofs.Writing.{writing-none, writing-all, writing-room, writing-next}
use Rattle.network_text.proofs.network.put_edges.Goals as goal

pub loop-place-init : goal.loop-place-init
loop-place-init c = writing-none c.requires

pub fields-requires : goal.fields-requires
unfolding edge_at
fields-requires c = rw c.edge_at-edge.ensures (cost-spelt _ (c.requires.limited _ c.loop-place-test.true))

pub put_line-at-requires : goal.put_line-at-requires
put_line-at-requires c = writing-room c.requires _ c.loop-place.invariant c.loop-place-test.true

pub loop-place-preserved : goal.loop-place-preserved
loop-place-preserved c =
    let p = c.put_line-at.ensures in
    writing-next c.requires _ c.loop-place.invariant c.loop-place-test.true
    (c.fields.ensures ∙ ap of_edge c.edge_at-edge.ensures) p.0 p.1

pub returns : goal.returns
returns c = writing-all c.requires _ c.loop-place.invariant (omega arith)
