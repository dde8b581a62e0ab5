-- `flow::arcs::moved_from` meets its contract.
use Rattle.flow.proofs.Gathering.{moved_same, moved_other}
use Rattle.flow.proofs.arcs.moved_from.Goals as goal

pub returns-then-vertex-from : goal.returns-then-vertex-from
returns-then-vertex-from c = let a = c.args in moved_same a.from a.to a.vertex c.if-vertex-from.true

pub returns-else-vertex-from : goal.returns-else-vertex-from
returns-else-vertex-from c = let a = c.args in moved_other a.from a.to a.vertex c.if-vertex-from.false
