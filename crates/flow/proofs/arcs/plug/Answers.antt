-- `plug` meets its contract: each way out has its case of the definition.
use borrow.Author.Tests.{eq-eqb, ne_eqb, lt-ltb, le-ltb}
use Rattle.flow.specs.Ports.{plugged}
use Rattle.flow.proofs.arcs.plug.Goals as goal

pub returns-then-from-ends : goal.returns-then-from-ends
unfolding plugged
returns-then-from-ends c = rw (eq-eqb _ _ c.if-from-ends.true)

pub returns-then-port-ge-PORTS : goal.returns-then-port-ge-PORTS
unfolding plugged
returns-then-port-ge-PORTS c = rw (ne_eqb _ _ c.if-from-ends.false, le-ltb _ _ c.if-port-ge-PORTS.true)

pub returns : goal.returns
unfolding plugged
returns c = rw (ne_eqb _ _ c.if-from-ends.false, lt-ltb _ _ c.if-port-ge-PORTS.false)
