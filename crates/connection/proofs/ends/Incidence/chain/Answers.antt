-- `connection::ends::Incidence::chain` meets its contract.
use Rattle.connection.proofs.Chaining.{chained-listed, chained-unlisted, chained-done}
use Rattle.connection.proofs.ends.Incidence.chain.Goals as goal

pub loop-e-preserved-then-edges-e : goal.loop-e-preserved-then-edges-e
loop-e-preserved-then-edges-e c =
    chained-listed _ _ _ _ _ c.loop-e.e c.loop-e-test.true c.loop-e.invariant c.if-edges-e.true
    c.hook.ensures c.hook-then-edges-e.ensures

pub loop-e-preserved : goal.loop-e-preserved
loop-e-preserved c =
    chained-unlisted _ _ _ _ _ c.loop-e.e c.loop-e-test.true c.loop-e.invariant c.if-edges-e.false

pub returns : goal.returns
returns c = chained-done _ _ _ _ _ c.loop-e.e c.loop-e-test.false c.loop-e.invariant
