-- `graph::far_end` meets its contract.
use borrow.Author.Tests.{eq-eqb, ne_eqb}
use Rattle.graph.specs.Network.{far}
use Rattle.graph.proofs.far_end.Goals as goal

pub returns-then-end-v : goal.returns-then-end-v
unfolding far
returns-then-end-v c g low high = rw (low, high) (simp (eq-eqb _ _ c.if-end-v.true))

pub returns-else-end-v : goal.returns-else-end-v
unfolding far
returns-else-end-v c g low high = rw (low, high) (simp (ne_eqb _ _ c.if-end-v.false))
