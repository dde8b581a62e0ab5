-- `connection::search::Search::sweep` meets its contract.
use mathlib.Core.Path.{sym, ◌∙◌}
use Rattle.connection.proofs.Searching.{swept-down, swept-done}
use Rattle.connection.proofs.search.Search.sweep.Goals as goal

pub loop-e-preserved : goal.loop-e-preserved
loop-e-preserved c = rw c.pass.ensures (sym (swept-down _ _ c.loop-e.e c.loop-e-test.true) ∙ c.loop-e.invariant)

pub returns : goal.returns
returns c = sym (swept-done _ _ c.loop-e.e c.loop-e-test.false) ∙ c.loop-e.invariant
