-- `flow::search::Search::sweep` meets its contract: the arcs below `arc` were tried in turn.
use Rattle.flow.proofs.Reaching.{swept_none, swept-on}
use Rattle.flow.proofs.search.Search.sweep.Goals as goal

pub loop-arc-init : goal.loop-arc-init
loop-arc-init c = swept_none c.requires

pub loop-arc-preserved : goal.loop-arc-preserved
loop-arc-preserved c = swept-on c.loop-arc.invariant c.relax.ensures
