-- `rules::others::cost_after` meets its contract: the difference fits.
use Rattle.graph.proofs.Differences.{difference-fits, difference-is}
use Rattle.rules.proofs.others.cost_after.Goals as goal

pub overflow_sub-result : goal.overflow_sub-result
overflow_sub-result c = difference-fits c.args.network c.requires.light c.args.z c.args.x c.requires.j_edge c.requires.i_edge

pub returns : goal.returns
returns c = difference-is c.args.network c.requires.light c.args.z c.args.x c.requires.j_edge c.requires.i_edge
