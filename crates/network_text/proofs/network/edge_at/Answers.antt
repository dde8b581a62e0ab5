-- `network_text::network::edge_at` meets its contract.
use Rattle.std.proofs.Common.{rules}
use Rattle.network_text.specs.Columns.{edge_at}
use Rattle.network_text.proofs.network.edge_at.Goals as goal

pub returns : goal.returns
unfolding edge_at
returns c = search rules
