-- `host_plans::solver::thinning_table_network` meets its contract.
use Rattle.base.proofs.Given.{given-number, given-length}
use Rattle.host_plans.proofs.solver.thinning_table_network.Goals as goal

pub returns : goal.returns
returns c =
    record {
      number = given-number _ _ c.table_network.ensures.reply c.give_out.ensures.number;
      network = c.table_network.ensures.network;
      written = given-length _ _ c.table_network.ensures.reply _ c.give_out.ensures.out;
    }
