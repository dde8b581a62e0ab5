-- What the loop of `chain_text::chain::put_chain` keeps.
use lib.ListN.{length}
use Rattle.base.proofs.Writing.{Written}
use Rattle.chain_text.specs.Columns.{columns}
use Rattle.chain_text.specs.Text.{chain_text, Even, steps_of}
use Rattle.chain_text.proofs.Columns.{text_from}
use Rattle.chain_text.proofs.chain.put_chain.Given as goal

abbrev pub invariant-loop-i : goal.invariant-loop-i
invariant-loop-i l =
    record {
      even : Even (length l.v) (columns l.v l.x l.y l.z l.cost);
      left : Written (chain_text (steps_of l.v l.x l.y l.z l.cost) l.dropped) (text_from (columns l.v l.x l.y l.z l.cost) l.dropped l.i) l.initial.text l.text l.at;
    }
