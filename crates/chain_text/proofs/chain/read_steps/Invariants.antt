-- What the loop of `chain_text::chain::read_steps` keeps.
use Rattle.chain_text.specs.Columns.{columns}
use Rattle.chain_text.proofs.Reading.{Reading}
use Rattle.chain_text.proofs.chain.read_steps.Given as goal

abbrev pub invariant-loop-i : goal.invariant-loop-i
invariant-loop-i l =
    Reading l.steps l.text (columns l.initial.v l.initial.x l.initial.y l.initial.z l.initial.cost) (columns l.v l.x l.y l.z l.cost) l.at l.i
