-- `chain_text::chain::chain_length` meets its contract.
use native.Mathlib.Omega.{arith}
use Rattle.chain_text.specs.Text.{chain_length}
use Rattle.chain_text.proofs.Lengths.{chain-short}
use Rattle.chain_text.proofs.chain.chain_length.Goals as goal

pub overflow_mul-result : goal.overflow_mul-result
unfolding chain_length
overflow_mul-result c = record { fits = rw c.length_of.ensures (omega (arith, chain-short c.args.steps c.requires)) }

pub overflow_add-result : goal.overflow_add-result
unfolding chain_length
overflow_add-result c =
    record {
      fits =
          rw (c.length_of.ensures, c.length_of-2.ensures)
          (omega (arith, chain-short c.args.steps c.requires));
    }

pub returns : goal.returns
unfolding chain_length
returns c = rw (c.length_of.ensures, c.length_of-2.ensures)
