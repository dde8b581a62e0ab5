-- `digits::hexadecimal::value_of` meets its contract.
-- Assumes nothing.
use native.Mathlib.Omega.{arith}
use borrow.Author.Rules.{rules}
use Rattle.digits.proofs.Values.{value-at, value-small}
use Rattle.digits.proofs.hexadecimal.value_of.Goals as goal

pub overflow_cast-result-2 : goal.overflow_cast-result-2
overflow_cast-result-2 c =
    let byte = c.args.byte in
    rw (c.requires, value-at byte (search rules)) (omega (arith, value-small byte))

pub returns : goal.returns
returns c = rw c.requires (value-at c.args.byte (search rules))
