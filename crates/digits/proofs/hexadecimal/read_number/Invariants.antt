-- What the loop of `digits::hexadecimal::read_number` keeps.
use Rattle.digits.proofs.Spelling.{Reading}
use Rattle.digits.proofs.hexadecimal.read_number.Given as goal

abbrev pub invariant-loop-byte : goal.invariant-loop-byte
invariant-loop-byte l = Reading l.text l.number l.byte-index
