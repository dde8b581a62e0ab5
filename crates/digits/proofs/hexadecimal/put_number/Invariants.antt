-- What the loop of `digits::hexadecimal::put_number` keeps.
use mathlib.Core.Path.{◌≡◌}
use mathlib.Core.List.{[]}
use lib.ListN.{length, drop}
use Rattle.digits.specs.Hexadecimal.{spell}
use Rattle.digits.proofs.hexadecimal.put_number.Given as goal

abbrev pub invariant-loop-i : goal.invariant-loop-i
invariant-loop-i l =
    spell l.i l.left (drop l.i l.out) ≡ spell (length l.initial.out) l.number []
