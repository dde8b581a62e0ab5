-- The reasons text of the plan that document 01 prints, byte for byte.
-- Assumes nothing.
use mathlib.Core.Path.{◌≡◌, refl}
use mathlib.Core.List.{[], ◌∷◌}
use Rattle.base.specs.Fold.{tabulate}
use Rattle.digits.specs.Hexadecimal.{digit_of, spell}
use Rattle.frame.specs.Table.{kind_of, bytes_of, padded, widths}
use Rattle.frame.specs.Line.{spell_all, line_of}
use Rattle.frame.specs.Frames.{lines_of}
use Rattle.frame.proofs.Examples.{printed}
use Rattle.reasons_text.specs.Text.{reasons_text}

-- edge 0 is reserved; of the others, 1 and 2 are kept at the ending and 3 is dropped there;
-- at step 1 edge 4 is out as x and edge 5 kept as y
pub printed-reasons : reasons_text 6 (0 ∷ 4 ∷ 4 ∷ 5 ∷ 3 ∷ 1 ∷ []) (0 ∷ 0 ∷ 0 ∷ 0 ∷ 1 ∷ 1 ∷ []) ≡
    printed 12 0x0a0000000000 (printed 12 0x0a0001040000 (printed 12 0x0a0002040000
    (printed 12 0x0a0003050000 (printed 12 0x0a0004030001 (printed 12 0x0a0005010001 [])))))
unfolding reasons_text tabulate lines_of line_of spell_all spell digit_of kind_of widths bytes_of padded
printed-reasons = refl
