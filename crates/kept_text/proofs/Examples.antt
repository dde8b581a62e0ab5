-- The kept text that document 01 prints, byte for byte, and the line of a refusal.
-- Assumes nothing.
use mathlib.Core.Path.{◌≡◌, refl}
use mathlib.Core.List.{[], ◌∷◌}
use lib.IntN.{pos}
use Rattle.frame.specs.Table.{kind_of, bytes_of, padded, widths}
use Rattle.digits.specs.Hexadecimal.{digit_of, spell}
use Rattle.frame.specs.Line.{spell_all, line_of}
use Rattle.frame.specs.Frames.{lines_of}
use Rattle.frame.specs.Kinds.{kept_digits, unreserved_digits}
use Rattle.digits.specs.Sign.{unsigned_of}
use Rattle.frame.proofs.Examples.{printed}
use Rattle.list_text.specs.Text.{list_text}
use Rattle.kept_text.specs.Text.{costs_text, kept_text, refusal_text}

pub printed-kept : kept_text (1 ∷ 2 ∷ 5 ∷ []) (pos 8) (pos 16) ≡
    printed 6 0x050001 (printed 6 0x050002 (printed 6 0x050005 (printed 34 0x0600000000000000080000000000000010 [])))
unfolding kept_text costs_text list_text lines_of line_of spell_all spell digit_of kind_of widths bytes_of padded
    kept_digits unreserved_digits unsigned_of
printed-kept = refl

-- refusal 10 is a line of hexadecimal digits
pub refusal-line : refusal_text 10 ≡ printed 4 0x0f0a []
unfolding refusal_text line_of spell_all spell digit_of kind_of widths bytes_of padded
refusal-line = refl
