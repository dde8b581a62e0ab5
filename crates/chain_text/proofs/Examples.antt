-- Chain texts of document 01's form, byte for byte: one that is written and read, and one that is refused.
-- Assumes nothing.
use mathlib.Core.Path.{◌≡◌, refl}
use mathlib.Core.List.{List, [], ◌∷◌}
use Prim.Native.Nat.{ℕ}
use lib.IntN.{negsuc}
use Rattle.base.specs.Answer.{refused, answer, and_then}
use Rattle.base.specs.Limits.{vertices_ok}
use Rattle.frame.specs.Table.{kind_of, bytes_of, padded, total, place_of, start_of, digits_of, widths, line_length}
use Rattle.digits.specs.Hexadecimal.{value_of, digit_of, all_digits, number_of, spell}
use Rattle.digits.specs.Sign.{signed_of, unsigned_of}
use Rattle.frame.specs.Line.{spell_all, values_of, line_of, fields_of, is_line}
use Rattle.frame.specs.Kinds.{step_cost_digits}
use Rattle.frame.proofs.Examples.{printed}
use Rattle.chain_text.specs.Text.{Meaning, chain_text, steps_in, ending_in, chain_in, read_chain}

-- a step at 1 with 4 and 5, z 1 at the new cost -2, and an ending that drops 3
chain : Meaning
chain = record { steps = record { v = 1; x = 4; y = 5; z = 1; cost = negsuc 1 } ∷ []; dropped = 3 }

chain-printed : List ℕ
chain-printed = printed 34 0x03_0001_0004_0005_0001_fffffffffffffffe (printed 6 0x04_0003 [])

printed-chain : chain_text chain.steps chain.dropped ≡ chain-printed
unfolding chain chain-printed chain_text line_of spell_all spell digit_of unsigned_of kind_of widths digits_of bytes_of padded
    step_cost_digits
printed-chain = refl

chain-read : read_chain 3 chain-printed ≡ answer chain
unfolding chain chain-printed read_chain vertices_ok chain_in steps_in ending_in and_then is_line fields_of values_of number_of
    value_of all_digits spell digit_of signed_of kind_of widths digits_of bytes_of padded total place_of start_of line_length
    step_cost_digits
chain-read = refl

-- the same chain in the frames of old, whose steps have neither z nor its cost
short-chain : read_chain 3 (printed 14 0x03_0001_0004_0005 (printed 6 0x04_0003 [])) ≡ refused 1
unfolding read_chain vertices_ok chain_in steps_in ending_in and_then is_line fields_of values_of number_of value_of all_digits
    spell digit_of kind_of widths digits_of bytes_of padded total place_of start_of line_length
short-chain = refl
