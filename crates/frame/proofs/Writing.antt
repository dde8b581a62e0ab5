-- Lines that are written one after the other to the start of a buffer.
-- Assumes nothing.
use mathlib.Core.Path.{◌≡◌, sym, ◌∙◌}
use mathlib.Core.List.{List, ◌++◌}
use Prim.Native.Nat.{ℕ, ◌+◌, ◌*◌, ◌-◌, ◌^◌, ◌≤◌, ◌<◌}
use native.Mathlib.Omega.{arith}
use native.Mathlib.Nat.{lt_of_le_of_lt, mul-le-mul}
use lib.Dec.{lit<}
use lib.ListN.{length, take, drop}
use borrow.Rule.Slice.PartMut.{put_mid}
use Rattle.base.specs.Answer.{over}
use Rattle.base.proofs.Writing.{Written, piece-within, piece-room, piece-more}
use Rattle.digits.specs.Hexadecimal.{byte_values}
use Rattle.frame.specs.Table.{rows, fields, line_length}
use Rattle.frame.specs.Line.{line_of}
use Rattle.frame.specs.declared.line.Fields.{Fields}
use Rattle.frame.proofs.Lines.{length-line}
use Rattle.frame.proofs.Rows.{start_small}

-- one line more, put into the part of the buffer from its place on
module _ (whole rest old out : List ℕ) (at row : ℕ) (f : Fields) (w : Written whole (line_of row f ++ rest) old out at)
  where
    pub line-within : at + line_length row ≤ length old
    line-within = omega (arith, piece-within whole (line_of row f) rest old out at w, length-line row f)

    pub line-room : line_length row ≤ length (take (length out - at) (drop at out))
    line-room = omega (arith, piece-room whole (line_of row f) rest old out at w, length-line row f)

    pub line-more : (part : List ℕ) (size : ℕ) → size ≡ line_length row
        → part ≡ over (line_of row f) (take (length out - at) (drop at out))
        → Written whole rest old (put_mid at (length out - at) out part) (at + size)
    line-more part size n e =
        piece-more whole (line_of row f) rest old out at w part size (n ∙ sym (length-line row f)) e

-- the length of a few lines is no large number
pub few-lines : (k row : ℕ) → row < rows → k ≤ 2 ^ 16 → k * line_length row < 2 ^ 32
unfolding line_length
few-lines k row h l =
    lt_of_le_of_lt (mul-le-mul {n₁ = k} {m₁ = line_length row} {n₂ = 2 ^ 16} {m₂ = 2 * byte_values} l
    (omega (arith, start_small row h fields (omega arith)))) (lit< tt)
