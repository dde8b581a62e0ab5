-- `frame::line::read_line` meets its contract.
-- Assumes nothing.
use mathlib.Core.Path.{◌∙◌}
use native.Mathlib.Omega.{arith}
use Rattle.frame.specs.Table.{fields, row_of, line_length}
use Rattle.frame.specs.Line.{read_line}
use Rattle.base.proofs.Parts.{tail-part}
use Rattle.frame.proofs.Judging.{read_past}
use Rattle.frame.proofs.Rows.{row-listed, start_small}
use Rattle.frame.proofs.line.read_line.Goals as goal

pub returns-then-text-at : goal.returns-then-text-at
returns-then-text-at c = read_past (row_of c.args.kind) c.args.at c.args.text.now c.if-text-at.true

pub overflow_add-next : goal.overflow_add-next
unfolding line_length
overflow_add-next c =
    omega (arith, start_small (row_of c.args.kind) (row-listed c.args.kind) fields (omega arith))

pub returns : goal.returns
unfolding read_line
returns c = c.line_at.ensures ∙ rw (tail-part c.args.at c.args.text.now, c.length_of.ensures)
