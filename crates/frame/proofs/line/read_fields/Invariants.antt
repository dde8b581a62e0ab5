-- What the loop of `frame::line::read_fields` keeps.
use Rattle.frame.specs.Table.{row_of}
use Rattle.frame.proofs.Passes.{ReadTo}
use Rattle.frame.proofs.line.read_fields.Given as goal

abbrev pub invariant-loop-field : goal.invariant-loop-field
invariant-loop-field l = ReadTo (row_of l.fn.kind) l.line l.number-items l.field
