-- What the loop of `frame::line::put_line` keeps.
use Rattle.frame.specs.Table.{row_of}
use Rattle.frame.proofs.Passes.{PutTo}
use Rattle.frame.proofs.line.put_line.Given as goal

abbrev pub invariant-loop-field : goal.invariant-loop-field
invariant-loop-field l = PutTo (row_of l.kind) l.numbers l.initial.out l.out l.field
