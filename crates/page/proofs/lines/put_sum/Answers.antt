-- `page::lines::put_sum` meets its contract.
use mathlib.Core.Path.{◌∙◌, sym}
use native.Mathlib.Omega.{arith}
use lib.ListN.{length-set}
use lib.Seq.{length_front, length-take-le}
use mir.Facts.{to_z-of_z}
use Rattle.page.proofs.Printing.{sum-line}
use Rattle.page.proofs.lines.put_sum.Goals as goal

pub slice_bounds-put_spaces-end-2 : goal.slice_bounds-put_spaces-end-2
slice_bounds-put_spaces-end-2 c = sym (length-take-le 18 c.args.line.now (omega (arith, c.requires.long)))

pub shape_of-line : goal.shape_of-line
shape_of-line c =
    let line = c.args.line.now in
    length-set c.put_column.new.line 36 _ ∙ c.put_column.auto.line
    ∙ length_front line c.put_spaces.new.out 18 c.put_spaces.auto.out

pub returns : goal.returns
returns c =
    let sum = c.args.sum in
    rw (rw (to_z-of_z c.ranges.sum) at c.put_column.ensures)
    (sum-line c.args.line.now c.requires.long sum c.requires.fitting _ c.put_spaces.ensures)
