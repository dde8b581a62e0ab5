-- `page::lines::put_edge` meets its contract.
use mathlib.Core.Path.{◌≡◌, ◌∙◌, sym}
use Prim.Native.Nat.{ℕ, ◌<◌}
use native.Mathlib.Omega.{arith}
use lib.IntN.{pos}
use lib.ListN.{length-set}
use mir.Syntax.{w64}
use mir.Val.{to_z}
use mir.Facts.{to_z-of_z, to_z_pos}
use borrow.Author.Rules.{rules}
use Rattle.base.specs.Limits.{edge_limit}
use Rattle.page.specs.Room.{column}
use Rattle.page.proofs.Printing.{number_fits, edge-line, length-line}
use Rattle.page.proofs.lines.put_edge.Goals as goal

-- a small number is read from its bits as it is
small : (v : ℕ) → v < edge_limit → to_z w64 v ≡ pos v
small v h = to_z_pos w64 {n = v} (omega arith)

pub put_column-requires : goal.put_column-requires
put_column-requires c =
    record {
      ordered = omega arith;
      within = omega (arith, c.requires.long);
      fitting = rw (small c.args.edge c.requires.edge) (number_fits c.args.edge c.requires.edge);
    }

pub put_column-requires-2 : goal.put_column-requires-2
put_column-requires-2 c =
    let l : c.args.low < edge_limit = search rules in
    record {
      ordered = omega arith;
      within = omega (arith, c.requires.long, c.put_column.auto.line);
      fitting = rw (small c.args.low l) (number_fits c.args.low l);
    }

pub put_column-requires-3 : goal.put_column-requires-3
put_column-requires-3 c =
    let l : c.args.high < edge_limit = search rules in
    record {
      ordered = omega arith;
      within = omega (arith, c.requires.long, c.put_column.auto.line, c.put_column-2.auto.line);
      fitting = rw (small c.args.high l) (number_fits c.args.high l);
    }

pub shape_of-line : goal.shape_of-line
shape_of-line c =
    length-set c.put_column-4.new.line 36 _ ∙ c.put_column-4.auto.line ∙ c.put_column-3.auto.line
    ∙ c.put_column-2.auto.line ∙ c.put_column.auto.line

pub returns : goal.returns
returns c =
    let a = c.args in
    let old = a.line.now in
    let l : a.low < edge_limit = search rules in
    let h : a.high < edge_limit = search rules in
    let one : c.put_column.new.line ≡ column 0 6 (pos a.edge) old =
    rw (small a.edge c.requires.edge) at c.put_column.ensures in
    let two : c.put_column-2.new.line ≡ column 6 12 (pos a.low) (column 0 6 (pos a.edge) old) =
    rw (small a.low l, one) at c.put_column-2.ensures in
    let three = rw (small a.high h, two) at c.put_column-3.ensures in
    let four = rw (to_z-of_z c.ranges.cost, three) at c.put_column-4.ensures in
    let edge = c.requires.edge in
    let fit = c.requires.fitting in (
      sym (length-line a.edge a.low a.high a.cost edge l h fit),
      rw four (edge-line old c.requires.long a.edge a.low a.high a.cost edge l h fit),
    )
