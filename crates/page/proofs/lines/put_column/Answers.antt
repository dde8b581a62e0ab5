-- `page::lines::put_column` meets its contract.
use mathlib.Core.Path.{◌≡◌, ◌∙◌, ap}
use Prim.Native.Nat.{◌-◌}
use native.Mathlib.Omega.{arith}
use lib.ListN.{length, take, drop, length-drop}
use lib.Seq.{length-take-le}
use mir.Syntax.{w64}
use mir.Val.{to_z, of_z}
use mir.Facts.{to_z-of_z}
use Rattle.decimal.specs.BaseTen.{fits}
use Rattle.page.proofs.Printing.{column-put}
use Rattle.page.proofs.lines.put_column.Goals as goal

pub put_aligned-requires : goal.put_aligned-requires
put_aligned-requires c =
    let line = c.args.line.now in
    let a = c.args.start in
    let e = c.args.end in
    let wide : length (take (e - a) (drop a line)) ≡ e - a =
    length-take-le (e - a) (drop a line) (omega (arith, length-drop a line, c.requires.within)) in
    ap (λ w. fits w (to_z w64 (of_z w64 c.args.number))) wide ∙ rw (to_z-of_z c.ranges.number) c.requires.fitting

pub returns : goal.returns
returns c =
    column-put c.args.start c.args.end c.args.number c.args.line.now _ c.requires.ordered
    c.requires.within (rw (to_z-of_z c.ranges.number) at c.put_aligned.ensures)
