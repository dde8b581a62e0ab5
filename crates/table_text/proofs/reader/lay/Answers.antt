-- `table_text::reader::lay` meets its contract.
use native.Mathlib.Omega.{arith}
use mir.Syntax.{w64}
use mir.Val.{SFits}
use mir.Facts.{to_z-of_z}
use Rattle.table_text.proofs.Laying.{laid-filled}
use Rattle.table_text.proofs.reader.lay.Goals as goal

pub returns-clause-low : goal.returns-clause-low
returns-clause-low c = laid-filled _ _ _ _ c.requires.low_room (c.fill.ensures.after (λ y e. e))

pub returns-clause-high : goal.returns-clause-high
returns-clause-high c = laid-filled _ _ _ _ c.requires.high_room (c.fill-2.ensures.after (λ y e. e))

pub returns-clause-cost : goal.returns-clause-cost
returns-clause-cost c =
    let small : SFits w64 c.args.span.cost = record { sfits = omega arith } in
    laid-filled _ _ _ _ c.requires.cost_room (rw (to_z-of_z small) at (c.fill-3.ensures.after (λ y e. e)))
