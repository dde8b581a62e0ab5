-- `frame::line::read_field` meets its contract.
-- Assumes nothing.
use mathlib.Core.Path.{◌∙◌}
use native.Mathlib.Omega.{arith}
use lib.ListN.{length-take}
use Rattle.frame.proofs.Rows.{Field, field_at}
use Rattle.frame.proofs.line.read_field.Goals as goal

pub slice_bounds-read_number-count : goal.slice_bounds-read_number-count
slice_bounds-read_number-count c =
    let field : let w = c.requires.0 in Field w.row c.args.field c.start_in-start.result c.start_in-end.result =
    let w = c.requires.0 in
    field_at w.row c.args.field _ _ w.listed c.requires.1
    (c.start_in-start.ensures w.row w.listed w.entries_are)
    (c.start_in-end.ensures w.row w.listed w.entries_are) in
    field.upward

pub slice_bounds-read_number-start : goal.slice_bounds-read_number-start
slice_bounds-read_number-start c =
    let field : let w = c.requires.0 in Field w.row c.args.field c.start_in-start.result c.start_in-end.result =
    let w = c.requires.0 in
    field_at w.row c.args.field _ _ w.listed c.requires.1
    (c.start_in-start.ensures w.row w.listed w.entries_are)
    (c.start_in-end.ensures w.row w.listed w.entries_are) in
    let f = field in omega arith

pub slice_bounds-read_number-end : goal.slice_bounds-read_number-end
slice_bounds-read_number-end c =
    let field : let w = c.requires.0 in Field w.row c.args.field c.start_in-start.result c.start_in-end.result =
    let w = c.requires.0 in
    field_at w.row c.args.field _ _ w.listed c.requires.1
    (c.start_in-start.ensures w.row w.listed w.entries_are)
    (c.start_in-end.ensures w.row w.listed w.entries_are) in
    let f = field in omega (arith, c.requires.0.long)

pub read_number-requires : goal.read_number-requires
read_number-requires c =
    let field : let w = c.requires.0 in Field w.row c.args.field c.start_in-start.result c.start_in-end.result =
    let w = c.requires.0 in
    field_at w.row c.args.field _ _ w.listed c.requires.1
    (c.start_in-start.ensures w.row w.listed w.entries_are)
    (c.start_in-end.ensures w.row w.listed w.entries_are) in
    let f = field in (simp length-take (omega arith), c.requires.2)

pub returns : goal.returns
returns c =
    λ row l e.
    let p = c.start_in-start.ensures row l e in
    let f = field_at row c.args.field _ _ l c.requires.1 p (c.start_in-end.ensures row l e) in
    c.read_number.ensures ∙ rw (f.count, p)
