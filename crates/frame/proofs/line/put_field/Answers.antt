-- `frame::line::put_field` meets its contract.
-- Assumes nothing.
use Prim.Native.Nat.{◌≤◌}
use native.Mathlib.Omega.{arith}
use lib.ListN.{length}
use Rattle.frame.proofs.Rows.{field_at}
use Rattle.frame.proofs.Passes.{field_put}
use Rattle.frame.proofs.line.put_field.Goals as goal

pub slice_bounds-put_number-count : goal.slice_bounds-put_number-count
slice_bounds-put_number-count c =
    let field : (c.start_in-from.result ≤ c.start_in-to.result) × (c.start_in-to.result ≤ length c.args.out.now) =
    let w = c.requires.0 in
    let f =
    field_at w.row c.args.field _ _ w.listed c.requires.1
    (c.start_in-from.ensures w.row w.listed w.entries_are)
    (c.start_in-to.ensures w.row w.listed w.entries_are) in
    (f.upward, omega (arith, f.inside, w.long)) in
    field.0

pub slice_bounds-put_number-start : goal.slice_bounds-put_number-start
slice_bounds-put_number-start c =
    let field : (c.start_in-from.result ≤ c.start_in-to.result) × (c.start_in-to.result ≤ length c.args.out.now) =
    let w = c.requires.0 in
    let f =
    field_at w.row c.args.field _ _ w.listed c.requires.1
    (c.start_in-from.ensures w.row w.listed w.entries_are)
    (c.start_in-to.ensures w.row w.listed w.entries_are) in
    (f.upward, omega (arith, f.inside, w.long)) in
    omega (arith, field)

pub slice_bounds-put_number-end : goal.slice_bounds-put_number-end
slice_bounds-put_number-end c =
    let field : (c.start_in-from.result ≤ c.start_in-to.result) × (c.start_in-to.result ≤ length c.args.out.now) =
    let w = c.requires.0 in
    let f =
    field_at w.row c.args.field _ _ w.listed c.requires.1
    (c.start_in-from.ensures w.row w.listed w.entries_are)
    (c.start_in-to.ensures w.row w.listed w.entries_are) in
    (f.upward, omega (arith, f.inside, w.long)) in
    field.1

pub returns : goal.returns
returns c =
    let field : (c.start_in-from.result ≤ c.start_in-to.result) × (c.start_in-to.result ≤ length c.args.out.now) =
    let w = c.requires.0 in
    let f =
    field_at w.row c.args.field _ _ w.listed c.requires.1
    (c.start_in-from.ensures w.row w.listed w.entries_are)
    (c.start_in-to.ensures w.row w.listed w.entries_are) in
    (f.upward, omega (arith, f.inside, w.long)) in
    λ row l e.
    field_put row c.args.field _ _ _ c.args.out.now _ l c.requires.1 field.1
    (c.start_in-from.ensures row l e) (c.start_in-to.ensures row l e) c.put_number.ensures
