-- `kept_text::put_text` meets its contract.
use mathlib.Core.Path.{refl}
use native.Mathlib.Omega.{arith}
use lib.ListN.{length-append}
use mir.Facts.{to_z-of_z}
use Rattle.list_text.specs.Text.{list_text}
use Rattle.kept_text.specs.Text.{kept_edges, costs_text, kept_text}
use Rattle.base.proofs.Writing.{written_all, piece-room, piece-more}
use Rattle.kept_text.proofs.Texts.{costs-left, costs-place}
use Rattle.kept_text.proofs.put_text.Goals as goal

pub put_kept-at-requires : goal.put_kept-at-requires
unfolding kept_text
put_kept-at-requires c =
    let a = c.args in
    let both = length-append (list_text (kept_edges a.edges a.kept.now)) (costs_text a.cost a.unreserved) in
    (c.requires.0, omega (arith, c.requires.1, both))

pub slice_bounds-put_costs-count : goal.slice_bounds-put_costs-count
slice_bounds-put_costs-count c =
    let a = c.args in
    let p = c.put_kept-at.ensures in
    costs-place (kept_edges a.edges a.kept.now) a.cost a.unreserved a.text.now _ _ p.0 p.1 c.requires.1

pub slice_bounds-put_costs-start : goal.slice_bounds-put_costs-start
slice_bounds-put_costs-start c =
    let a = c.args in
    let p = c.put_kept-at.ensures in
    omega (arith, costs-place (kept_edges a.edges a.kept.now) a.cost a.unreserved a.text.now _ _ p.0 p.1 c.requires.1)

pub put_costs-requires : goal.put_costs-requires
put_costs-requires c =
    let a = c.args in
    let p = c.put_kept-at.ensures in
    let w = costs-left (kept_edges a.edges a.kept.now) a.cost a.unreserved a.text.now _ _ p.0 p.1 c.requires.1 in
    rw (to_z-of_z c.ranges.cost, to_z-of_z c.ranges.unreserved) (piece-room _ _ _ _ _ _ w)

pub returns : goal.returns
returns c =
    let a = c.args in
    let p = c.put_kept-at.ensures in
    let w = costs-left (kept_edges a.edges a.kept.now) a.cost a.unreserved a.text.now _ _ p.0 p.1 c.requires.1 in
    let e = rw (to_z-of_z c.ranges.cost, to_z-of_z c.ranges.unreserved) at c.put_costs.ensures in
    (written_all _ _ _ _ _ (piece-more _ _ _ _ _ _ w _ _ e.0 e.1) refl).1
