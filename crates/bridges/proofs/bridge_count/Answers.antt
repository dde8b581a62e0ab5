-- `bridges::bridge_count` meets its contract: the edges that are found are the bridges.
use Prim.Native.Nat.{◌≤◌}
use mathlib.Core.Path.{◌≡◌, refl, ◌∙◌}
use native.Mathlib.Omega.{arith}
use borrow.Author.Rules.{rules}
use lib.ListN.{length}
use Rattle.base.specs.Limits.{vertex_limit}
use Rattle.bridges.proofs.Finding.{found-count}
use Rattle.bridges.proofs.bridge_count.Goals as goal

pub returns : goal.returns
returns c =
    let g = c.requires.searchable in
    let long : length c.args.network.present ≡ vertex_limit = search rules in
    let few : c.args.network.vertices ≤ vertex_limit = omega (arith, g.present_room) in
    let forest = c.of-forest.ensures _ c.requires.table_value in
    let noted = c.note_all.ensures _ _ forest refl refl in
    let points = c.raise_all.ensures _ _ _ _ _ _ forest refl refl (λ e h. (g.low_below e h, g.high_below e h)) noted in
    c.count_found.ensures ∙ found-count _ _ _ forest _ g few points
