-- `page::put_page` meets its contract.
use mathlib.Core.Path.{refl}
use native.Mathlib.Omega.{arith}
use Rattle.base.proofs.Writing.{written_all, piece-room, piece-more}
use Rattle.kept_text.specs.Text.{kept_edges}
use Rattle.loading.proofs.Reading.{known-light}
use Rattle.page.specs.Page.{sum_line}
use Rattle.page.proofs.Pages.{kept-below, kept-few, sum-read, sum-fitting, lines_fit, sum_left, sum-place}
use Rattle.page.proofs.Printing.{length-sum}
use Rattle.page.proofs.put_page.Goals as goal

pub kept_cost-sum-requires : goal.kept_cost-sum-requires
kept_cost-sum-requires c = let k = c.requires.known in (known-light k, k.edge_room)

pub put_lines-at-requires : goal.put_lines-at-requires
put_lines-at-requires c =
    let a = c.args in
    let es = kept_edges a.network.edges a.listed in
    record { known = c.requires.known; long = lines_fit a.network es _ c.requires.long }

pub slice_bounds-put_sum-count : goal.slice_bounds-put_sum-count
slice_bounds-put_sum-count c =
    let a = c.args in
    let p = c.put_lines-at.ensures in
    sum-place a.network (kept_edges a.network.edges a.listed) a.page.now _ _ p.0 p.1 c.requires.long

pub slice_bounds-put_sum-start : goal.slice_bounds-put_sum-start
slice_bounds-put_sum-start c =
    let a = c.args in
    let p = c.put_lines-at.ensures in
    omega (arith, sum-place a.network (kept_edges a.network.edges a.listed) a.page.now _ _ p.0 p.1 c.requires.long)

pub put_sum-requires : goal.put_sum-requires
put_sum-requires c =
    let a = c.args in
    let es = kept_edges a.network.edges a.listed in
    let p = c.put_lines-at.ensures in
    let k = c.requires.known in
    let fit = sum-fitting k es (kept-below a.network a.listed) (kept-few k a.listed) in
    let due = sum_left a.network es a.page.now _ _ p.0 p.1 c.requires.long in
    record {
      long = omega (arith, length-sum _ fit, piece-room _ (sum_line _) _ _ _ _ due);
      fitting = rw (sum-read k a.listed c.kept_cost-sum.ensures) fit;
    }

pub returns : goal.returns
returns c =
    let a = c.args in
    let p = c.put_lines-at.ensures in
    let due = sum_left a.network (kept_edges a.network.edges a.listed) a.page.now _ _ p.0 p.1 c.requires.long in
    let put = rw (sum-read c.requires.known a.listed c.kept_cost-sum.ensures) at c.put_sum.ensures in
    (written_all _ _ _ _ _ (piece-more _ _ _ _ _ _ due _ _ refl put) refl).1
