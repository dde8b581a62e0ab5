-- `page::lines::put_lines` meets its contract.
use mathlib.Core.Path.{ap}
use native.Mathlib.Omega.{arith}
use lib.ListN.{length}
use Rattle.base.proofs.Picks.{pick-start, pick_end}
use Rattle.base.proofs.Writing.{written_none, written_all, piece-within, piece-room, piece-more}
use Rattle.graph.proofs.Differences.{cost-kept}
use Rattle.kept_text.specs.Text.{is_kept, kept_edges}
use Rattle.loading.proofs.Reading.{known-light}
use Rattle.page.specs.Page.{edge_line, edge_lines}
use Rattle.page.proofs.Pages.{line-left, line-passed, edge-small, cost-fitting, length-edge}
use Rattle.page.proofs.lines.put_lines.Goals as goal
use Rattle.page.proofs.lines.put_lines.Goals.{then-listed-edge, else-listed-edge}

pub loop-edge-init : goal.loop-edge-init
unfolding kept_edges
loop-edge-init c = rw pick-start (written_none _ c.args.page.now c.requires.long)

pub put_edge-at-requires : goal.put_edge-at-requires
put_edge-at-requires c =
    let g = c.args.network in
    let known = c.requires.known in
    let e = c.loop-edge.edge in
    let h = c.loop-edge-test.true in
    let due = line-left g (is_kept c.args.listed) g.edges e c.loop-edge.invariant h c.if-listed-edge.true in
    record {
      long = omega (arith, length-edge known e h, piece-room _ (edge_line _ _ _ _) _ _ _ _ due);
      edge = edge-small known e h;
      fitting = rw (cost-kept g (known-light known) e h) (cost-fitting known e h);
    }

pub overflow_add-at : goal.overflow_add-at
overflow_add-at c =
    let g = c.args.network in
    let e = c.loop-edge.edge in
    let h = c.loop-edge-test.true in
    let due = line-left g (is_kept c.args.listed) g.edges e c.loop-edge.invariant h c.if-listed-edge.true in
    let put = rw (cost-kept g (known-light c.requires.known) e h) at c.put_edge-at.ensures.0 in
    omega (arith, put, piece-within _ (edge_line _ _ _ _) _ _ _ _ due)

pub loop-edge-preserved : goal.loop-edge-preserved
loop-edge-preserved c =
    let g = c.args.network in
    let p = is_kept c.args.listed in
    let e = c.loop-edge.edge in
    let left = c.loop-edge.invariant in
    let h = c.loop-edge-test.true in
    elim c.if-listed-edge.branch [
      | then-listed-edge w ↦
          let put = rw (cost-kept g (known-light c.requires.known) e h) at w.put_edge-at.ensures in
          rw (w.page-is, w.at-is)
          (piece-more _ _ _ _ _ _ (line-left g p g.edges e left h w.if-listed-edge.true) _ _ put.0 put.1)
      | else-listed-edge w ↦ rw (w.page-is, w.at-is) (line-passed g p g.edges e left h w.if-listed-edge.false)
    ]

pub returns : goal.returns
unfolding edge_lines
returns c =
    let a = c.args in
    let none = pick_end (is_kept a.listed) a.network.edges c.loop-edge.edge c.loop-edge-test.false in
    written_all _ _ _ _ _ c.loop-edge.invariant (ap (λ es. length (edge_lines a.network es)) none)
