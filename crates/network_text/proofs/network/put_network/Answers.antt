-- `network_text::network::put_network` meets its contract.
use Prim.Native.Nat.{◌+◌, ◌*◌, ◌≤◌}
use native.Mathlib.Omega.{arith}
use lib.ListN.{length, length-drop}
use Rattle.frame.specs.Table.{EDGE, line_length}
use Rattle.base.proofs.Parts.{tail-part}
use Rattle.network_text.specs.Text.{network_length}
use Rattle.network_text.proofs.Writing.{behind-head}
use Rattle.network_text.proofs.network.put_network.Goals as goal

pub put_line-at-requires : goal.put_line-at-requires
unfolding network_length
put_line-at-requires c = omega (arith, c.requires.1)

pub slice_bounds-put_edges-count : goal.slice_bounds-put_edges-count
unfolding network_length
slice_bounds-put_edges-count c = omega (arith, c.put_line-at.ensures.0, c.put_line-at.auto.out, c.requires.1)

pub slice_bounds-put_edges-start : goal.slice_bounds-put_edges-start
unfolding network_length
slice_bounds-put_edges-start c = omega (arith, c.put_line-at.ensures.0, c.put_line-at.auto.out, c.requires.1)

pub put_edges-requires : goal.put_edges-requires
unfolding network_length
put_edges-requires c =
    let behind : c.put_line-at.result + 2 * c.args.vertices * line_length EDGE ≤ length c.put_line-at.new.out =
    omega (arith, c.put_line-at.ensures.0, c.put_line-at.auto.out, c.requires.1) in
    let v = c.requires.0 in
    record {
      low_count = v.low_count;
      high_count = v.high_count;
      cost_count = v.cost_count;
      limited = v.limited;
      room = rw tail-part (omega (arith, behind, length-drop c.put_line-at.result c.put_line-at.new.out));
    }

pub returns : goal.returns
unfolding network_length
returns c =
    let h = c.requires.1 in
    behind-head _ _ _ _ (omega (arith, h)) c.fields.ensures c.put_line-at.ensures.0
    c.put_line-at.ensures.1 c.put_edges.ensures
