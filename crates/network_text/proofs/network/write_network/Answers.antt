-- `network_text::network::write_network` meets its contract.
use native.Mathlib.Omega.{arith}
use Rattle.std.proofs.Common.{rules, Err, ◌≡◌}
use mathlib.Core.Path.{◌∙◌}
use Rattle.frame.specs.Table.{line_length, start_of, place_of, total, bytes_of, padded}
use Rattle.base.specs.Answer.{refusal_of}
use Rattle.base.proofs.Answers.{refuses, fits, short, unless-met}
use Rattle.network_frames.proofs.Passed.{head_passed}
use Rattle.network_text.specs.Text.{write_network}
use Rattle.network_text.proofs.Texts.{edges-refused, tested, measured}
use Rattle.network_text.proofs.network.write_network.Goals as goal

pub returns-in_err-check_head : goal.returns-in_err-check_head
unfolding write_network
returns-in_err-check_head c =
    let e : c.from_residual.result ≡ Err c.in_err-check_head.field-0.0 = search rules in
    rw e (refuses _ _ _ (unless-met _ c.in_err-check_head.was c.check_head.ensures))

pub check_edges-requires : goal.check_edges-requires
unfolding refusal_of
check_edges-requires c = (head_passed _ c.args.reserved (omega (arith, c.in_ok-check_head.ensures))).few

pub returns-in_err-check_edges : goal.returns-in_err-check_edges
returns-in_err-check_edges c =
    let e : c.from_residual-in_err-check_edges.result ≡ Err c.in_err-check_edges.field-0.0 = search rules in
    rw e (refuses _ _ _ (edges-refused _ _ _ _ _ c.in_ok-check_head.ensures _ c.in_err-check_edges.ensures))

pub overflow_mul-length : goal.overflow_mul-length
overflow_mul-length c =
    omega (arith, (tested _ _ _ _ _ c.in_ok-check_head.ensures c.in_ok-check_edges.ensures).sound.few)

pub overflow_mul-length-2 : goal.overflow_mul-length-2
unfolding line_length start_of place_of total bytes_of padded
overflow_mul-length-2 c =
    rw c.length_of-2.ensures
    (record { fits = omega (arith, (tested _ _ _ _ _ c.in_ok-check_head.ensures c.in_ok-check_edges.ensures).sound.few) })

pub overflow_add-length : goal.overflow_add-length
unfolding line_length start_of place_of total bytes_of padded
overflow_add-length c =
    rw (c.length_of-2.ensures, c.length_of.ensures)
    (record { fits = omega (arith, (tested _ _ _ _ _ c.in_ok-check_head.ensures c.in_ok-check_edges.ensures).sound.few) })

pub returns-then-text-length : goal.returns-then-text-length
returns-then-text-length c =
    let w = tested _ _ _ _ _ c.in_ok-check_head.ensures c.in_ok-check_edges.ensures in
    let m = measured _ _ _ _ _ w c.length_of.ensures c.length_of-2.ensures in
    short _ _ _ w.text_is (rw m at c.if-text-length.true)

pub put_network-requires : goal.put_network-requires
put_network-requires c =
    let w = tested _ _ _ _ _ c.in_ok-check_head.ensures c.in_ok-check_edges.ensures in
    let m = measured _ _ _ _ _ w c.length_of.ensures c.length_of-2.ensures in
    (w.sound, rw (m ∙ w.long) at c.if-text-length.false)

pub returns : goal.returns
returns c =
    let w = tested _ _ _ _ _ c.in_ok-check_head.ensures c.in_ok-check_edges.ensures in
    let m = measured _ _ _ _ _ w c.length_of.ensures c.length_of-2.ensures in
    rw (m, c.put_network.ensures) (fits _ _ _ w.text_is (rw m at c.if-text-length.false))
