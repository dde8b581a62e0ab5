-- `network_text::network::read_columns` meets its contract.
use mathlib.Core.Path.{refl}
use native.Mathlib.Omega.{arith}
use Rattle.std.proofs.Common.{rules, Err, ◌≡◌}
use Rattle.network_frames.proofs.Passed.{head_fine, edge-fine}
use Rattle.network_text.proofs.Head.{head-refused}
use Rattle.network_text.proofs.Reading.{reading-none, reading-refused, reading-next}
use Rattle.network_text.proofs.Reading.{reading-left, reading-end, columns-refused, columns-read}
use Rattle.network_text.proofs.network.read_columns.Goals as goal

pub returns-in_err-head : goal.returns-in_err-head
returns-in_err-head c =
    let e : c.from_residual.result ≡ Err c.in_err-head.field-0.0 = search rules in
    rw e (columns-refused (head-refused _ c.in_err-head.ensures) refl refl refl refl)

pub overflow_mul-i-end : goal.overflow_mul-i-end
overflow_mul-i-end c = omega (arith, (head_fine _ c.in_ok-head.ensures).few)

pub loop-i-init : goal.loop-i-init
loop-i-init c = reading-none c.in_ok-head.ensures

pub returns-in_err-edge : goal.returns-in_err-edge
returns-in_err-edge c =
    let e : c.from_residual-in_err-edge.result ≡ Err c.in_err-edge.field-0.0 = search rules in
    let w = c.loop-i.invariant in
    rw e
    (columns-refused (reading-refused w c.loop-i-test.true c.in_err-edge.ensures) refl w.lows.size w.highs.size w.costs.size)

pub overflow_cast-low : goal.overflow_cast-low
overflow_cast-low c =
    let p = (edge-fine _ _ _ _ c.in_ok-edge.ensures).passed in
    omega (arith, p.rising, p.inside, c.loop-i.invariant.head.few)

pub overflow_cast-high : goal.overflow_cast-high
overflow_cast-high c =
    let p = (edge-fine _ _ _ _ c.in_ok-edge.ensures).passed in
    omega (arith, p.inside, c.loop-i.invariant.head.few)

pub loop-i-preserved : goal.loop-i-preserved
loop-i-preserved c =
    let next = reading-next c.loop-i.invariant c.loop-i-test.true c.in_ok-edge.ensures c.requires in
    search rules

pub returns-then-at-text : goal.returns-then-at-text
returns-then-at-text c =
    let w = c.loop-i.invariant in
    columns-refused (reading-left w (omega arith) c.if-at-text.true) refl w.lows.size w.highs.size
    w.costs.size

pub returns : goal.returns
returns c =
    let w = c.loop-i.invariant in
    let v = reading-end w (omega arith) c.if-at-text.false in
    columns-read v.is v.vertices v.reserved v.lows v.highs v.costs
