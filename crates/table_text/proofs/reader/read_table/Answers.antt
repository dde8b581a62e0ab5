-- `table_text::reader::read_table` meets its contract.
use mathlib.Core.Path.{◌≡◌, refl}
use native.Mathlib.Omega.{arith}
use borrow.Author.Rules.{rules}
use Rattle.std.proofs.Common.{Err}
use Rattle.network_text.specs.Text.{meaning_of}
use Rattle.network_text.proofs.Reading.{columns-refused, columns-read}
use Rattle.table_text.specs.Text.{stands_for}
use Rattle.table_text.proofs.Reading.{head-refused, reading-none, reading-refused, reading-layable}
use Rattle.table_text.proofs.Reading.{reading-next, reading-left, reading-off, reading-end}
use Rattle.table_text.proofs.Reading.{expanded-refused, expanded-read}
use Rattle.table_text.proofs.reader.read_table.Goals as goal

pub returns-in_err-head : goal.returns-in_err-head
returns-in_err-head c =
    let e : c.from_residual.result ≡ Err c.in_err-head.field-0.0 = search rules in
    rw e (columns-refused (expanded-refused _ (head-refused _ c.in_err-head.ensures)) refl refl refl refl)

pub loop-init : goal.loop-init
loop-init c = reading-none c.in_ok-head.ensures

pub returns-in_err-span : goal.returns-in_err-span
returns-in_err-span c =
    let w = c.loop.invariant in
    let e : c.from_residual-in_err-span.result ≡ Err c.in_err-span.field-0.0 = search rules in
    rw e
    (columns-refused (expanded-refused _ (reading-refused w c.loop-test.true c.in_err-span.ensures)) refl w.lows.size
    w.highs.size w.costs.size)

pub lay-requires : goal.lay-requires
lay-requires c = reading-layable c.loop.invariant c.loop-test.true c.in_ok-span.ensures c.requires

pub overflow_add-edges : goal.overflow_add-edges
overflow_add-edges c =
    let room = (reading-layable c.loop.invariant c.loop-test.true c.in_ok-span.ensures c.requires).low_room in
    omega (arith, room, c.loop.invariant.lows.size, c.well_formed)

pub loop-preserved : goal.loop-preserved
loop-preserved c =
    let e = c.lay.ensures in
    reading-next c.loop.invariant c.loop-test.true c.in_ok-span.ensures c.requires e.low e.high e.cost

pub returns-then-at-text : goal.returns-then-at-text
returns-then-at-text c =
    let w = c.loop.invariant in
    columns-refused (expanded-refused _ (reading-left w c.loop-test.false c.if-at-text.true)) refl w.lows.size
    w.highs.size w.costs.size

pub returns-then-edges-vertices : goal.returns-then-edges-vertices
returns-then-edges-vertices c =
    let w = c.loop.invariant in
    columns-refused
    (expanded-refused _ (reading-off w c.loop-test.false c.if-at-text.false c.if-edges-vertices.true)) refl w.lows.size
    w.highs.size w.costs.size

pub returns : goal.returns
unfolding stands_for meaning_of
returns c =
    let w = c.loop.invariant in
    columns-read (expanded-read _ (reading-end w c.loop-test.false c.if-at-text.false c.if-edges-vertices.false)) refl refl
    w.lows.holds w.highs.holds w.costs.holds
