-- `tables::table_network` meets its contract.
use mathlib.Core.Path.{◌≡◌, sym}
use native.Mathlib.Omega.{arith}
use lib.Seq.{length-take-le}
use Rattle.std.proofs.Common.{rules, Err}
use Rattle.network_text.proofs.Given.{Stored, stored, stored-meant, reply-refused}
use Rattle.table_text.specs.Text.{read_expanded}
use Rattle.table_text.proofs.Meaning.{expanded-valid}
use Rattle.base.proofs.Answers.{refuses}
use Rattle.tables.proofs.Same.{network-refused, network-read}
use Rattle.tables.proofs.table_network.Goals as goal
use Rattle.tables.proofs.table_network.Goals.{In_ok-vertices}

-- what the columns hold
holds : (c : In_ok-vertices) → let columns = c.read_table.new in
    Stored (read_expanded c.args.table.now) columns.low columns.high columns.cost c.in_ok-vertices.field-0.vertices
    c.in_ok-vertices.field-0.reserved
holds c = stored (expanded-valid _) c.in_ok-vertices.ensures

pub overflow_mul-edges : goal.overflow_mul-edges
overflow_mul-edges c = let w = holds (goal.at.overflow_mul-edges c).In_ok-vertices in record { fits = omega (arith, w.few) }

pub slice_bounds-low-end : goal.slice_bounds-low-end
slice_bounds-low-end c = (holds (goal.at.slice_bounds-low-end c).In_ok-vertices).low.within

pub slice_bounds-write_network-end : goal.slice_bounds-write_network-end
slice_bounds-write_network-end c = sym (length-take-le _ _ (holds (goal.at.slice_bounds-write_network-end c).In_ok-vertices).low.within)

pub slice_bounds-high-end : goal.slice_bounds-high-end
slice_bounds-high-end c = (holds (goal.at.slice_bounds-high-end c).In_ok-vertices).high.within

pub slice_bounds-write_network-end-2 : goal.slice_bounds-write_network-end-2
slice_bounds-write_network-end-2 c = sym (length-take-le _ _ (holds (goal.at.slice_bounds-write_network-end-2 c).In_ok-vertices).high.within)

pub slice_bounds-cost-end : goal.slice_bounds-cost-end
slice_bounds-cost-end c = (holds (goal.at.slice_bounds-cost-end c).In_ok-vertices).cost.within

pub slice_bounds-write_network-end-3 : goal.slice_bounds-write_network-end-3
slice_bounds-write_network-end-3 c = sym (length-take-le _ _ (holds (goal.at.slice_bounds-write_network-end-3 c).In_ok-vertices).cost.within)

pub returns-in_err-vertices : goal.returns-in_err-vertices
returns-in_err-vertices c =
    let e : c.from_residual.result ≡ Err c.in_err-vertices.field-0.0 = search rules in
    let none = reply-refused (read_expanded _) _ c.in_err-vertices.ensures.reply in
    let left = refuses _ _ _ (network-refused _ _ none) in
    record { reply = rw e left.0; network = left.1 }

pub returns : goal.returns
returns c =
    let w = holds (goal.at.returns c).In_ok-vertices in
    let written = c.write_network.ensures in
    record {
      reply = rw (network-read _ _ w.is, ← stored-meant w) written.0;
      network = rw (network-read _ _ w.is, ← stored-meant w) written.1;
    }
