-- `trials::solver::plan` meets its contract.
use mathlib.Core.Path.{sym}
use Prim.Native.Nat.{◌≤◌}
use native.Mathlib.Omega.{arith}
use lib.ListN.{length}
use lib.Seq.{length-take-le}
use Rattle.tables.specs.Services.{table_plan_given}
use Rattle.trials.proofs.Fits.{written-fits}
use Rattle.trials.proofs.solver.plan.Goals as goal
use Rattle.trials.proofs.solver.plan.Goals.{In-Ok}

-- both texts are in their buffers
fits : (o : _) (c : In-Ok o) → (c.in-Ok.lengths.chain ≤ length c.plan_table.new.chain)
    × (c.in-Ok.lengths.kept ≤ length c.plan_table.new.kept)
unfolding table_plan_given
fits o c =
    let w = written-fits _ _ _ _ c.in-Ok.ensures.reply in
    (omega (arith, w.0, c.plan_table.auto.chain), omega (arith, w.1, c.plan_table.auto.kept))

pub slice_bounds-chain-end : goal.slice_bounds-chain-end
slice_bounds-chain-end o c = (fits o (goal.at.slice_bounds-chain-end o c).In-Ok).0

pub slice_bounds-write_all-end : goal.slice_bounds-write_all-end
slice_bounds-write_all-end o c =
    sym (length-take-le _ c.plan_table.new.chain (fits o (goal.at.slice_bounds-write_all-end o c).In-Ok).0)

pub slice_bounds-kept-end : goal.slice_bounds-kept-end
slice_bounds-kept-end o c = (fits o (goal.at.slice_bounds-kept-end o c).In-Ok).1

pub slice_bounds-write_all-end-in-Ok : goal.slice_bounds-write_all-end-in-Ok
slice_bounds-write_all-end-in-Ok o c =
    sym (length-take-le _ c.plan_table.new.kept (fits o (goal.at.slice_bounds-write_all-end-in-Ok o c).In-Ok).1)
