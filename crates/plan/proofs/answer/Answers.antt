-- `plan::answer` meets its contract.
use mathlib.Core.Path.{sym}
use Prim.Native.Nat.{◌≤◌}
use native.Mathlib.Omega.{arith}
use lib.Seq.{length-take-le}
use Rattle.base.specs.Lengths.{longest_kept, longest_chain}
use Rattle.plan.proofs.Written.{written-short}
use Rattle.plan.proofs.answer.Goals as goal
use Rattle.plan.proofs.answer.Goals.{In-Ok}

-- both lengths are within the longest
short : (o : _) (c : In-Ok o) → (c.in-Ok.lengths.chain ≤ longest_chain) × (c.in-Ok.lengths.kept ≤ longest_kept)
short o c = written-short _ _ c.in-Ok.ensures.reply

pub slice_bounds-chain-end : goal.slice_bounds-chain-end
slice_bounds-chain-end o c = omega (arith, (short o (goal.at.slice_bounds-chain-end o c).In-Ok).0)

pub slice_bounds-write_all-end : goal.slice_bounds-write_all-end
slice_bounds-write_all-end o c =
    sym (length-take-le _ c.plan_roomy.new.chain (omega (arith, (short o (goal.at.slice_bounds-write_all-end o c).In-Ok).0)))

pub slice_bounds-kept-end : goal.slice_bounds-kept-end
slice_bounds-kept-end o c = omega (arith, (short o (goal.at.slice_bounds-kept-end o c).In-Ok).1)

pub slice_bounds-write_all-end-in-Ok : goal.slice_bounds-write_all-end-in-Ok
slice_bounds-write_all-end-in-Ok o c =
    sym (length-take-le _ c.plan_roomy.new.kept (omega (arith, (short o (goal.at.slice_bounds-write_all-end-in-Ok o c).In-Ok).1)))
