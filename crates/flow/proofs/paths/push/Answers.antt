-- `push` meets its contract: an arc is never its own reverse.
use Prim.Native.Nat.{◌-◌}
use native.Mathlib.Omega.{arith}
use lib.Seq.{get_or-set_other}
use Rattle.base.specs.Columns.{at}
use Rattle.flow.specs.Arcs.{reverse}
use Rattle.flow.specs.Flow.{pushed}
use Rattle.flow.proofs.paths.push.Goals as goal

pub returns : goal.returns
unfolding pushed
returns c =
    let residual = c.args.residual.now in
    let arc = c.args.arc in
    rw (get_or-set_other residual arc (reverse arc) (at residual arc - 1) 0 (λ e. omega (arith, c.requires.arc_lt_arc_limit)))
