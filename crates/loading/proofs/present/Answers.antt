-- `loading::present` meets its contract.
use mathlib.Core.Path.{refl}
use native.Mathlib.Omega.{arith}
use Rattle.base.proofs.Filling.{filled_none, filled_more, filled-all}
use Rattle.loading.proofs.present.Goals as goal

pub loop-v-init : goal.loop-v-init
loop-v-init c = filled_none c.args.out.now c.requires

pub loop-v-preserved : goal.loop-v-preserved
loop-v-preserved c = filled_more c.loop-v.invariant (omega (arith, c.requires)) refl

pub returns : goal.returns
returns c = filled-all c.loop-v.invariant (omega (arith, c.requires))
