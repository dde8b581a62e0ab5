-- What the loop of `loading::present` keeps.
use mathlib.Core.Bool.{false}
use lib.Dec.{ltb}
use Rattle.base.specs.Limits.{vertex_limit}
use Rattle.base.proofs.Filling.{Filled}
use Rattle.loading.proofs.present.Given as goal

abbrev pub invariant-loop-v : goal.invariant-loop-v
invariant-loop-v l = Filled vertex_limit (λ w. ltb w l.vertices) false l.v l.out
