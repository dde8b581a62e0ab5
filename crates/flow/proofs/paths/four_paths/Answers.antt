-- `four_paths` meets its contract: after each round one unit more is sent, until four are, or a cut between the
-- terminals is found.
use mathlib.Core.Path.{refl}
use native.Mathlib.Omega.{arith}
use Rattle.base.proofs.Bools.{never}
use Rattle.flow.proofs.Rounds.{level-none, level-on, level-short, level-four}
use Rattle.flow.proofs.paths.four_paths.Goals as goal

pub loop-init : goal.loop-init
loop-init c = level-none _ _ _

pub returns-then-not-round : goal.returns-then-not-round
returns-then-not-round c = λ g laid. (
  λ e. never e,
  λ apart.
      let same = (rw c.unwrap-ends.ensures at c.as_array.ensures.cases).same in
      absurd
      (level-short c.loop.invariant (omega arith) c.if-not-round.true c.round.ensures g (rw same laid) apart),
)

pub loop-preserved : goal.loop-preserved
loop-preserved c = level-on c.loop.invariant (omega arith) c.if-not-round.false c.round.ensures

pub returns : goal.returns
returns c = λ g laid.
    let same = (rw c.unwrap-ends.ensures at c.as_array.ensures.cases).same in
    (λ _. level-four c.loop.invariant (omega arith) g (rw same laid), λ _. refl)
