-- `flow::reach::Reach::augment` meets its contract: the unit goes back along the trail, from number to lower number,
-- until it comes to a root.
use mathlib.Core.Bool.{Bool}
use mathlib.Core.List.{List}
use mathlib.Core.Path.{◌≡◌, sym, ◌∙◌, ap}
use Prim.Native.Nat.{ℕ}
use native.Mathlib.Omega.{arith}
use Rattle.base.specs.Columns.{at}
use Rattle.flow.proofs.Trails.{sent_by, partway-none, partway-on, partway-sent, number-most, pushable}
use Rattle.flow.proofs.reach.Reach.augment.Goals as goal
use Rattle.flow.proofs.reach.Reach.augment.Goals.{then-self, else-self}

pub loop-number-init : goal.loop-number-init
loop-number-init c = partway-none c.requires

pub bounds-self-number : goal.bounds-self-number
bounds-self-number c = omega (arith, number-most c.requires c.loop-number.invariant)

pub push-requires : goal.push-requires
push-requires c = rw c.if-self.true at (pushable c.requires c.loop-number.invariant c.loop-number-test.true)

pub push-requires-else-self : goal.push-requires-else-self
push-requires-else-self c = rw c.if-self.false at (pushable c.requires c.loop-number.invariant c.loop-number-test.true)

pub loop-number-preserved : goal.loop-number-preserved
loop-number-preserved c =
    let port : ℕ = at c.args.self.now.trail c.loop-number.number in
    let by : Bool → List ℕ = λ back. sent_by c.args.mate.now back c.loop-number.residual port in
    let pushes : c.if-self.residual ≡ by c.args.self.now.back =
    elim c.if-self.branch [
      | then-self w ↦ w.residual-is ∙ w.push.ensures ∙ ap by (sym w.if-self.true)
      | else-self w ↦ w.residual-is ∙ w.push-else-self.ensures ∙ ap by (sym w.if-self.false)
    ] in
    rw pushes (partway-on c.requires c.loop-number.invariant c.loop-number-test.true)

pub returns : goal.returns
returns c = partway-sent c.requires c.loop-number.invariant c.loop-number-test.false
