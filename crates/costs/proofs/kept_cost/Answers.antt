-- `costs::kept_cost` meets its contract.
use mathlib.Core.Path.{◌≡◌, sym, ◌∙◌, ap}
use native.Mathlib.Omega.{arith}
use Rattle.costs.proofs.Totals.{cost_among, among_none, among-marked, among-unmarked, next-fits, next-is, among-all}
use Rattle.costs.proofs.kept_cost.Goals as goal
use Rattle.costs.proofs.kept_cost.Goals.{then-kept-e, else-kept-e}

pub loop-e-init : goal.loop-e-init
loop-e-init c = sym (among_none c.args.network c.args.kept.marks)

pub overflow_add-sum : goal.overflow_add-sum
overflow_add-sum c =
    next-fits c.args.network c.requires.0 c.args.kept.marks c.loop-e.e c.loop-e-test.true c.loop-e.invariant

pub loop-e-preserved : goal.loop-e-preserved
loop-e-preserved c =
    let g = c.args.network in
    let K = c.args.kept.marks in
    let e = c.loop-e.e in
    elim c.if-kept-e.branch [
      | then-kept-e w ↦
          w.sum-is ∙ next-is g c.requires.0 K e c.loop-e-test.true c.loop-e.invariant
          ∙ sym (among-marked g K e w.if-kept-e.true)
      | else-kept-e w ↦ w.sum-is ∙ c.loop-e.invariant ∙ sym (among-unmarked g K e w.if-kept-e.false)
    ]

pub returns : goal.returns
returns c =
    let e : c.loop-e.e ≡ c.args.network.edges = omega arith in
    c.loop-e.invariant ∙ ap (cost_among c.args.network c.args.kept.marks) e
    ∙ among-all c.args.network c.args.kept.marks
