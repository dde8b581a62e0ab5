-- `rules::planner::plan_steps` meets its contract; the vertices that remain are fewer at each call.
use Prim.Native.Nat.{ℕ, ◌<◌}
use native.Mathlib.Omega.{arith}
use Rattle.graph.specs.State.{Splittable}
use Rattle.rules.proofs.Planning.{column-at-end, chosen-splittable, chosen-below, Taken, next-running}
use Rattle.rules.proofs.Planning.{next-fewer, next-room, room-stored, next-drop, next-kept, next-column}
use Rattle.rules.proofs.planner.+plan_steps.Goals as goal
use Rattle.rules.proofs.planner.+plan_steps.Goals.{After-chosen_step-step, After-split-network}

-- the chosen step can be carried out, at a vertex of the network
splits : {t : ℕ} (c : After-chosen_step-step t) → let s = c.chosen_step-step.result in Splittable c.args.network s.x s.y s.z
splits c = chosen-splittable c.requires.0 c.if-remaining-le2.false c.chosen_step-step.result c.chosen_step-step.ensures

below : {t : ℕ} (c : After-chosen_step-step t) → c.chosen_step-step.result.v < c.args.network.vertices
below c = chosen-below c.requires.0 c.if-remaining-le2.false c.chosen_step-step.result c.chosen_step-step.ensures

-- and this is the network that it leaves
taken : {t : ℕ} (c : After-split-network t) → Taken c.args.network c.chosen_step-step.result c.split-network.result
taken c = record {
  run = c.requires.0;
  more = c.if-remaining-le2.false;
  chosen = c.chosen_step-step.ensures;
  left = c.split-network.ensures;
}

pub returns-then-remaining-le2-clause-v : goal.returns-then-remaining-le2-clause-v
returns-then-remaining-le2-clause-v t c = column-at-end c.args.network c.if-remaining-le2.true (λ s. s.v) c.args.at c.args.steps.now.v

pub returns-then-remaining-le2-clause-x : goal.returns-then-remaining-le2-clause-x
returns-then-remaining-le2-clause-x t c = column-at-end c.args.network c.if-remaining-le2.true (λ s. s.x) c.args.at c.args.steps.now.x

pub returns-then-remaining-le2-clause-y : goal.returns-then-remaining-le2-clause-y
returns-then-remaining-le2-clause-y t c = column-at-end c.args.network c.if-remaining-le2.true (λ s. s.y) c.args.at c.args.steps.now.y

pub returns-then-remaining-le2-clause-z : goal.returns-then-remaining-le2-clause-z
returns-then-remaining-le2-clause-z t c = column-at-end c.args.network c.if-remaining-le2.true (λ s. s.z) c.args.at c.args.steps.now.z

pub returns-then-remaining-le2-clause-cost : goal.returns-then-remaining-le2-clause-cost
returns-then-remaining-le2-clause-cost t c = column-at-end c.args.network c.if-remaining-le2.true (λ s. s.cost) c.args.at c.args.steps.now.cost

pub put-requires : goal.put-requires
put-requires t c =
    let run = c.requires.0 in
    let at = (goal.at.put-requires t c).After-chosen_step-step in
    let w = splits at in (
      omega (arith, below at, run.vertex_room),
      omega (arith, w.x_edge, w.room),
      omega (arith, w.y_edge, w.room),
      omega (arith, w.z_edge, w.room),
      omega (arith, c.if-remaining-le2.false, c.requires.2),
    )

pub overflow_cast-step : goal.overflow_cast-step
overflow_cast-step t c =
    let v = below (goal.at.overflow_cast-step t c).After-chosen_step-step in
    record { fits = omega (arith, v, c.requires.0.vertex_room) }

pub split-network-requires : goal.split-network-requires
split-network-requires t c = splits (goal.at.split-network-requires t c).After-chosen_step-step

pub plan_steps-dropped-requires : goal.plan_steps-dropped-requires
plan_steps-dropped-requires t c =
    let k = taken (goal.at.plan_steps-dropped-requires t c).After-split-network in
    let a = c.args in
    let s = c.chosen_step-step.result in
    let r = c.requires.3 in
    let e = c.put.ensures in (
      next-fewer k c.decreases,
      (
        next-running k,
        c.requires.1,
        next-room k a.at _ c.requires.2,
        record {
          v_room = room-stored k a.at s.v a.steps.now.v _ r.v_room e.v;
          x_room = room-stored k a.at s.x a.steps.now.x _ r.x_room e.x;
          y_room = room-stored k a.at s.y a.steps.now.y _ r.y_room e.y;
          z_room = room-stored k a.at s.z a.steps.now.z _ r.z_room e.z;
          cost_room = room-stored k a.at s.cost a.steps.now.cost _ r.cost_room e.cost;
        },
      ),
    )

pub lift_marks-requires : goal.lift_marks-requires
lift_marks-requires t c =
    let w = splits (goal.at.lift_marks-requires t c).After-chosen_step-step in
    (omega (arith, w.x_edge, w.room), omega (arith, w.y_edge, w.room), omega (arith, w.z_edge, w.room))

pub returns-clause-dropped : goal.returns-clause-dropped
returns-clause-dropped t c =
    next-drop (taken (goal.at.returns-clause-dropped t c).After-split-network) c.plan_steps-dropped.ensures.dropped

pub returns-clause-marks : goal.returns-clause-marks
returns-clause-marks t c =
    next-kept (taken (goal.at.returns-clause-marks t c).After-split-network) c.plan_steps-dropped.ensures.marks
    c.lift_marks.ensures

pub returns-clause-v : goal.returns-clause-v
returns-clause-v t c =
    next-column (taken (goal.at.returns-clause-v t c).After-split-network) (λ p. p.v) c.args.at c.args.steps.now.v _ _
    c.requires.3.v_room c.put.ensures.v c.plan_steps-dropped.ensures.v

pub returns-clause-x : goal.returns-clause-x
returns-clause-x t c =
    next-column (taken (goal.at.returns-clause-x t c).After-split-network) (λ p. p.x) c.args.at c.args.steps.now.x _ _
    c.requires.3.x_room c.put.ensures.x c.plan_steps-dropped.ensures.x

pub returns-clause-y : goal.returns-clause-y
returns-clause-y t c =
    next-column (taken (goal.at.returns-clause-y t c).After-split-network) (λ p. p.y) c.args.at c.args.steps.now.y _ _
    c.requires.3.y_room c.put.ensures.y c.plan_steps-dropped.ensures.y

pub returns-clause-z : goal.returns-clause-z
returns-clause-z t c =
    next-column (taken (goal.at.returns-clause-z t c).After-split-network) (λ p. p.z) c.args.at c.args.steps.now.z _ _
    c.requires.3.z_room c.put.ensures.z c.plan_steps-dropped.ensures.z

pub returns-clause-cost : goal.returns-clause-cost
returns-clause-cost t c =
    next-column (taken (goal.at.returns-clause-cost t c).After-split-network) (λ p. p.cost) c.args.at c.args.steps.now.cost _ _
    c.requires.3.cost_room c.put.ensures.cost c.plan_steps-dropped.ensures.cost
