-- `rules::planner::plan_ending` meets its contract.
use mathlib.Core.Path.{◌≡◌, sym, ◌∙◌, ap}
use native.Mathlib.Omega.{arith}
use Rattle.graph.specs.Plan.{chosen_drop, plan_drop, plan_kept}
use Rattle.graph.proofs.Plans.{chosen-drop-passes}
use Rattle.graph.proofs.Rules.{ending-ruled}
use Rattle.rules.specs.Endings.{chosen_ending}
use Rattle.rules.proofs.Ends.{Two, two-of}
use Rattle.rules.proofs.planner.plan_ending.Goals as goal
use Rattle.rules.proofs.planner.plan_ending.Goals.{After-chosen_ending-ending}

-- the two edges that are kept, and the dropped one
kept : (c : After-chosen_ending-ending) → let e = c.chosen_ending-ending.result in
    let passes = chosen-drop-passes c.requires.0.run.sound c.requires.0.two in
    Two c.requires.0 (chosen_drop c.args.network) passes e.low e.high
unfolding chosen_ending
kept c =
    two-of c.requires.0 (chosen_drop c.args.network) (chosen-drop-passes c.requires.0.run.sound c.requires.0.two) _ _
    (ap (λ d. d.low) c.chosen_ending-ending.ensures) (ap (λ d. d.high) c.chosen_ending-ending.ensures)

dropped-is : (c : After-chosen_ending-ending) → c.chosen_ending-ending.result.dropped ≡ chosen_drop c.args.network
unfolding chosen_ending
dropped-is c = ap (λ d. d.dropped) c.chosen_ending-ending.ensures

pub mark_two-requires : goal.mark_two-requires
mark_two-requires c = let w = kept (goal.at.mark_two-requires c).After-chosen_ending-ending in (c.requires.1, w.low_below, w.high_below)

pub overflow_cast-result : goal.overflow_cast-result
overflow_cast-result c =
    let is = dropped-is (goal.at.overflow_cast-result c).After-chosen_ending-ending in
    let d = chosen_drop c.args.network in
    let below =
    (ending-ruled c.args.network d (chosen-drop-passes c.requires.0.run.sound c.requires.0.two)).one.number in
    record { fits = omega (arith, below, c.requires.0.run.edge_room, is) }

pub returns : goal.returns
unfolding plan_drop plan_kept
returns c =
    let at = (goal.at.returns c).After-chosen_ending-ending in
    record {
      dropped = dropped-is at;
      marks = c.mark_two.ensures ∙ sym (kept at).marks_are;
    }
