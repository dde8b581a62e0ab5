-- The vertices that remain are fewer at each call of `rules::planner::plan_steps`.
use Rattle.rules.proofs.planner.+plan_steps.Given as goal

abbrev pub decreases-plan_steps : goal.decreases-plan_steps
decreases-plan_steps l = l.network.remaining
