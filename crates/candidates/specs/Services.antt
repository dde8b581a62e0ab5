-- What the service over candidates for the reserved edge answers (document 02: forty candidates for one network).
use Rattle.std.specs.Prelude.{Bool, true, cond, ◌&&◌, List, [], ◌∷◌, ◌++◌, ℕ, ◌-◌, ltb}
use Rattle.base.specs.Answer.{Answer, refused, answer, and_then}
use Rattle.base.specs.Refusals.{RESERVED}
use Rattle.graph.specs.Network.{kept_cost, all_but_reserved}
use Rattle.graph.specs.Plan.{plan_kept}
use Rattle.graph.specs.declared.Network.{Network}
use Rattle.kept_text.specs.Text.{costs_text}
use Rattle.claim.specs.Services.{accept_network}
use Rattle.claim.specs.Condition.{reserving}

-- the costs of a network's plan, as a frame 06: of what is kept, and of all edges but the reserved one
unfoldable pub plan_costs : Network → List ℕ
plan_costs g = costs_text (kept_cost g (plan_kept (g.remaining - 2) g)) (all_but_reserved g)

-- the costs of each candidate's plan, in the order of the list
unfoldable pub candidates_costs : Network → List ℕ → List ℕ
candidates_costs g [] = []
candidates_costs g (r ∷ rs) = plan_costs (reserving r g) ++ candidates_costs g rs

-- whether all numbers are among so many edges
unfoldable pub are_edges : ℕ → List ℕ → Bool
are_edges edges [] = true
are_edges edges (r ∷ rs) = ltb r edges && are_edges edges rs

-- the candidates' costs over an accepted network, or 3 for a number that is none of its edges
unfoldable pub candidates_over : List ℕ → Network → Answer (List ℕ)
candidates_over rs g = cond (are_edges g.edges rs) (answer (candidates_costs g rs)) (refused RESERVED)

-- the candidates' costs over a network text, or the first refusal: 1 to 7 of the network, then 3 of the list
unfoldable pub candidates_text : List ℕ → List ℕ → Answer (List ℕ)
candidates_text t rs = and_then (accept_network t) (candidates_over rs)
