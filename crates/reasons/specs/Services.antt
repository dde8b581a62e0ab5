-- What the reasons service answers (document 02: the reason beside each cable).
use Rattle.std.specs.Prelude.{List, ℕ, ◌-◌}
use Rattle.base.specs.Answer.{Answer, answer, and_then}
use Rattle.departures.specs.Departures.{FIRST_STEP}
use Rattle.departures.specs.Columns.{rule_column, step_column}
use Rattle.graph.specs.declared.Network.{Network}
use Rattle.graph.specs.declared.Step.{Step}
use Rattle.reasons_text.specs.Text.{reasons_text}
use Rattle.claim.specs.Services.{accept_network}
use Rattle.claim.specs.Verdicts.{check_chain, steps_in, drop_in}

-- the text of how each edge of g leaves in a chain: its steps, and the edge that its ending drops
unfoldable pub reasons_of : Network → List Step → ℕ → List ℕ
reasons_of g ts d = reasons_text g.edges (rule_column FIRST_STEP g ts d) (step_column FIRST_STEP g ts d)

-- the reasons text of a proposed chain over an accepted network, or the first refusal of the chain's check
unfoldable pub reasons_over : List ℕ → Network → Answer (List ℕ)
reasons_over chain g =
    let n = g.remaining - 2 in
    and_then (check_chain n g chain) (λ K. answer (reasons_of g (steps_in n chain) (drop_in n chain)))

-- the same over a network text: 1 to 7 of the network come first
unfoldable pub chain_reasons : List ℕ → List ℕ → Answer (List ℕ)
chain_reasons network chain = and_then (accept_network network) (reasons_over chain)
