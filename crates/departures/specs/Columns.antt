-- How each edge leaves, as two columns: its rule and its step.
use Rattle.std.specs.Prelude.{Bool, ◌&&◌, List, ℕ, ltb, set, replicate}
use Rattle.base.specs.Columns.{at}
use Rattle.base.specs.Fold.{tabulate}
use Rattle.base.specs.Limits.{edge_limit}
use Rattle.graph.specs.declared.Network.{Network}
use Rattle.graph.specs.declared.Step.{Step}
use Rattle.departures.specs.Departures.{RESERVED_EDGE, KEPT_AS_Y, KEPT_LAST, DROPPED_LAST, keeps, rule_of_x}
use Rattle.departures.specs.Departures.{departure_from}

-- the columns of a chain whose next step has the number k
unfoldable pub rule_column : ℕ → Network → List Step → ℕ → List ℕ
rule_column k g ts d = tabulate edge_limit (λ e. (departure_from k g ts d e).rule)

unfoldable pub step_column : ℕ → Network → List Step → ℕ → List ℕ
step_column k g ts d = tabulate edge_limit (λ e. (departure_from k g ts d e).step)

-- the columns before the ending: every edge is kept there, and at no step
abbrev pub all_last : List ℕ
all_last = replicate edge_limit KEPT_LAST

abbrev pub no_steps : List ℕ
no_steps = replicate edge_limit 0

-- the rules once the ending has dropped d, and r is reserved
abbrev pub ending_noted : ℕ → ℕ → List ℕ → List ℕ
ending_noted r d rules = set (set rules d DROPPED_LAST) r RESERVED_EDGE

-- the columns before a step, from those after it
abbrev pub rules_back : ℕ → ℕ → ℕ → List ℕ → List ℕ
rules_back x y z rules = set (set rules x (rule_of_x (at rules z))) y KEPT_AS_Y

abbrev pub steps_back : ℕ → ℕ → ℕ → List ℕ → List ℕ
steps_back x y k steps = set (set steps x k) y k

-- marks of the edges below n that leave by a rule that keeps them
unfoldable pub kept_by : ℕ → List ℕ → List Bool
kept_by n rules = tabulate edge_limit (λ e. ltb e n && keeps (at rules e))
