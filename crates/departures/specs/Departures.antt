-- How each edge leaves the network of a chain (document 02: the reason beside each cable): by a rule, at a step.
use Rattle.std.specs.Prelude.{Bool, cond, ◌||◌, List, [], ◌∷◌, ℕ, suc, eqb}
use Rattle.graph.specs.Split.{after}
use Rattle.graph.specs.declared.Network.{Network}
use Rattle.graph.specs.declared.Step.{Step}

-- the rules, by the numbers of document 02
abbrev pub RESERVED_EDGE : ℕ
RESERVED_EDGE = 0

abbrev pub KEPT_AS_Y : ℕ
KEPT_AS_Y = 1

abbrev pub KEPT_AS_X : ℕ
KEPT_AS_X = 2

abbrev pub OUT_AS_X : ℕ
OUT_AS_X = 3

abbrev pub KEPT_LAST : ℕ
KEPT_LAST = 4

abbrev pub DROPPED_LAST : ℕ
DROPPED_LAST = 5

-- the number of a chain's first step; 0 is none
abbrev pub FIRST_STEP : ℕ
FIRST_STEP = 1

-- the rule by which an edge leaves, and the step, 0 at the ending and for the reserved edge
pub record Departure : Type 0 where
  pub rule : ℕ
  pub step : ℕ

-- whether an edge that leaves by a rule is kept
unfoldable pub keeps : ℕ → Bool
keeps rule = eqb rule KEPT_AS_Y || eqb rule KEPT_AS_X || eqb rule KEPT_LAST

-- the rule of x, by that of z later on: x is kept exactly if z is not
abbrev pub rule_of_x : ℕ → ℕ
rule_of_x z-rule = cond (keeps z-rule) OUT_AS_X KEPT_AS_X

-- the rule of an edge that no step takes, where r is reserved and the ending drops d
abbrev pub end_rule : ℕ → ℕ → ℕ → ℕ
end_rule r d e = cond (eqb e r) RESERVED_EDGE (cond (eqb e d) DROPPED_LAST KEPT_LAST)

-- how edge e leaves in a chain whose next step has the number k: as y or x of that step, or as what follows says
unfoldable pub departure_from : ℕ → Network → List Step → ℕ → ℕ → Departure
departure_from k g [] d e = record { rule = end_rule g.reserved d e; step = 0 }
departure_from k g (t ∷ ts) d e =
    let later = departure_from (suc k) (after g t) ts d in
    cond (eqb e t.y) (record { rule = KEPT_AS_Y; step = k })
    (cond (eqb e t.x) (record { rule = rule_of_x (later t.z).rule; step = k }) (later e))

-- how edge e leaves in a whole chain: steps over a network, and the edge that the ending drops
abbrev pub departure : Network → List Step → ℕ → ℕ → Departure
departure = departure_from FIRST_STEP
