-- What the services answer.
use Rattle.std.specs.Prelude.{Bool, ◌&&◌, List, ◌≡◌, ℕ, ◌-◌, ◌≤◌, ℤ, length, take}
use Rattle.base.specs.Answer.{Answer, refused, answer, and_then, given, filled, room_in, reply_of, after, unless}
use Rattle.chain_text.specs.Text.{chain_text, steps_of}
use Rattle.kept_text.specs.Text.{kept_edges, kept_text}
use Rattle.loading.specs.Loading.{load_network}
use Rattle.graph.specs.Network.{kept_cost, all_but_reserved}
use Rattle.graph.specs.Cut.{network_refusal}
use Rattle.graph.specs.Plan.{plan_kept}
use Rattle.base.specs.Limits.{vertex_limit}
use Rattle.graph.specs.declared.Network.{Network}
use Rattle.claim.specs.declared.Planned.{Planned}
use Rattle.claim.specs.Verdicts.{check_chain}
use Rattle.claim.specs.Plans.{plan_chain}
use Rattle.rules.specs.Running.{Keeping}
use Rattle.rules.specs.Plans.{StepRoom}

-- ── check a network ──

-- a network that was loaded, from whatever text, if it is accepted: refusals 6 and 7 behind those met before
abbrev pub accepting : Answer Network → Answer Network
accepting a = and_then a (λ g. unless (network_refusal g) (answer g))

-- the network of an accepted text, or the text's first refusal
unfoldable pub accept_network : List ℕ → Answer Network
accept_network t = accepting (load_network t)

-- the check's reply: accepted, or the refusal
unfoldable pub acceptance_of : Answer Network → Answer Unit
acceptance_of (refused k) = refused k
acceptance_of (answer g) = answer tt

-- ── check a chain ──

-- the kept text of marked edges: the edges, their cost, and that of
-- all edges but the reserved one, at the network's own costs
unfoldable pub kept_text_of : Network → List Bool → List ℕ
kept_text_of g K = kept_text (kept_edges g.edges K) (kept_cost g K) (all_but_reserved g)

unfoldable pub kept_in : Network → Answer (List Bool) → Answer (List ℕ)
kept_in g (refused k) = refused k
kept_in g (answer K) = answer (kept_text_of g K)

-- the kept text of a proposed chain, or the first refusal
unfoldable pub check_chain_text : List ℕ → List ℕ → Answer (List ℕ)
check_chain_text network chain = and_then (accept_network network) (λ g. kept_in g (check_chain (g.remaining - 2) g chain))

-- the reply, and the kept buffer afterwards: 13 where the buffer is shorter than the kept text
abbrev pub chain_reply : List ℕ → List ℕ → List ℕ → Answer ℕ
chain_reply network chain kept = reply_of (check_chain_text network chain) kept

abbrev pub kept_after : List ℕ → List ℕ → List ℕ → List ℕ
kept_after network chain kept = after (check_chain_text network chain) kept

-- ── plan ──

-- the two texts of a plan
pub record Texts : Type 0 where
  pub chain : List ℕ
  pub kept : List ℕ

-- the texts of marked edges, with the plan's chain
unfoldable pub texts_of : Network → List Bool → Texts
texts_of g K = record { chain = plan_chain (g.remaining - 2) g; kept = kept_text_of g K }

-- the plan of an accepted network, or the refusal that was met before
abbrev pub plan_of : Answer Network → Answer Texts
plan_of a = and_then a (λ g. answer (texts_of g (plan_kept (g.remaining - 2) g)))

-- the plan of a network text, or the text's first refusal
unfoldable pub plan_text : List ℕ → Answer Texts
plan_text network = plan_of (accept_network network)

-- whether both buffers have room
unfoldable pub plan_room : List ℕ → List ℕ → Texts → Bool
plan_room chain kept t = room_in chain t.chain && room_in kept t.kept

-- the same once the buffers are known: 13 if either is short
unfoldable pub texts_given : Network → List Bool → List ℕ → List ℕ → Answer Texts
texts_given g K chain kept = given (plan_room chain kept) (answer (texts_of g K))

-- and so the plan of an accepted network, and of a network text
abbrev pub plan_in : Answer Network → List ℕ → List ℕ → Answer Texts
plan_in a chain kept = given (plan_room chain kept) (plan_of a)

unfoldable pub plan_given : List ℕ → List ℕ → List ℕ → Answer Texts
plan_given network chain kept = plan_in (accept_network network) chain kept

-- the lengths of both texts, or the refusal
unfoldable pub planned_of : Answer Texts → Answer Planned
planned_of (refused k) = refused k
planned_of (answer t) = answer (record { chain = length t.chain; kept = length t.kept })

-- the reply, and the two buffers afterwards
abbrev pub plan_reply : List ℕ → List ℕ → List ℕ → Answer Planned
plan_reply network chain kept = planned_of (plan_given network chain kept)

abbrev pub planned_chain : List ℕ → List ℕ → List ℕ → List ℕ
planned_chain network chain kept = filled (λ t. t.chain) (plan_given network chain kept) chain

abbrev pub planned_kept : List ℕ → List ℕ → List ℕ → List ℕ
planned_kept network chain kept = filled (λ t. t.kept) (plan_given network chain kept) kept

-- a plan whose steps stand at the start of columns, whose marks can be written, and whose ending drops d
pub record Planning (g : Network) (K : List Bool) (d : ℕ) (v x y z : List ℕ) (cost : List ℤ) : Type 0 where
  pub keeping : Keeping g K
  pub several : 2 ≤ g.remaining
  pub vertex_room : g.remaining ≤ vertex_limit
  pub column_room : StepRoom (g.remaining - 2) v x y z cost
  pub chain_is : let n = g.remaining - 2 in
      chain_text (steps_of (take n v) (take n x) (take n y) (take n z) (take n cost)) d ≡ plan_chain n g
