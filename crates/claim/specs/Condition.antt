-- Condition 3, entire, as one claim over texts, replies and buffers; and with it when a network is accepted. It holds
-- for every text, whichever edge is reserved, whatever bytes are proposed as a chain and whatever buffers are lent.
use Rattle.std.specs.Prelude.{Bool, true, false, List, [], ◌∷◌, map, ◌↔◌, ◌⊎◌, ◌≡◌, ℕ, ◌*◌, ◌^◌, ◌≤◌, ◌<◌, length, pos, nat_abs, ◌*ℤ◌, ◌≤ℤ◌}
use Rattle.base.specs.Answer.{Answer, refused, answer, over}
use Rattle.base.specs.Limits.{edge_limit, cost_limit}
use Rattle.base.specs.Refusals.{SHORT}
use Rattle.network_text.specs.Text.{Meaning, write_network, reserving_text}
use Rattle.chain_text.specs.Text.{chain_text}
use Rattle.kept_text.specs.Text.{kept_edges, kept_text}
use Rattle.loading.specs.Loading.{network_of}
use Rattle.base.specs.Fold.{among}
use Rattle.graph.specs.Network.{cost_of, degree, kept, kept_cost, all_but_reserved}
use Rattle.graph.specs.Cut.{Side, crossings_of}
use Rattle.graph.specs.Chain.{ByRules, Leads}
use Rattle.graph.specs.Back.{Back}
use Rattle.graph.specs.declared.Network.{Network}
use Rattle.graph.specs.declared.Step.{Step}
use Rattle.claim.specs.Plans.{in_frame}
use Rattle.claim.specs.Services.{accept_network, kept_text_of, check_chain_text, chain_reply, kept_after, Texts}
use Rattle.claim.specs.Services.{plan_reply, planned_chain, planned_kept}

-- ── what the claim speaks of ──

-- every cut of the vertices, a side with one of them in it and one out of it, is crossed by at least k edges of a set
abbrev pub CrossesEach : ℕ → Network → (ℕ → Bool) → Type 0
CrossesEach k g K =
    (S : Side) (i o : ℕ) → i < g.vertices → o < g.vertices → S i ≡ true → S o ≡ false → k ≤ crossings_of g K S

-- t is the network text of a meaning whose state is g, every vertex has
-- degree 4, and every cut is crossed by at least four edges
pub record Accepted (t : List ℕ) (g : Network) : Type 0 where
  pub meaning : Meaning
  pub text_is : write_network meaning ≡ answer t
  pub state_is : network_of meaning ≡ g
  pub degrees : (v : ℕ) → v < g.vertices → degree g v ≡ 4
  pub cuts : CrossesEach 4 g (λ e. true)

-- a network with edge r reserved
abbrev pub reserving : ℕ → Network → Network
reserving r g =
    record {
      low = g.low;
      high = g.high;
      cost = g.cost;
      present = g.present;
      reserved = r;
      edges = g.edges;
      vertices = g.vertices;
      remaining = g.remaining;
    }

-- the bytes are the chain text of steps and an ending that keep the
-- rules over g, and going back from the ending gives the marks K
pub record Ruled (g : Network) (chain : List ℕ) (K : List Bool) : Type 0 where
  pub steps : List Step
  pub dropped : ℕ
  pub text_is : chain ≡ chain_text (map in_frame steps) dropped
  pub by_rules : ByRules g steps dropped
  pub back : Back g steps dropped K

-- numbers that rise, so that none stands twice
abbrev pub Rising : List ℕ → Type 0
Rising [] = Unit
Rising (e ∷ es) = ((f : ℕ) → among f es ≡ true → e < f) × Rising es

-- the kept edges are as owed, all at the network's own costs
pub record Owed (g : Network) (K : List Bool) : Type 0 where
  -- exactly those that the kept text lists
  pub lists : (e : ℕ) → among e (kept_edges g.edges K) ≡ kept K e
  -- none twice
  pub rises : Rising (kept_edges g.edges K)
  pub leaves_out : kept K g.reserved ≡ false
  pub twice : CrossesEach 2 g (kept K)
  pub ratio : (pos 3 *ℤ kept_cost g K) ≤ℤ (pos 2 *ℤ all_but_reserved g)

-- a chain passes: its check succeeds, or gives 13
abbrev pub Passes : Answer ℕ → Type 0
Passes r = ((n : ℕ) × (r ≡ answer n)) ⊎ (r ≡ refused SHORT)

-- what planning t replies and leaves in two lent buffers, where p are the texts due: both, or 13 and neither
pub record PlanWrites (t : List ℕ) (p : Texts) (chain lent : List ℕ) : Type 0 where
  pub short : (plan_reply t chain lent ≡ refused SHORT) ↔
      ((length chain < length p.chain) ⊎ (length lent < length p.kept))
  pub untouched : plan_reply t chain lent ≡ refused SHORT
      → (planned_chain t chain lent ≡ chain) × (planned_kept t chain lent ≡ lent)
  pub written : length p.chain ≤ length chain → length p.kept ≤ length lent
      → (plan_reply t chain lent ≡ answer (record { chain = length p.chain; kept = length p.kept }))
      × (planned_chain t chain lent ≡ over p.chain chain)
      × (planned_kept t chain lent ≡ over p.kept lent)

-- ── the claim: each part with the words of document 01 that it says ──

pub record Claim : Type 0 where
  -- 'A network is accepted if every cabinet has four cables and every division is crossed by at least four.'
  pub accepted : (t : List ℕ) (g : Network) → (accept_network t ≡ answer g) ↔ Accepted t g
  -- '3 reserved cable not below 2n' is all that is asked of it:
  -- what is accepted is accepted with any other edge in its head's reserved field
  pub any_reserved : {t : List ℕ} {g : Network} → Accepted t g → (r : ℕ) → r < g.edges
      → Accepted (reserving_text r t) (reserving r g)
  -- 'A chain passes when its check over an accepted network succeeds or gives 13.' 'They keep the rules over an accepted
  -- network exactly when they are a chain text with nothing left over, each frame 03 is a step by rule on the network
  -- that the frames before it leave .., with v an end of the reserved cable there', z and its new cost as the step gives
  -- them, 'and the frame 04 names a dearest of the last three that aren't reserved.'
  pub passes : {t : List ℕ} {g : Network} → Accepted t g → (chain lent : List ℕ)
      → Passes (chain_reply t chain lent) ↔ ((K : List Bool) × Ruled g chain K)
  -- 'The kept cables are what going back from the ending gives, and the kept text lists
  -- exactly these. Its 06 has the sum of their costs and the sum over all cables but the
  -- reserved one, both at the network's own costs and not at working ones'
  pub gives : {t : List ℕ} {g : Network} → Accepted t g → (chain text : List ℕ)
      → (check_chain_text t chain ≡ answer text) ↔
      ((K : List Bool) × Ruled g chain K × (text ≡ kept_text (kept_edges g.edges K) (kept_cost g K) (all_but_reserved g)))
  -- and going back gives one set alone
  pub one : {t : List ℕ} {g : Network} → Accepted t g → {chain : List ℕ} {K L : List Bool} → Ruled g chain K
      → Ruled g chain L → K ≡ L
  -- 'the ratio is between these two. Divisions are those of all n cabinets': the kept edges
  -- leave out the reserved one, none stands twice, every cut is crossed at least twice, and
  -- three times their cost is at most twice that of all edges but the reserved one
  pub owed : {t : List ℕ} {g : Network} → Accepted t g → {chain : List ℕ} {K : List Bool} → Ruled g chain K → Owed g K
  -- '13 an output buffer is shorter than the text that is due to it', for every buffer that is lent
  pub short : {t : List ℕ} {g : Network} → Accepted t g → (chain lent : List ℕ)
      → (chain_reply t chain lent ≡ refused SHORT) ↔
      ((K : List Bool) × Ruled g chain K × (length lent < length (kept_text_of g K)))
  -- 'Success returns the lengths written': the whole text, and behind it the old bytes
  pub written : {t : List ℕ} {g : Network} → Accepted t g → {chain : List ℕ} {K : List Bool} → Ruled g chain K
      → (lent : List ℕ) → length (kept_text_of g K) ≤ length lent
      → (chain_reply t chain lent ≡ answer (length (kept_text_of g K))) ×
      (kept_after t chain lent ≡ over (kept_text_of g K) lent)
  -- 'Every refusal returns its number alone; output buffers keep all their bytes'
  pub untouched : (t chain lent : List ℕ) (k : ℕ) → chain_reply t chain lent ≡ refused k → kept_after t chain lent ≡ lent
  -- 'For an accepted network the planner gives 13 under its condition, and otherwise writes a chain that passes over it
  -- and the kept text due from that chain's check'
  pub planned : {t : List ℕ} {g : Network} → Accepted t g
      → (p : Texts) × (check_chain_text t p.chain ≡ answer p.kept)
      × ((chain lent : List ℕ) → PlanWrites t p chain lent)
  -- 'The first met counts': what the network meets, chain check and planner give
  pub network_first : (t : List ℕ) (k : ℕ) → accept_network t ≡ refused k
      → (chain lent : List ℕ) → (chain_reply t chain lent ≡ refused k) × (plan_reply t chain lent ≡ refused k)
  -- 'No refusal is given but under its condition': a network text meets 1 to 7 alone
  pub network_refusals : (t : List ℕ) (k : ℕ) → accept_network t ≡ refused k → (1 ≤ k) × (k ≤ 7)
  -- and a chain over an accepted network 1, 8 to 12 and 17 alone, so that 13 comes from a lent buffer and nothing else
  pub chain_refusals : {t : List ℕ} {g : Network} → Accepted t g → (chain : List ℕ) (k : ℕ)
      → check_chain_text t chain ≡ refused k
      → (k ≡ 1) ⊎ ((8 ≤ k) × (k ≤ 12)) ⊎ (k ≡ 17)
  -- 'A working cost is never outside' 512 times the limit of a cost, on either side, wherever steps by rule lead
  pub working : {t : List ℕ} {g : Network} → Accepted t g → {ts : List Step} {h : Network} → Leads g ts h
      → (e : ℕ) → e < h.edges → nat_abs (cost_of h e) ≤ edge_limit * cost_limit
  -- nor is a sum of costs, whichever edges are kept
  pub sums : {t : List ℕ} {g : Network} → Accepted t g → (K : List Bool)
      → (nat_abs (kept_cost g K) ≤ edge_limit * cost_limit) × (nat_abs (all_but_reserved g) ≤ edge_limit * cost_limit)
  -- and three times that, as the ratio takes it, is far from 64 bits
  pub far : 3 * (edge_limit * cost_limit) < 2 ^ 51

-- ── wrong programs that the claim, or a promise by its words, shuts out: each has a must-fail edit ──
--
-- answers every passing chain with the planner's kept text `gives`            planners_text_for_every_chain
-- keeps the planner's set for every chain                  `gives`            planners_set_for_every_chain
-- answers bytes left over by 13                            `passes`           bytes_left_over_as_short
-- judges the first step and waves the later ones through   `passes`           later_steps_waved_through
-- keeps all edges but the reserved one                     `owed`, its ratio  all_but_the_reserved_kept, crate graph
-- counts the reserved edge in the ratio                    `owed`, its ratio  reserved_in_ratio, crate graph
-- guesses the planner's later steps                        `planned`          later_steps_guessed, crate graph
-- files one chain for all networks                         `planned`          one_chain_for_all_networks, crate graph
-- turns down every network                                 `accepted`         every_network_refused, crate thinning
-- calls a buffer short before measuring the text           `planned`          short_before_measuring, crate thinning
-- writes nothing and reports success                       `planned`          nothing_written
-- bounds working costs by a lower limit of a cost          `working`          working_costs_without_trunks
