-- What is owed of tables, over texts, replies and buffers: a table is planned as the network that it stands for, so
-- that condition 3 (crate claim, specs/Condition.antt) holds of it; and the four-thirds bound. It holds for every text.
use Rattle.std.specs.Prelude.{Bool, List, [], ◌∷◌, ◌++◌, ◌↔◌, ◌⊎◌, ◌≡◌, ℕ, ◌+◌, ◌*◌, ◌≤◌, ◌<◌, length, get_or, ℤ, pos, nat_abs, ◌+ℤ◌, ◌*ℤ◌, ◌≤ℤ◌}
use Rattle.base.specs.Answer.{refused, answer, and_then}
use Rattle.base.specs.Limits.{edge_limit, cost_limit}
use Rattle.frame.specs.declared.kinds.Edge.{Edge}
use Rattle.frame.specs.declared.kinds.Span.{Span}
use Rattle.network_text.specs.Text.{network_text}
use Rattle.graph.specs.Network.{kept_cost, all_but_reserved}
use Rattle.graph.specs.declared.Network.{Network}
use Rattle.kept_text.specs.Text.{kept_edges, kept_text, costs_in}
use Rattle.table_text.specs.Text.{Table, weights, read_table, expanded}
use Rattle.claim.specs.Services.{accept_network, check_chain_text, Texts, plan_text, plan_reply, planned_chain, planned_kept}
use Rattle.claim.specs.Condition.{Accepted, Ruled, Owed}
use Rattle.tables.specs.Services.{accept_table, plan_table, table_plan_reply, table_planned_chain, table_planned_kept}
use Rattle.tables.specs.Services.{table_network}

-- ── what the claim speaks of ──

-- the sum over spans of cost times doubled weight: twice the solver's own cost
unfoldable pub weighted_cost : List Span → ℤ
weighted_cost [] = pos 0
weighted_cost (s ∷ ss) = (pos s.weight *ℤ s.cost) +ℤ weighted_cost ss

-- every span's cost is zero or more
abbrev pub NoneBelowZero : List Span → Type 0
NoneBelowZero [] = Unit
NoneBelowZero (s ∷ ss) = (pos 0 ≤ℤ s.cost) × NoneBelowZero ss

-- the plan p of a table text t: condition 3 of the network text s that the table stands for
pub record PlannedAs (t : List ℕ) (g : Network) (p : Texts) : Type 0 where
  pub network : List ℕ
  pub stands_for : table_network t ≡ answer network
  -- the network is accepted, and the plan's chain passes over it and gives the plan's kept text
  pub accepted : Accepted network g
  pub passes : check_chain_text network p.chain ≡ answer p.kept
  -- the chain keeps the rules, the kept text is that of the edges that it keeps, and they are as owed
  pub marks : List Bool
  pub ruled : Ruled g p.chain marks
  pub kept_is : p.kept ≡ kept_text (kept_edges g.edges marks) (kept_cost g marks) (all_but_reserved g)
  pub owed : Owed g marks

-- ── the claim: each part with the words of document 02 that it says ──

pub record TableClaim : Type 0 where
  -- 'A weight w becomes w cables of that cost, numbered on in span order': the c-th edge of a span stands
  -- behind all edges of the spans before it, and the text of these edges is the network text of the table
  pub numbered : (before : List Span) (s : Span) (behind : List Span) (c : ℕ) (d : Edge) → c < s.weight
      → get_or (expanded 0 (before ++ (s ∷ behind))) (weights before + c) d
      ≡ record { number = weights before + c; lower = s.lower; higher = s.higher; cost = s.cost }
  pub counted : (ss : List Span) → length (expanded 0 ss) ≡ weights ss
  pub written : (t : List ℕ) (m : Table) → read_table t ≡ answer m
      → table_network t ≡ answer (network_text m.vertices m.reserved (expanded 0 m.spans))
  -- 'The plan of such a table equals the plan of the network it stands for': check and plan of a table
  -- are check and plan of the network text that is written for it, as bytes, refusals included
  pub same_check : (t : List ℕ) → accept_table t ≡ and_then (table_network t) accept_network
  pub same_plan : (t : List ℕ) → plan_table t ≡ and_then (table_network t) plan_text
  -- and so are the reply and both buffers, whatever buffers are lent
  pub same_buffers : (t s : List ℕ) → table_network t ≡ answer s → (chain lent : List ℕ)
      → (table_plan_reply t chain lent ≡ plan_reply s chain lent)
      × (table_planned_chain t chain lent ≡ planned_chain s chain lent)
      × (table_planned_kept t chain lent ≡ planned_kept s chain lent)
  -- a table that has no network text is refused with that number, and the buffers keep their bytes
  pub same_refusal : (t : List ℕ) (k : ℕ) → table_network t ≡ refused k → (chain lent : List ℕ)
      → (table_plan_reply t chain lent ≡ refused k)
      × (table_planned_chain t chain lent ≡ chain)
      × (table_planned_kept t chain lent ≡ lent)
  -- it meets 1 to 5, 15 or 16 alone
  pub refusals : (t : List ℕ) (k : ℕ) → table_network t ≡ refused k
      → ((1 ≤ k) × (k ≤ 5)) ⊎ ((k ≡ 15) ⊎ (k ≡ 16))
  -- a table is accepted exactly if the network that it stands for is
  pub accepted : (t : List ℕ) (g : Network)
      → (accept_table t ≡ answer g) ↔ ((s : List ℕ) × (table_network t ≡ answer s) × Accepted s g)
  -- hence condition 3: every accepted table has a plan, whose chain passes over its network and keeps what is owed
  pub planned : (t : List ℕ) (g : Network) → accept_table t ≡ answer g
      → (p : Texts) × (plan_table t ≡ answer p) × PlannedAs t g p
  -- 'If all costs are zero or more, three times the kept cost is at most twice the sum over the spans of cost times
  -- doubled weight': the kept cost is the one in the plan's 06, and the reserved edge's cost is in the sum
  pub four_thirds : (t : List ℕ) (m : Table) (p : Texts) → read_table t ≡ answer m → plan_table t ≡ answer p
      → NoneBelowZero m.spans
      → (pos 3 *ℤ (costs_in p.kept).kept) ≤ℤ (pos 2 *ℤ weighted_cost m.spans)
  -- whatever signs the costs have, that sum is no further from 0 than 512 times the limit of a cost
  pub bounded : (t : List ℕ) (m : Table) → read_table t ≡ answer m
      → nat_abs (weighted_cost m.spans) ≤ edge_limit * cost_limit

-- ── wrong programs and definitions that the claim, or a promise by its words, shuts out: each has a must-fail edit ──
--
-- lays one edge for a span, whatever its weight      promise of `lay`   weights_not_expanded, crate table_text
-- numbers edges by weight before span order          `written`          by_weight_before_span_order, crate table_text
-- gives 15 before 4                                  `span_refusal`      weight_before_ends, crate table_text
-- gives the total's 16 before bytes left over        `table_behind`      total_before_bytes_left_over, crate table_text
-- overruns columns that hold one network             promise of `lay`   columns_of_one_network, crate table_text
-- refuses to write what 6 or 7 refuse                `written`          network_judged_before_it_is_written
-- exchanges the two texts of a plan                  `same_buffers`     buffers_exchanged
-- claims the bound of costs below zero               `four_thirds`      bound_with_costs_below_zero
