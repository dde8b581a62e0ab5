-- What the services over table texts answer.
use Rattle.std.specs.Prelude.{List, ℕ}
use Rattle.base.specs.Answer.{Answer, answer, and_then, filled}
use Rattle.network_text.specs.Text.{write_network}
use Rattle.loading.specs.Loading.{network_of}
use Rattle.graph.specs.declared.Network.{Network}
use Rattle.table_text.specs.Text.{read_expanded}
use Rattle.claim.specs.declared.Planned.{Planned}
use Rattle.claim.specs.Services.{accepting, Texts, plan_of, plan_in, planned_of}

-- the network that a table text stands for, before it is judged, or the text's first refusal
unfoldable pub load_table : List ℕ → Answer Network
load_table t = and_then (read_expanded t) (λ m. answer (network_of m))

-- ── check a table ──

-- the network of a table text, if it is accepted, or the first refusal
unfoldable pub accept_table : List ℕ → Answer Network
accept_table t = accepting (load_table t)

-- ── plan a table ──

-- the plan of a table text, or the first refusal
unfoldable pub plan_table : List ℕ → Answer Texts
plan_table t = plan_of (accept_table t)

-- the same once the buffers are known: 13 if either is short
unfoldable pub table_plan_given : List ℕ → List ℕ → List ℕ → Answer Texts
table_plan_given t chain kept = plan_in (accept_table t) chain kept

-- the reply, and the two buffers afterwards
abbrev pub table_plan_reply : List ℕ → List ℕ → List ℕ → Answer Planned
table_plan_reply t chain kept = planned_of (table_plan_given t chain kept)

abbrev pub table_planned_chain : List ℕ → List ℕ → List ℕ → List ℕ
table_planned_chain t chain kept = filled (λ p. p.chain) (table_plan_given t chain kept) chain

abbrev pub table_planned_kept : List ℕ → List ℕ → List ℕ → List ℕ
table_planned_kept t chain kept = filled (λ p. p.kept) (table_plan_given t chain kept) kept

-- ── write the network of a table ──

-- the network text that a table text stands for, or the table text's first refusal
unfoldable pub table_network : List ℕ → Answer (List ℕ)
table_network t = and_then (read_expanded t) write_network
