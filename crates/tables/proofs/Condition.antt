-- The claim of tables, for every text and whatever buffers are lent.
use mathlib.Core.Path.{◌≡◌, refl, sym, ◌∙◌, ap}
use mathlib.Core.Bool.{Bool}
use mathlib.Core.List.{List}
use Prim.Native.Nat.{ℕ, ◌*◌, ◌≤◌}
use native.Mathlib.Omega.{arith}
use lib.IntN.{pos, nat_abs, ◌*ℤ◌}
use lib.Signed.{◌≤ℤ◌}
use Rattle.base.specs.Answer.{Answer, refused, answer, and_then, filled}
use Rattle.base.specs.Limits.{edge_limit, cost_limit}
use Rattle.base.proofs.Answers.{then-refused, then-answer, unless-answered, filled-refused}
use Rattle.base.proofs.Bools.{no_answer}
use Rattle.graph.specs.Network.{kept_cost, all_but_reserved}
use Rattle.graph.specs.Cut.{network_refusal}
use Rattle.graph.specs.Sound.{Light}
use Rattle.graph.specs.declared.Network.{Network}
use Rattle.kept_text.specs.Text.{costs_in, kept_edges, kept_text}
use Rattle.loading.specs.Loading.{network_of}
use Rattle.loading.proofs.Reading.{known-weight}
use Rattle.table_text.specs.Text.{Table, read_table, stands_for}
use Rattle.table_text.proofs.Meaning.{parts, expanded-meeting}
use Rattle.table_text.proofs.Expanding.{length-expanded, numbered-on}
use Rattle.table_text.proofs.Reading.{expanded-read}
use Rattle.claim.specs.Services.{accept_network, Texts, plan_of, plan_text, planned_of, plan_reply, planned_chain}
use Rattle.claim.specs.Services.{planned_kept}
use Rattle.claim.specs.Condition.{Accepted}
use Rattle.claim.proofs.Condition.{claim, plan-passes}
use Rattle.claim.proofs.Accepting.{accepted-running}
use Rattle.claim.proofs.Keepings.{costs-in}
use Rattle.tables.specs.Services.{accept_table, plan_table, table_plan_given, table_network, load_table}
use Rattle.tables.specs.Services.{table_plan_reply, table_planned_chain, table_planned_kept}
use Rattle.tables.specs.Condition.{weighted_cost, NoneBelowZero, PlannedAs, TableClaim}
use Rattle.tables.proofs.Same.{table-known, table-written, refused-of-table, accept-same, plan-same}
use Rattle.tables.proofs.Same.{given-same}
use Rattle.tables.proofs.Same.{accept-refused, plan-refused, given-refused, load_read}
use Rattle.tables.proofs.Costs.{weighted-size, reserved-less, ratio-up}

-- ── a table and its network text ──
same_check : (t : List ℕ) → accept_table t ≡ and_then (table_network t) accept_network
same_check t = go (table_network t) refl
  where
    go : (a : Answer (List ℕ)) → table_network t ≡ a → accept_table t ≡ and_then (table_network t) accept_network
    go (refused k) e = accept-refused t k e ∙ sym (then-refused (table_network t) accept_network k e)
    go (answer s) e = accept-same t s e ∙ sym (then-answer (table_network t) accept_network s e)

same_plan : (t : List ℕ) → plan_table t ≡ and_then (table_network t) plan_text
same_plan t = go (table_network t) refl
  where
    go : (a : Answer (List ℕ)) → table_network t ≡ a → plan_table t ≡ and_then (table_network t) plan_text
    go (refused k) e = plan-refused t k e ∙ sym (then-refused (table_network t) plan_text k e)
    go (answer s) e = plan-same t s e ∙ sym (then-answer (table_network t) plan_text s e)

same_buffers : (t s : List ℕ) → table_network t ≡ answer s → (chain lent : List ℕ)
    → (table_plan_reply t chain lent ≡ plan_reply s chain lent)
    × (table_planned_chain t chain lent ≡ planned_chain s chain lent)
    × (table_planned_kept t chain lent ≡ planned_kept s chain lent)
same_buffers t s e chain lent =
    let q = given-same t s e chain lent in (
      ap planned_of q,
      ap (λ (a : Answer Texts). filled (λ p. p.chain) a chain) q,
      ap (λ (a : Answer Texts). filled (λ p. p.kept) a lent) q,
    )

same_refusal : (t : List ℕ) (k : ℕ) → table_network t ≡ refused k → (chain lent : List ℕ)
    → (table_plan_reply t chain lent ≡ refused k)
    × (table_planned_chain t chain lent ≡ chain)
    × (table_planned_kept t chain lent ≡ lent)
unfolding planned_of
same_refusal t k e chain lent =
    let q = given-refused t k e chain lent in (
      rw q,
      filled-refused (λ p. p.chain) (table_plan_given t chain lent) chain k q,
      filled-refused (λ p. p.kept) (table_plan_given t chain lent) lent k q,
    )

-- ── accepted tables ──

-- the network text of an accepted table
network-of : (t : List ℕ) (g : Network) → accept_table t ≡ answer g
    → (s : List ℕ) × (table_network t ≡ answer s) × Accepted s g
network-of t g e = go (table_network t) refl
  where
    go : (a : Answer (List ℕ)) → table_network t ≡ a → (s : List ℕ) × (table_network t ≡ answer s) × Accepted s g
    go (refused k) q = let x = accept-refused t k q in no_answer (cc)
    go (answer s) q = (s, q, (claim.accepted s g).0 (sym (accept-same t s q) ∙ e))

accepted-by : (t : List ℕ) (g : Network) → (s : List ℕ) × (table_network t ≡ answer s) × Accepted s g
    → accept_table t ≡ answer g
accepted-by t g w = accept-same t w.0 w.1 ∙ (claim.accepted w.0 g).1 w.2

-- the plan of an accepted table, by condition 3 of its network text
planned-as : (t : List ℕ) (g : Network) (p : Texts) → accept_table t ≡ answer g → plan_table t ≡ answer p
    → PlannedAs t g p
planned-as t g p e q =
    let w = network-of t g e in
    let a = w.2 in
    let passes = plan-passes a p (sym (plan-same t w.0 w.1) ∙ q) in
    let r = (claim.gives a p.chain p.kept).0 passes in
    record {
      network = w.0;
      stands_for = w.1;
      accepted = a;
      passes = passes;
      marks = r.0;
      ruled = r.1;
      kept_is = r.2;
      owed = claim.owed a r.1;
    }

planned : (t : List ℕ) (g : Network) → accept_table t ≡ answer g
    → (p : Texts) × (plan_table t ≡ answer p) × PlannedAs t g p
unfolding plan_table
planned t g e =
    let q = then-answer (accept_table t) _ g e in
    (_, q, planned-as t g _ e q)

-- the network of a plan
plan-of : (t : List ℕ) (p : Texts) → plan_table t ≡ answer p → (g : Network) × (accept_table t ≡ answer g)
unfolding plan_table and_then
plan-of t p e = go (accept_table t) refl e
  where
    go : (a : Answer Network) → accept_table t ≡ a → plan_of a ≡ answer p → (g : Network) × (accept_table t ≡ answer g)
    go (refused k) q e = no_answer (cc)
    go (answer g) q e = (g, q)

-- ── the bound ──

-- the state of an accepted table is that of the network that it stands for
state_is : (t : List ℕ) (m : Table) (g : Network) → read_table t ≡ answer m → accept_table t ≡ answer g
    → network_of (stands_for m) ≡ g
unfolding accept_table
state_is t m g x e =
    let h = network_of (stands_for m) in
    let loaded = load_read t (stands_for m) (expanded-read t x) in
    let judged = sym (then-answer (load_table t) _ h loaded) ∙ e in
    let same = (unless-answered (network_refusal h) (answer h) g judged).1 in
    cc

-- the cost that is read from a plan's kept text
kept-cost : (g : Network) (K : List Bool) (t : List ℕ) → Light g
    → t ≡ kept_text (kept_edges g.edges K) (kept_cost g K) (all_but_reserved g) → (costs_in t).kept ≡ kept_cost g K
kept-cost g K t light e = ap (λ t. (costs_in t).kept) e ∙ ap (λ c. c.kept) (costs-in g light K (kept_edges g.edges K))

four_thirds : (t : List ℕ) (m : Table) (p : Texts) → read_table t ≡ answer m → plan_table t ≡ answer p
    → NoneBelowZero m.spans
    → (pos 3 *ℤ (costs_in p.kept).kept) ≤ℤ (pos 2 *ℤ weighted_cost m.spans)
four_thirds t m p x e h =
    let a = plan-of t p e in
    let g = a.0 in
    let w = planned-as t g p a.1 e in
    let state = state_is t m g x a.1 in
    let light = (accepted-running w.network g ((claim.accepted w.network g).1 w.accepted)).light in
    let all = rw state at (reserved-less m (parts t m x).total h) in
    rw (kept-cost g w.marks p.kept light w.kept_is)
    (ratio-up (kept_cost g w.marks) (all_but_reserved g) (weighted_cost m.spans) w.owed.ratio all)

-- the network that a table stands for is known, so its costs are within their limit
bounded : (t : List ℕ) (m : Table) → read_table t ≡ answer m → nat_abs (weighted_cost m.spans) ≤ edge_limit * cost_limit
bounded t m x =
    let known = table-known t _ (load_read t (stands_for m) (expanded-read t x)) in
    omega (arith, known-weight known, weighted-size m (parts t m x).total)

pub table-claim : TableClaim
table-claim =
    record {
      numbered = numbered-on;
      counted = length-expanded 0;
      written = table-written;
      same_check = same_check;
      same_plan = same_plan;
      same_buffers = same_buffers;
      same_refusal = same_refusal;
      refusals = λ t k e. (expanded-meeting t).number k (refused-of-table t k e);
      accepted = λ t g. (network-of t g, accepted-by t g);
      planned = planned;
      four_thirds = four_thirds;
      bounded = bounded;
    }
