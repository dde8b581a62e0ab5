-- What is owed of reasons, for every network text, whatever bytes are proposed as a chain and whatever buffer is lent.
use mathlib.Core.Logic.{◌↔◌}
use mathlib.Core.Path.{◌≡◌, refl, sym, ◌∙◌, ap, ap₂}
use mathlib.Core.Bool.{Bool, true}
use mathlib.Core.List.{List, ◌++◌}
use Prim.Native.Nat.{ℕ, ◌*◌, ◌-◌, ◌<◌}
use native.Mathlib.Omega.{arith}
use lib.ListN.{length, drop, length-append}
use lib.Seq.{take_at}
use lib.IntN.{ℤ}
use borrow.Author.Tests.{le-leb, lt-ltb}
use Rattle.base.specs.Answer.{Answer, refused, answer}
use Rattle.base.specs.Columns.{at}
use Rattle.base.specs.Limits.{fewest_vertices, vertex_limit, edge_limit, vertices_ok}
use Rattle.base.proofs.Answers.{refuses, fits, short}
use Rattle.base.proofs.Bools.{no_answer, and_both}
use Rattle.base.proofs.Sums.{tabulate-at}
use Rattle.departures.specs.Departures.{FIRST_STEP, departure}
use Rattle.departures.specs.Columns.{rule_column, step_column}
use Rattle.departures.specs.Explained.{Explained}
use Rattle.departures.proofs.Retiring.{steps-counted}
use Rattle.departures.proofs.Leaving.{steps-within}
use Rattle.departures.proofs.Explaining.{explained, rules-few}
use Rattle.frame.specs.Table.{COSTS, REASON, line_length, start_of, place_of, bytes_of, padded, total}
use Rattle.frame.specs.Line.{is_line}
use Rattle.graph.specs.declared.Network.{Network}
use Rattle.kept_text.specs.Text.{kept_edges, kept_text, costs_text}
use Rattle.kept_text.proofs.Texts.{lists-kept, length-costs}
use Rattle.list_text.specs.Text.{read_list, list_text}
use Rattle.loading.specs.Loading.{network_of, state_of}
use Rattle.loading.specs.Known.{Known}
use Rattle.reasons_text.specs.Text.{reason_in}
use Rattle.reasons_text.proofs.Texts.{each_line}
use Rattle.rules.specs.Running.{Running}
use Rattle.claim.specs.Services.{accept_network, kept_text_of, kept_in, check_chain_text}
use Rattle.claim.specs.Verdicts.{check_chain, steps_in, drop_in}
use Rattle.claim.specs.Condition.{Accepted, Ruled}
use Rattle.claim.proofs.Accepting.{accepted-whole, accepted-running, running-few, chain-network-refused, chain-kept}
use Rattle.claim.proofs.Accepting.{chain-refused as check-refused}
use Rattle.claim.proofs.ChainTexts.{steps-found}
use Rattle.claim.proofs.Condition.{claim, keeps-ruled}
use Rattle.reasons.specs.Services.{reasons_of, chain_reasons}
use Rattle.reasons.specs.Condition.{frame_length, said_in, list_part, SameKept, ReasonsClaim}
use Rattle.reasons.proofs.Answering.{network-refused, chain-refused, chain-answered}

-- ── the refusals are those of the chain check ──

-- both are refused alike, or neither is
data Alike (a b : Answer (List ℕ)) : Type 0 where
  both : (k : ℕ) → a ≡ refused k → b ≡ refused k → Alike a b
  neither : (s t : List ℕ) → a ≡ answer s → b ≡ answer t → Alike a b

alike : (t chain : List ℕ) → Alike (chain_reasons t chain) (check_chain_text t chain)
alike t chain = go (accept_network t) refl
  where
    over : (g : Network) → accept_network t ≡ answer g → (w : Answer (List Bool))
        → check_chain (g.remaining - 2) g chain ≡ w → Alike (chain_reasons t chain) (check_chain_text t chain)
    over g e (refused k) q = both k (chain-refused t chain g e k q) (check-refused t chain g e k q)
    over g e (answer K) q = neither _ (kept_text_of g K) (chain-answered t chain g e K q)
        (unfold kept_in in chain-kept t chain g e K q)

    go : (w : Answer Network) → accept_network t ≡ w → Alike (chain_reasons t chain) (check_chain_text t chain)
    go (refused k) e = both k (network-refused t chain k e) (chain-network-refused t chain k e)
    go (answer g) e = over g e (check_chain (g.remaining - 2) g chain) refl

same_refusal : (t chain : List ℕ) (k : ℕ) → (chain_reasons t chain ≡ refused k) ↔ (check_chain_text t chain ≡ refused k)
same_refusal t chain k = go (alike t chain)
  where
    go : Alike (chain_reasons t chain) (check_chain_text t chain)
        → (chain_reasons t chain ≡ refused k) ↔ (check_chain_text t chain ≡ refused k)
    go (both j p q) = (λ h. let e : j ≡ k = cc in q ∙ ap refused e, λ h. let e : j ≡ k = cc in p ∙ ap refused e)
    go (neither r s p q) = (λ h. no_answer (cc), λ h. no_answer (cc))

-- ── an accepted network ──
module _ {t : List ℕ} {g : Network} (a : Accepted t g) where
  accepts : accept_network t ≡ answer g
  accepts = (claim.accepted t g).1 a

  running : Running g
  running = accepted-running t g accepts

  known : Known g
  known = (accepted-whole t g accepts).known

  twice : g.edges ≡ 2 * g.vertices
  unfolding network_of state_of
  twice = ap (λ g. g.edges) (sym a.state_is) ∙ ap (λ g. 2 * g.vertices) a.state_is

  vertices-ok : vertices_ok g.vertices ≡ true
  unfolding vertices_ok
  vertices-ok =
      and_both (le-leb fewest_vertices g.vertices known.several) (le-leb g.vertices vertex_limit known.vertex_room)

-- ── what is written over it ──
module _ {t : List ℕ} {g : Network} (a : Accepted t g) (chain text : List ℕ) (h : chain_reasons t chain ≡ answer text) where
  -- the chain passes, and the text is that of its steps and its ending
  record Given : Type 0 where
    marks : List Bool
    passes : check_chain (g.remaining - 2) g chain ≡ answer marks
    text_is : let n = g.remaining - 2 in text ≡ reasons_of g (steps_in n chain) (drop_in n chain)

  is-given : Given
  is-given = go (check_chain (g.remaining - 2) g chain) refl
    where
      go : (w : Answer (List Bool)) → check_chain (g.remaining - 2) g chain ≡ w → Given
      go (refused k) q = let e = chain-refused t chain g (accepts a) k q in no_answer (cc)
      go (answer K) q = let e = chain-answered t chain g (accepts a) K q in record { marks = K; passes = q; text_is = cc }

  counted : length text ≡ 2 * g.vertices * frame_length
  unfolding reasons_of
  counted = ap length is-given.text_is ∙ each_line.counted _ _ _ ∙ ap (λ n. n * frame_length) (twice a)

  -- for the steps and the ending of the chain
  module _ {K : List Bool} (r : Ruled g chain K) where
    text_of : text ≡ reasons_of g r.steps r.dropped
    text_of =
        let found = steps-found r.steps r.dropped (running a) r.by_rules in
        let steps : steps_in (g.remaining - 2) chain ≡ r.steps =
        ap (steps_in (g.remaining - 2)) r.text_is ∙ found.steps in
        let dropped : drop_in (g.remaining - 2) chain ≡ r.dropped =
        ap (drop_in (g.remaining - 2)) r.text_is ∙ found.dropped in
        is-given.text_is ∙ ap₂ (reasons_of g) steps dropped

    -- what the columns hold at an edge
    rule-at : (e : ℕ) → e < g.edges
        → at (rule_column FIRST_STEP g r.steps r.dropped) e ≡ (departure g r.steps r.dropped e).rule
    unfolding rule_column
    rule-at e l = tabulate-at edge_limit _ 0 e (omega (arith, (running a).edge_room))

    step-at : (e : ℕ) → e < g.edges
        → at (step_column FIRST_STEP g r.steps r.dropped) e ≡ (departure g r.steps r.dropped e).step
    unfolding step_column
    step-at e l = tabulate-at edge_limit _ 0 e (omega (arith, (running a).edge_room))

    said : (e : ℕ) → e < g.edges → let how = departure g r.steps r.dropped e in
        reason_in text e ≡ record { edge = e; rule = how.rule; step = how.step }
    unfolding reasons_of
    said e l =
        let few = rules-few FIRST_STEP g r.steps r.dropped e in
        let within = steps-within FIRST_STEP g r.steps r.dropped e in
        ap (λ t. reason_in t e) text_of
        ∙ each_line.says g.edges _ _ (running a).edge_room e l (omega (arith, rule-at e l, few))
        (omega (arith, step-at e l, within, steps-counted r.by_rules, running-few (running a)))
        ∙ ap₂ (λ rule step. record { edge = e; rule = rule; step = step }) (rule-at e l) (step-at e l)

    as_owed : Explained g r.steps r.dropped K (said_in text)
    as_owed =
        explained (running a).sound (known a).fresh r.by_rules r.back (said_in text)
        (λ e l. ap (λ s. record { rule = s.rule; step = s.step }) (said e l))

  named : (e : ℕ) → e < g.edges → (is_line REASON (drop (e * frame_length) text) ≡ true) × ((reason_in text e).edge ≡ e)
  unfolding reasons_of
  named e l = (
    rw is-given.text_is (each_line.line g.edges _ _ e l),
    ap (λ s. s.edge) (said (keeps-ruled (running a) is-given.passes) e l),
  )

-- ── the kept text of the same chain ──

-- a kept text lists its edges before its costs
list-part : (es : List ℕ) (kept unreserved : ℤ) → list_part (kept_text es kept unreserved) ≡ list_text es
unfolding list_part kept_text
list-part es kept unreserved =
    take_at (list_text es) (costs_text kept unreserved)
    (length (list_text es ++ costs_text kept unreserved) - line_length COSTS)
    (omega (arith, length-append (list_text es) (costs_text kept unreserved), length-costs kept unreserved))

same_kept : {t : List ℕ} {g : Network} → Accepted t g → (chain text kept : List ℕ) → chain_reasons t chain ≡ answer text
    → check_chain_text t chain ≡ answer kept → SameKept g.vertices g.edges kept text
same_kept {t} {g} a chain text kept h q =
    let w = (claim.gives a chain kept).0 q in
    let K = w.0 in
    let owed = as_owed a chain text h w.1 in
    record {
      edges_kept = kept_edges g.edges K;
      listed =
          ap (read_list g.vertices) (ap list_part w.2 ∙ list-part _ _ _)
          ∙ ap (λ n. read_list g.vertices (list_text (kept_edges n K))) (twice a)
          ∙ lists-kept.rising g.vertices K (vertices-ok a)
          ∙ ap (λ n. answer (kept_edges n K)) (sym (twice a));
      same = λ e l. lists-kept.exactly g.edges K e ∙ rw (lt-ltb e g.edges l) (sym (owed.exactly e l));
    }

pub reasons-claim : ReasonsClaim
reasons-claim = record {
  same_refusal = same_refusal;
  bytes = unfold line_length start_of place_of bytes_of padded total in refl;
  counted = counted;
  named = named;
  explained = λ a {chain} r text h. as_owed a chain text h r;
  same_kept = same_kept;
  short = λ t chain text lent h l. let w = short (chain_reasons t chain) lent text h l in (sym w.0, sym w.1);
  written = λ t chain text lent h l. let w = fits (chain_reasons t chain) lent text h l in (sym w.0, sym w.1);
  untouched = λ t chain lent k h. let w = refuses (chain_reasons t chain) lent k h in (sym w.0, sym w.1);
}
