-- The claim of condition 3, for every accepted network, whichever edge is
-- reserved, whatever bytes are proposed and whatever buffers are lent.
use mathlib.Core.Path.{◌≡◌, refl, sym, ◌∙◌, ap}
use mathlib.Core.Logic.{inl, inr, ⊎_elim}
use mathlib.Core.Bool.{Bool, true, false, cond}
use mathlib.Core.List.{List, ◌∷◌}
use Prim.Native.Nat.{ℕ, zero, suc, ◌-◌, ◌*◌, ◌<◌}
use native.Mathlib.Omega.{arith}
use native.Mathlib.Decide.{dec_lt}
use lib.Dec.{eqb}
use lib.ListN.{length}
use borrow.Author.Tests.{eq-eqb}
use Rattle.base.proofs.Bools.{no_answer, same_test}
use Rattle.base.proofs.LimitLaws.{sums_far}
use Rattle.base.specs.Answer.{Answer, refused, answer, and_then}
use Rattle.base.specs.Refusals.{SHORT}
use Rattle.base.proofs.Answers.{then-answer, refuses, fits, short}
use Rattle.network_text.specs.Text.{Meaning, reserving_text}
use Rattle.network_text.proofs.OneToOne.{read_written, written_read}
use Rattle.network_text.proofs.Reserving.{reserving_meaning, reserving-answered}
use Rattle.network_text.proofs.Meaning.{read-valid}
use Rattle.loading.specs.Known.{Known}
use Rattle.loading.specs.Loading.{state_of, network_of}
use Rattle.loading.proofs.Meanings.{loaded-formed}
use Rattle.loading.proofs.Reading.{known-weight}
use Rattle.kept_text.specs.Text.{kept_edges, kept_text}
use Rattle.base.specs.Fold.{among, pick}
use Rattle.graph.specs.Network.{ends_at, degree, kept, kept_cost, all_but_reserved}
use Rattle.graph.specs.Cut.{crosses, crossings_of, EveryCutOf, crossed_by, every_cut_of, four_each, network_refusal}
use Rattle.graph.specs.Plan.{plan_steps, plan_drop, plan_kept}
use Rattle.graph.specs.Sound.{Formed, Fresh}
use Rattle.graph.specs.declared.Network.{Network}
use Rattle.base.proofs.Sums.{each_in}
use Rattle.base.proofs.Picks.{pick-among, among-pick}
use Rattle.graph.proofs.EveryCut.{every-cut-complete}
use Rattle.graph.proofs.Checking.{passes-ruled}
use Rattle.graph.proofs.Backs.{back-good, back_below, check-back, back-check}
use Rattle.graph.proofs.Condition.{plan-checked, working-costs}
use Rattle.departures.specs.Departures.{FIRST_STEP}
use Rattle.departures.specs.Columns.{kept_by}
use Rattle.departures.proofs.Explaining.{kept-by-rules}
use Rattle.costs.proofs.Totals.{kept-weight, reserved-weight}
use Rattle.rules.specs.Running.{Running}
use Rattle.claim.specs.Verdicts.{check_chain, steps_in, drop_in, rules_in}
use Rattle.claim.specs.Plans.{plan_chain}
use Rattle.claim.specs.Services.{accept_network, kept_text_of, kept_in, check_chain_text, chain_reply, kept_after}
use Rattle.claim.specs.Services.{Texts, texts_of, plan_of, plan_text, plan_given}
use Rattle.claim.specs.Condition.{CrossesEach, Accepted, reserving, Ruled, Rising, Owed, Passes, PlanWrites}
use Rattle.claim.specs.Condition.{Claim}
use Rattle.claim.proofs.ChainTexts.{bytes-meant, meaning-passes}
use Rattle.claim.proofs.Accepting.{not-refused, known-running, accept-numbered, accepted-whole, whole-accepted}
use Rattle.claim.proofs.Accepting.{accepted-running, chain-network-refused, chain-kept}
use Rattle.claim.proofs.Handing.{too_short, long-enough, which-short, handed-refused, handed-over, plan-refused}
use Rattle.claim.proofs.Meets.{chain-meets}

-- ── the edges that a kept text lists ──
picked-rise : (n k : ℕ) (p : ℕ → Bool) → Rising (pick n k p)
unfolding pick
picked-rise zero k p = tt
picked-rise (suc n) k p = go (p k) (picked-rise n (suc k) p)
  where
    go : (b : Bool) → Rising (pick n (suc k) p) → Rising (cond b (k ∷ pick n (suc k) p) (pick n (suc k) p))
    go true later = (λ f h. omega (arith, (pick-among n (suc k) p f h).0), later)
    go false later = later

rising : (n : ℕ) (K : List Bool) → Rising (kept_edges n K)
unfolding kept_edges
rising n K = picked-rise n 0 (kept K)

-- marks of edges below n are those of the list
listed : (n : ℕ) (K : List Bool) → ((e : ℕ) → kept K e ≡ true → e < n) → (e : ℕ) → among e (kept_edges n K) ≡ kept K e
unfolding kept_edges
listed n K below e =
    same_test (among e (pick n 0 (kept K))) (kept K e) (λ h. (pick-among n 0 (kept K) e h).2)
    (λ h. among-pick n 0 (kept K) e (omega arith) (omega (arith, below e h)) h)

-- ── accepted networks ──

-- in a network as it is read the cuts are those of all vertices
crosses-each : (k : ℕ) {g : Network} (K : ℕ → Bool) → Fresh g → EveryCutOf k g K → CrossesEach k g K
crosses-each k K fresh h S i o li lo si so =
    h S (record {
      inner = i;
      outer = o;
      inner_here = fresh.all_here i li;
      outer_here = fresh.all_here o lo;
      inner_in =
          si;
      outer_out = so;
    })

every-cut : (k : ℕ) {g : Network} (K : ℕ → Bool) → Formed g → CrossesEach k g K → EveryCutOf k g K
every-cut k K formed h S d =
    h S d.inner d.outer (formed.here_below d.inner d.inner_here)
    (formed.here_below d.outer d.outer_here) d.inner_in d.outer_out

-- a known network that is not refused has four edges at every vertex and at least four across every cut
pub passed-four : {g : Network} → Known g → network_refusal g ≡ 0
    → ((v : ℕ) → v < g.vertices → degree g v ≡ 4) × CrossesEach 4 g (λ e. true)
passed-four k p =
    let sound = (known-running k p).sound in
    (λ v l. sound.degrees v (k.fresh.all_here v l), crosses-each 4 (λ e. true) k.fresh sound.cuts)

-- and the other way round
pub four-passed : {g : Network} → Formed g → ((v : ℕ) → v < g.vertices → degree g v ≡ 4)
    → CrossesEach 4 g (λ e. true) → network_refusal g ≡ 0
four-passed {g} formed degrees cuts =
    sym (not-refused g four (every-cut-complete 4 g (λ e. true) (every-cut 4 (λ e. true) formed cuts)))
  where
    four : four_each g ≡ true
    four = unfold four_each in
        each_in g.vertices (λ v. eqb (degree g v) 4) (λ v l. eq-eqb (degree g v) 4 (degrees v l))

is-accepted : (t : List ℕ) (g : Network) → accept_network t ≡ answer g → Accepted t g
is-accepted t g e =
    let w = accepted-whole t g e in
    let four = passed-four w.known w.passed in
    record {
      meaning = w.meaning;
      text_is = written_read t w.meaning w.read;
      state_is = w.state_is;
      degrees = four.0;
      cuts = four.1;
    }

accepts : {t : List ℕ} {g : Network} → Accepted t g → accept_network t ≡ answer g
accepts {t} {g} a =
    let q = read_written a.meaning t a.text_is in
    let formed : Formed g = rw (← a.state_is) (loaded-formed (read-valid t a.meaning q)) in
    whole-accepted t a.meaning q (ap network_refusal a.state_is ∙ four-passed formed a.degrees a.cuts)
    ∙ ap answer a.state_is

-- ── another edge reserved ──

-- degrees and cuts do not depend on it
pub refusal-same : (r : ℕ) (g : Network) → network_refusal (reserving r g) ≡ network_refusal g
unfolding network_refusal four_each degree ends_at every_cut_of crossed_by crossings_of crosses
refusal-same r g = refl

state-same : (m : Meaning) (r : ℕ) → network_of (reserving_meaning r m) ≡ reserving r (network_of m)
unfolding network_of state_of
state-same m r = refl

accepted-any : (t : List ℕ) (g : Network) → accept_network t ≡ answer g → (r : ℕ) → r < g.edges
    → Accepted (reserving_text r t) (reserving r g)
accepted-any t g e r h =
    let w = accepted-whole t g e in
    let m = w.meaning in
    let few : r < 2 * m.vertices = unfold network_of state_of in omega (arith, h, ap (λ g. g.edges) w.state_is) in
    let same : network_of (reserving_meaning r m) ≡ reserving r g =
    state-same m r ∙ ap (reserving r) w.state_is in
    is-accepted (reserving_text r t) (reserving r g)
    (whole-accepted (reserving_text r t) (reserving_meaning r m) (reserving-answered t m r w.read few)
    (ap network_refusal same ∙ refusal-same r g ∙ w.passed) ∙ ap answer same)

-- ── chains over a network that runs ──
module _ {g : Network} (run : Running g) where
  -- bytes that are kept keep the rules, and going back gives what is kept
  pub keeps-ruled : {chain : List ℕ} {K : List Bool} → check_chain (g.remaining - 2) g chain ≡ answer K
      → Ruled g chain K
  keeps-ruled {chain} {K} e =
      let m = bytes-meant (g.remaining - 2) g chain K (omega (arith, run.left)) e in
      let r = passes-ruled _ run.sound _ K m.passes in
      record {
        steps = steps_in (g.remaining - 2) chain;
        dropped = drop_in (g.remaining - 2) chain;
        text_is = m.text_is;
        by_rules = r;
        back = check-back run.sound r m.passes;
      }

  -- the marks that the rules of how each edge leaves give are those that are kept
  pub marks-left : Fresh g → (chain : List ℕ) {K : List Bool} → check_chain (g.remaining - 2) g chain ≡ answer K
      → kept_by g.edges (rules_in FIRST_STEP g chain) ≡ K
  unfolding rules_in
  marks-left fresh chain {K} e =
      let m = bytes-meant (g.remaining - 2) g chain K (omega (arith, run.left)) e in
      let r = passes-ruled _ run.sound _ K m.passes in
      kept-by-rules run.sound fresh r (check-back run.sound r m.passes) run.edge_room run.long

  -- what keeps the rules is kept
  pub ruled-keeps : {chain : List ℕ} {K : List Bool} → Ruled g chain K
      → check_chain (g.remaining - 2) g chain ≡ answer K
  ruled-keeps {chain} {K} r =
      ap (check_chain (g.remaining - 2) g) r.text_is
      ∙ meaning-passes r.steps r.dropped run K (back-check run.sound r.by_rules r.back)

  pub one_set : {chain : List ℕ} {K L : List Bool} → Ruled g chain K → Ruled g chain L → K ≡ L
  one_set r s = let p = ruled-keeps r in let q = ruled-keeps s in cc

  pub ruled-owed : Fresh g → {chain : List ℕ} {K : List Bool} → Ruled g chain K → Owed g K
  ruled-owed fresh {K = K} r =
      let good = back-good run.sound r.by_rules r.back in
      record {
        lists = listed g.edges K (back_below run.sound r.by_rules r.back);
        rises = rising g.edges K;
        leaves_out = good.leaves_out;
        twice = crosses-each 2 (kept K) fresh good.twice;
        ratio = good.ratio;
      }

  -- the plan's chain keeps what the plan keeps
  pub plan-keeps : let n = g.remaining - 2 in check_chain n g (plan_chain n g) ≡ answer (plan_kept n g)
  unfolding plan_chain
  plan-keeps =
      let n = g.remaining - 2 in
      meaning-passes (plan_steps n g) (plan_drop n g) run (plan_kept n g)
      (plan-checked n run.sound (omega (arith, run.left)))

-- ── chains over an accepted text ──
module _ {t : List ℕ} {g : Network} (a : Accepted t g) where
  running : Running g
  running = accepted-running t g (accepts a)

  known : Known g
  known = (accepted-whole t g (accepts a)).known

  -- the bytes of a check that answers keep the rules, and its text is that of what going back gives
  answers-ruled : (chain text : List ℕ) → check_chain_text t chain ≡ answer text
      → (K : List Bool) × Ruled g chain K × (text ≡ kept_text_of g K)
  unfolding check_chain_text and_then kept_in
  answers-ruled chain text h = go (check_chain (g.remaining - 2) g chain) refl (rw (accepts a) at h)
    where
      go : (w : Answer (List Bool)) → check_chain (g.remaining - 2) g chain ≡ w → kept_in g w ≡ answer text
          → (K : List Bool) × Ruled g chain K × (text ≡ kept_text_of g K)
      go (refused k) q h = no_answer (cc)
      go (answer K) q h = (K, keeps-ruled running q, cc)

  ruled-answers : {chain : List ℕ} {K : List Bool} → Ruled g chain K → check_chain_text t chain ≡ answer (kept_text_of g K)
  unfolding kept_in
  ruled-answers {chain} {K} r = chain-kept t chain g (accepts a) K (ruled-keeps running r)

  -- 13 is the buffer's
  never-short : (chain : List ℕ) → check_chain_text t chain ≡ refused SHORT → ⊥
  never-short chain h =
      ⊎_elim (λ e. omega arith) (λ w. ⊎_elim (λ w. omega (arith, w.1)) (λ e. omega arith) w)
      (chain-meets t chain g SHORT (accepts a) h)

  passes-ruled-text : (chain lent : List ℕ) → Passes (chain_reply t chain lent) → (K : List Bool) × Ruled g chain K
  passes-ruled-text chain lent p = go (check_chain_text t chain) refl
    where
      go : (w : Answer (List ℕ)) → check_chain_text t chain ≡ w → (K : List Bool) × Ruled g chain K
      go (answer text) q = let r = answers-ruled chain text q in (r.0, r.1)
      go (refused k) q =
          let e = (refuses (check_chain_text t chain) lent k q).0 in
          ⊎_elim (λ d. let x = d.1 in no_answer (cc))
          (λ s. let z : k ≡ SHORT = cc in absurd (never-short chain (q ∙ ap refused z))) p

  ruled-text-passes : (chain lent : List ℕ) → (K : List Bool) × Ruled g chain K → Passes (chain_reply t chain lent)
  ruled-text-passes chain lent r =
      let text = kept_text_of g r.0 in
      let q = ruled-answers r.1 in
      elim (dec_lt (length lent) (length text)) [
        | yes l ↦ inr (sym (short (check_chain_text t chain) lent text q l).0)
        | no l ↦ inl (length text, sym (fits (check_chain_text t chain) lent text q (omega arith)).0)
      ]

  short-ruled : (chain lent : List ℕ) → chain_reply t chain lent ≡ refused SHORT
      → (K : List Bool) × Ruled g chain K × (length lent < length (kept_text_of g K))
  short-ruled chain lent h =
      let r = passes-ruled-text chain lent (inr h) in
      elim (dec_lt (length lent) (length (kept_text_of g r.0))) [
        | yes l ↦ (r.0, r.1, l)
        | no l ↦ let e = (fits (check_chain_text t chain) lent (kept_text_of g r.0) (ruled-answers r.1)
            (omega arith)).0 in
            no_answer (cc)
      ]

-- ── plans ──
module _ {t : List ℕ} {g : Network} (a : Accepted t g) where
  due : Texts
  due = texts_of g (plan_kept (g.remaining - 2) g)

  due-is : plan_of (accept_network t) ≡ answer due
  unfolding due
  due-is = then-answer (accept_network t) _ g (accepts a)

  due-passes : check_chain_text t due.chain ≡ answer due.kept
  unfolding due texts_of kept_in
  due-passes = chain-kept t due.chain g (accepts a) (plan_kept (g.remaining - 2) g) (plan-keeps (running a))

  -- the plan's chain passes, and its check gives the plan's kept text
  pub plan-passes : (p : Texts) → plan_text t ≡ answer p → check_chain_text t p.chain ≡ answer p.kept
  unfolding plan_text
  plan-passes p e = let q : due ≡ p = cc (due-is) in rw q at due-passes

  plan-writes : (chain lent : List ℕ) → PlanWrites t due chain lent
  unfolding plan_given
  plan-writes chain lent =
      let which = which-short due-is chain lent in
      let is-short = too_short due-is chain lent in
      record {
        short = (which, λ s. sym (handed-refused _ chain lent SHORT (is-short s)).0);
        untouched = λ h. let w = (handed-refused _ chain lent SHORT (is-short (which h))).1 in (sym w.0, sym w.1);
        written = λ c k. let w =
            handed-over _ chain lent due (long-enough due-is chain lent c k) in
            (sym w.0, sym w.1.0, sym w.1.1);
      }

-- ── the claim ──
untouched : (t chain lent : List ℕ) (k : ℕ) → chain_reply t chain lent ≡ refused k → kept_after t chain lent ≡ lent
untouched t chain lent k h = go (check_chain_text t chain) refl
  where
    go : (w : Answer (List ℕ)) → check_chain_text t chain ≡ w → kept_after t chain lent ≡ lent
    go (refused j) q = sym (refuses (check_chain_text t chain) lent j q).1
    go (answer text) q = elim (dec_lt (length lent) (length text)) [
      | yes l ↦ sym (short (check_chain_text t chain) lent text q l).1
      | no l ↦ let e = (fits (check_chain_text t chain) lent text q (omega arith)).0 in no_answer (cc)
    ]

-- the kept text of marked edges, in full
text_of : (g : Network) (K : List Bool)
    → kept_text_of g K ≡ kept_text (kept_edges g.edges K) (kept_cost g K) (all_but_reserved g)
unfolding kept_text_of
text_of g K = refl

pub claim : Claim
claim = record {
  accepted = λ t g. (is-accepted t g, accepts);
  any_reserved = λ {t} {g} a. accepted-any t g (accepts a);
  passes = λ a chain lent. (passes-ruled-text a chain lent, ruled-text-passes a chain lent);
  gives = λ {g = g} a chain text. (
    λ h. let r = answers-ruled a chain text h in (r.0, r.1, r.2 ∙ text_of g r.0),
    λ r. ruled-answers a r.1 ∙ ap answer (text_of g r.0 ∙ sym r.2),
  );
  one = λ a r s. one_set (running a) r s;
  owed = λ a r. ruled-owed (running a) (known a).fresh r;
  short = λ {t} a chain lent.
      (short-ruled a chain lent, λ r. sym (short (check_chain_text t chain) lent _ (ruled-answers a r.1) r.2).0);
  written = λ {t} {g} a {chain} {K} r lent l. let w =
      fits (check_chain_text t chain) lent (kept_text_of g K) (ruled-answers a r) l in (sym w.0, sym w.1);
  untouched = untouched;
  planned = λ a. (due a, due-passes a, plan-writes a);
  network_first = λ t k e chain lent. (
    sym (refuses (check_chain_text t chain) lent k (chain-network-refused t chain k e)).0,
    sym (handed-refused (plan_given t chain lent) chain lent k
        (unfold plan_given in plan-refused (accept_network t) chain lent k e)).0,
  );
  network_refusals = λ t k e. let w = (accept-numbered t).number k e in (omega (arith, w.0), w.1);
  chain_refusals = λ {t} {g} a chain k e. chain-meets t chain g k (accepts a) e;
  working = λ a l e k. omega (arith, known-weight (known a), working-costs (running a).sound l e k);
  sums = λ {g = g} a K. let w =
      known-weight (known a) in (omega (arith, w, kept-weight g K), omega (arith, w, reserved-weight g));
  far = omega (arith, sums_far);
}
