-- The claim of candidates, for every text, every list and whatever buffer is lent.
use mathlib.Core.Path.{◌≡◌, refl, sym, ◌∙◌, ap}
use mathlib.Core.Bool.{Bool, true, false, cond}
use mathlib.Core.List.{List, [], ◌∷◌, ◌++◌}
use Prim.Native.Nat.{ℕ, ◌-◌, ◌*◌, ◌^◌, ◌≤◌, ◌<◌}
use native.Mathlib.Omega.{arith}
use native.Mathlib.Decide.{dec_lt}
use lib.IntN.{pos, ◌*ℤ◌}
use lib.ListN.{length}
use lib.Signed.{◌≤ℤ◌}
use borrow.Author.Tests.{lt-ltb, le-ltb}
use Rattle.base.specs.Answer.{Answer, refused, answer, and_then, over, reply_of, after}
use Rattle.base.specs.Columns.{at}
use Rattle.base.specs.Refusals.{RESERVED}
use Rattle.base.specs.Words.{Words}
use Rattle.base.proofs.Answers.{then-refused, then-answer, cond-answered, refuses, fits, short}
use Rattle.base.proofs.Bools.{no_answer}
use Rattle.base.proofs.Words.{below_at}
use Rattle.graph.specs.Network.{kept_cost, all_but_reserved}
use Rattle.graph.specs.Plan.{plan_kept}
use Rattle.graph.specs.Sound.{Light}
use Rattle.graph.specs.declared.Network.{Network}
use Rattle.network_text.specs.Text.{read_network, reserving_text}
use Rattle.network_text.proofs.Reserving.{reserving-refused}
use Rattle.loading.specs.Loading.{state_of, network_of, load_network}
use Rattle.frame.specs.Frames.{lines_of}
use Rattle.list_text.specs.Text.{list_text}
use Rattle.kept_text.specs.Text.{kept_edges, kept_text, costs_end, costs_in}
use Rattle.kept_text.proofs.Texts.{costs-last}
use Rattle.claim.specs.Services.{accept_network, kept_text_of, Texts, texts_of, plan_text}
use Rattle.claim.specs.Condition.{reserving}
use Rattle.claim.proofs.Accepting.{accepting-refused, accepted-whole, accepted-running}
use Rattle.claim.proofs.Condition.{claim, keeps-ruled, plan-keeps}
use Rattle.claim.proofs.Keepings.{costs-in}
use Rattle.candidates.specs.Services.{plan_costs, candidates_costs, are_edges, candidates_over, candidates_text}
use Rattle.candidates.specs.Condition.{frame_length, frame_at, single_plans, PlannedFor, CandidatesClaim}
use Rattle.candidates.proofs.Listing.{edges-below, edges-bad, line_at, length-candidates}
use Rattle.candidates.proofs.Answering.{network-refused, list-refused, costs-answered, line-bytes}

-- ── the text whose head reserves another number ──
module _ (t : List ℕ) (g : Network) (e : accept_network t ≡ answer g) (r : ℕ) where
  -- an edge: it is accepted, and its plan ends with the costs of that candidate
  module _ (h : r < g.edges) where
    abbrev other : Network
    other = reserving r g

    other-accepted : accept_network (reserving_text r t) ≡ answer other
    other-accepted =
        (claim.accepted (reserving_text r t) other).1 (claim.any_reserved ((claim.accepted t g).0 e) r h)

    abbrev other-plan : Texts
    other-plan = texts_of other (plan_kept (other.remaining - 2) other)

    pub planned : plan_text (reserving_text r t) ≡ answer other-plan
    unfolding plan_text
    planned = then-answer (accept_network (reserving_text r t)) _ other other-accepted

    pub plan-ends : costs_end other-plan.kept ≡ plan_costs other
    unfolding texts_of kept_text_of plan_costs
    plan-ends =
        let K = plan_kept (other.remaining - 2) other in
        costs-last (kept_edges other.edges K) (kept_cost other K) (all_but_reserved other)

  -- none: it is refused by 3
  pub unplanned : g.edges ≤ r → r < 2 ^ 16 → plan_text (reserving_text r t) ≡ refused RESERVED
  unfolding plan_text accept_network load_network
  unplanned h small =
      let w = accepted-whole t g e in
      let m = w.meaning in
      let s = reserving_text r t in
      let none : 2 * m.vertices ≤ r = unfold network_of state_of in omega (arith, h, ap (λ g. g.edges) w.state_is) in
      let read = reserving-refused t m r w.read none small in
      let loaded = then-refused (read_network s) _ RESERVED read in
      then-refused (accept_network s) _ RESERVED (accepting-refused (load_network s) RESERVED loaded)

-- ── what single plans give ──

-- a line before all others, where none of them is refused
line_first : (b : Bool) (line costs : List ℕ)
    → cond b (answer (line ++ costs)) (refused RESERVED)
    ≡ and_then (cond b (answer costs) (refused RESERVED)) (λ later. answer (line ++ later))
unfolding and_then
line_first true line costs = refl
line_first false line costs = refl

module _ (t : List ℕ) (g : Network) (e : accept_network t ≡ answer g) where
  one_by_one : (rs : List ℕ) → Words rs → candidates_over rs g ≡ single_plans t rs
  unfolding single_plans candidates_over are_edges candidates_costs and_then
  one_by_one [] w = refl
  one_by_one (r ∷ rs) w = elim (dec_lt r g.edges) [
    | yes h ↦
        rw (lt-ltb r g.edges h, planned t g e r h, plan-ends t g e r h, ← one_by_one rs w.1)
        (line_first (are_edges g.edges rs) (plan_costs (reserving r g)) (candidates_costs g rs))
    | no h ↦ rw (le-ltb r g.edges (omega arith), unplanned t g e r (omega arith) w.0)
  ]

  same_plans : (rs : List ℕ) → Words rs → candidates_text t rs ≡ single_plans t rs
  unfolding candidates_text
  same_plans rs w = then-answer (accept_network t) (candidates_over rs) g e ∙ one_by_one rs w

-- ── the frames of an answer ──

-- the network and the candidates of an answer
record Answered (t rs text : List ℕ) : Type 0 where
  network : Network
  accepted : accept_network t ≡ answer network
  edges : are_edges network.edges rs ≡ true
  text_is : text ≡ candidates_costs network rs

answered : (t rs text : List ℕ) → candidates_text t rs ≡ answer text → Answered t rs text
unfolding candidates_text candidates_over and_then
answered t rs text x = go (accept_network t) refl x
  where
    go : (a : Answer Network) → accept_network t ≡ a → and_then a (candidates_over rs) ≡ answer text → Answered t rs text
    go (refused k) e x = no_answer (cc)
    go (answer g) e x =
        let w = cond-answered (are_edges g.edges rs) (answer (candidates_costs g rs)) RESERVED text x in
        record { network = g; accepted = e; edges = w.0; text_is = cc }

module _ (t rs text : List ℕ) (x : candidates_text t rs ≡ answer text) where
  counted : length text ≡ length rs * frame_length
  counted = let w = answered t rs text x in ap length w.text_is ∙ length-candidates w.network rs

  module _ (i : ℕ) (h : i < length rs) where
    frame_is : frame_at i text ≡ plan_costs (reserving (at rs i) (answered t rs text x).network)
    unfolding frame_at
    frame_is =
        let w = answered t rs text x in
        ap (frame_at i) w.text_is ∙ line_at w.network rs i h

    frame-planned : PlannedFor t (at rs i) (frame_at i text)
    frame-planned =
        let w = answered t rs text x in
        let g = w.network in
        let edge = below_at g.edges rs (edges-below g.edges rs w.edges) i h in
        record {
          plan = other-plan t g w.accepted (at rs i) edge;
          planned = planned t g w.accepted (at rs i) edge;
          same_frame = frame_is ∙ sym (plan-ends t g w.accepted (at rs i) edge);
        }

-- ── the sums in them ──

-- a frame's costs are those of its plan
costs-are : (g : Network) → Light g
    → costs_in (plan_costs g)
    ≡ record { kept = kept_cost g (plan_kept (g.remaining - 2) g); unreserved = all_but_reserved g }
unfolding plan_costs kept_text list_text lines_of
costs-are g light = costs-in g light (plan_kept (g.remaining - 2) g) []

-- which condition 3 bounds
module _ (t : List ℕ) (g : Network) (e : accept_network t ≡ answer g) where
  plan-ratio : (pos 3 *ℤ kept_cost g (plan_kept (g.remaining - 2) g)) ≤ℤ (pos 2 *ℤ all_but_reserved g)
  plan-ratio =
      let run = accepted-running t g e in
      (claim.owed ((claim.accepted t g).0 e) (keeps-ruled run (plan-keeps run))).ratio

module _ (t rs text : List ℕ) (g : Network) (e : accept_network t ≡ answer g) (x : candidates_text t rs ≡ answer text)
    (i : ℕ) (h : i < length rs)
  where
    sums : let costs = costs_in (frame_at i text) in
        (costs.unreserved ≡ all_but_reserved (reserving (at rs i) g))
        × ((pos 3 *ℤ costs.kept) ≤ℤ (pos 2 *ℤ costs.unreserved))
    sums =
        let w = answered t rs text x in
        let same : w.network ≡ g = cc (w.accepted, e) in
        let edge : at rs i < g.edges =
        rw same at (below_at w.network.edges rs (edges-below w.network.edges rs w.edges) i h) in
        let r = at rs i in
        let accepted = other-accepted t g e r edge in
        let run = accepted-running (reserving_text r t) (reserving r g) accepted in
        let costs = ap costs_in (rw same at (frame_is t rs text x i h)) ∙ costs-are (reserving r g) run.light in
        rw costs (refl, plan-ratio (reserving_text r t) (reserving r g) accepted)

-- ── refusals ──
any_refuses : (t rs : List ℕ) (g : Network) → accept_network t ≡ answer g → candidates_text t rs ≡ refused RESERVED
    → (i : ℕ) × (i < length rs) × (g.edges ≤ at rs i)
any_refuses t rs g e x = go (are_edges g.edges rs) refl
  where
    go : (b : Bool) → are_edges g.edges rs ≡ b → (i : ℕ) × (i < length rs) × (g.edges ≤ at rs i)
    go false q = edges-bad g.edges rs q
    go true q = let y = costs-answered t rs g e q in no_answer (cc)

one-refuses : (t rs : List ℕ) (g : Network) → accept_network t ≡ answer g
    → (i : ℕ) × (i < length rs) × (g.edges ≤ at rs i) → candidates_text t rs ≡ refused RESERVED
one-refuses t rs g e bad = go (are_edges g.edges rs) refl
  where
    go : (b : Bool) → are_edges g.edges rs ≡ b → candidates_text t rs ≡ refused RESERVED
    go false q = list-refused t rs g e q
    go true q = absurd (omega (arith, bad.2, below_at g.edges rs (edges-below g.edges rs q) bad.0 bad.1))

-- ── the empty list ──
empty-list : (t costs : List ℕ) (g : Network) → accept_network t ≡ answer g
    → (reply_of (candidates_text t []) costs ≡ answer 0) × (after (candidates_text t []) costs ≡ costs)
unfolding are_edges candidates_costs over
empty-list t costs g e =
    let w = fits (candidates_text t []) costs [] (costs-answered t [] g e refl) (omega arith) in (sym w.0, sym w.1)

-- ── the claim ──
pub candidates-claim : CandidatesClaim
candidates-claim =
    record {
      same_plans = λ t rs g e. same_plans t g e rs;
      bytes = line-bytes;
      counted = counted;
      frames = frame-planned;
      sums = sums;
      any_refuses = λ t rs g e. (any_refuses t rs g e, one-refuses t rs g e);
      network_first = network-refused;
      nothing_written = λ t rs k e costs. let w = refuses (candidates_text t rs) costs k e in (sym w.0, sym w.1);
      short = λ t rs text costs x l.
          let n = counted t rs text x in
          let w = short (candidates_text t rs) costs text x (omega arith) in (sym w.0, sym w.1);
      written = λ t rs text costs x l.
          let n = counted t rs text x in
          let w = fits (candidates_text t rs) costs text x (omega arith) in (sym w.0 ∙ ap answer n, sym w.1);
      none = empty-list;
    }
