-- What is owed of candidates, over texts, replies and buffers: their frames are those of single plans, one by one.
use Rattle.std.specs.Prelude.{List, [], ◌∷◌, ◌++◌, ◌↔◌, ◌≡◌, ℕ, ◌*◌, ◌≤◌, ◌<◌, pos, ◌*ℤ◌, length, take, drop, ◌≤ℤ◌}
use Rattle.base.specs.Answer.{Answer, refused, answer, and_then, over, reply_of, after}
use Rattle.base.specs.Columns.{at}
use Rattle.base.specs.Refusals.{RESERVED, SHORT}
use Rattle.base.specs.Words.{Words}
use Rattle.frame.specs.Table.{COSTS, line_length}
use Rattle.graph.specs.Network.{all_but_reserved}
use Rattle.graph.specs.declared.Network.{Network}
use Rattle.network_text.specs.Text.{reserving_text}
use Rattle.kept_text.specs.Text.{costs_end, costs_in}
use Rattle.claim.specs.Services.{accept_network, Texts, plan_text}
use Rattle.claim.specs.Condition.{reserving}
use Rattle.candidates.specs.Services.{candidates_text}

-- ── what the claim speaks of ──

-- how many bytes the frame 06 of a candidate has
abbrev pub frame_length : ℕ
frame_length = line_length COSTS

-- the i-th frame of a text of such frames
unfoldable pub frame_at : ℕ → List ℕ → List ℕ
frame_at i text = take frame_length (drop (i * frame_length) text)

-- what single plans give: for each number the text whose head reserves it is planned, and the
-- frame 06 at the end of its kept text is put behind those before it; or the first refusal
unfoldable pub single_plans : List ℕ → List ℕ → Answer (List ℕ)
single_plans t [] = answer []
single_plans t (r ∷ rs) =
    and_then (plan_text (reserving_text r t)) (λ p.
    and_then (single_plans t rs) (λ later. answer (costs_end p.kept ++ later)))

-- the plan p of the text whose head reserves r, and a frame that is the 06 at the end of p's kept text
pub record PlannedFor (t : List ℕ) (r : ℕ) (frame : List ℕ) : Type 0 where
  pub plan : Texts
  pub planned : plan_text (reserving_text r t) ≡ answer plan
  pub same_frame : frame ≡ costs_end plan.kept

-- ── the claim: each part with the words of document 02 that it says ──

pub record CandidatesClaim : Type 0 where
  -- 'The text equals what single plans would have given, frame after frame', for every accepted
  -- network and every list of 2-byte numbers, and so does the refusal of a number that is no edge
  pub same_plans : (t rs : List ℕ) (g : Network) → accept_network t ≡ answer g → Words rs
      → candidates_text t rs ≡ single_plans t rs
  -- 'write one 06 frame for each in list order': as many frames of 35 bytes as numbers, repeats counted,
  pub bytes : frame_length ≡ 35
  pub counted : (t rs text : List ℕ) → candidates_text t rs ≡ answer text → length text ≡ length rs * frame_length
  -- and the i-th frame is that of the i-th number's plan
  pub frames : (t rs text : List ℕ) → candidates_text t rs ≡ answer text
      → (i : ℕ) → i < length rs → PlannedFor t (at rs i) (frame_at i text)
  -- with the sums for that reserved edge: the total leaves out it and no other,
  -- and three times what is kept costs at most twice the total
  pub sums : (t rs text : List ℕ) (g : Network) → accept_network t ≡ answer g → candidates_text t rs ≡ answer text
      → (i : ℕ) → i < length rs
      → let costs = costs_in (frame_at i text) in
      (costs.unreserved ≡ all_but_reserved (reserving (at rs i) g))
      × ((pos 3 *ℤ costs.kept) ≤ℤ (pos 2 *ℤ costs.unreserved))
  -- 'A number not below 2n anywhere refuses the whole list with 3',
  pub any_refuses : (t rs : List ℕ) (g : Network) → accept_network t ≡ answer g
      → (candidates_text t rs ≡ refused RESERVED) ↔ ((i : ℕ) × (i < length rs) × (g.edges ≤ at rs i))
  -- 'after the network's own refusals', among them the head's: 'the head's reserved field .. is still checked first',
  pub network_first : (t rs : List ℕ) (k : ℕ) → accept_network t ≡ refused k → candidates_text t rs ≡ refused k
  -- 'and before 13, and nothing is written', whatever buffer is lent
  pub nothing_written : (t rs : List ℕ) (k : ℕ) → candidates_text t rs ≡ refused k → (costs : List ℕ)
      → (reply_of (candidates_text t rs) costs ≡ refused k) × (after (candidates_text t rs) costs ≡ costs)
  -- 13 comes exactly from a buffer with less room than all frames need, and leaves it as it was
  pub short : (t rs text costs : List ℕ) → candidates_text t rs ≡ answer text → length costs < length rs * frame_length
      → (reply_of (candidates_text t rs) costs ≡ refused SHORT) × (after (candidates_text t rs) costs ≡ costs)
  pub written : (t rs text costs : List ℕ) → candidates_text t rs ≡ answer text → length rs * frame_length ≤ length costs
      → (reply_of (candidates_text t rs) costs ≡ answer (length rs * frame_length))
      × (after (candidates_text t rs) costs ≡ over text costs)
  -- 'An empty list writes nothing and succeeds', into an empty buffer too
  pub none : (t costs : List ℕ) (g : Network) → accept_network t ≡ answer g
      → (reply_of (candidates_text t []) costs ≡ answer 0) × (after (candidates_text t []) costs ≡ costs)

-- ── wrong programs and definitions that the claim, or a promise by its words, shuts out: each has a must-fail edit ──
--
-- writes the frames in the order of the edges          `frames`                      list_sorted
-- gives a number that stands twice one frame           `counted`                     repeat_left_out
-- answers with the frames before a bad number          `any_refuses`                 frames_before_a_bad_number_written
-- plans every candidate with the head's reserved edge  promise of `put_candidate`    heads_reserved_edge_for_all
-- gives 13 before 3                                    promise of `plan_candidates`  short_before_a_bad_number
