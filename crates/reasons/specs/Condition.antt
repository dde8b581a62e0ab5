-- What is owed of reasons, over texts: which chains get them, what each line says, and how they agree with the kept text
-- of the same chain.
use Rattle.std.specs.Prelude.{Bool, true, List, ◌↔◌, ◌≡◌, ℕ, ◌*◌, ◌-◌, ◌≤◌, ◌<◌, length, take, drop}
use Rattle.base.specs.Answer.{refused, answer, over, reply_of, after}
use Rattle.base.specs.Fold.{among}
use Rattle.base.specs.Refusals.{SHORT}
use Rattle.departures.specs.Departures.{Departure, keeps}
use Rattle.departures.specs.Explained.{Explained}
use Rattle.frame.specs.Table.{COSTS, REASON, line_length}
use Rattle.frame.specs.Line.{is_line}
use Rattle.graph.specs.declared.Network.{Network}
use Rattle.list_text.specs.Text.{read_list}
use Rattle.reasons_text.specs.Text.{reason_in}
use Rattle.claim.specs.Services.{check_chain_text}
use Rattle.claim.specs.Condition.{Accepted, Ruled}
use Rattle.reasons.specs.Services.{chain_reasons}

-- ── what the claim speaks of ──

-- how many bytes the frame 0a of an edge has
abbrev pub frame_length : ℕ
frame_length = line_length REASON

-- how edge e leaves, as its line of a reasons text says
abbrev pub said_in : List ℕ → ℕ → Departure
said_in text e = record { rule = (reason_in text e).rule; step = (reason_in text e).step }

-- the frames 05 of a kept text, which end before its last line
unfoldable pub list_part : List ℕ → List ℕ
list_part kept = take (length kept - line_length COSTS) kept

-- the edges that a kept text lists for n vertices, and whether a reasons text keeps just these
pub record SameKept (n edges : ℕ) (kept text : List ℕ) : Type 0 where
  pub edges_kept : List ℕ
  pub listed : read_list n (list_part kept) ≡ answer edges_kept
  pub same : (e : ℕ) → e < edges → among e edges_kept ≡ keeps (said_in text e).rule

-- ── the claim: each part with the words of document 02 that it says ──

pub record ReasonsClaim : Type 0 where
  -- 'A chain that doesn't pass gets the refusal of the chain check', and one that passes gets none:
  -- over every network text, whatever bytes are proposed
  pub same_refusal : (t chain : List ℕ) (k : ℕ)
      → (chain_reasons t chain ≡ refused k) ↔ (check_chain_text t chain ≡ refused k)
  -- 'For a passing chain write one frame 0a per cable': as many frames of 13 bytes as edges, twice as many as vertices,
  pub bytes : frame_length ≡ 13
  pub counted : {t : List ℕ} {g : Network} → Accepted t g → (chain text : List ℕ) → chain_reasons t chain ≡ answer text
      → length text ≡ 2 * g.vertices * frame_length
  -- 'in cable order': the frame behind those of the edges before it names edge e, so that every edge has one rule
  pub named : {t : List ℕ} {g : Network} → Accepted t g → (chain text : List ℕ) → chain_reasons t chain ≡ answer text
      → (e : ℕ) → e < g.edges
      → (is_line REASON (drop (e * frame_length) text) ≡ true) × ((reason_in text e).edge ≡ e)
  -- what the frames say of a chain by the rules is as owed, rule by rule and step by step
  pub explained : {t : List ℕ} {g : Network} → Accepted t g → {chain : List ℕ} {K : List Bool} (r : Ruled g chain K)
      → (text : List ℕ) → chain_reasons t chain ≡ answer text
      → Explained g r.steps r.dropped K (said_in text)
  -- 'the kept ones are exactly those with 1, 2 or 4': those that the kept text of the same chain lists
  pub same_kept : {t : List ℕ} {g : Network} → Accepted t g → (chain text kept : List ℕ)
      → chain_reasons t chain ≡ answer text → check_chain_text t chain ≡ answer kept
      → SameKept g.vertices g.edges kept text
  -- 13 comes exactly from a buffer that is shorter than the text, after all refusals of the check, and leaves it as it was
  pub short : (t chain text lent : List ℕ) → chain_reasons t chain ≡ answer text → length lent < length text
      → (reply_of (chain_reasons t chain) lent ≡ refused SHORT) × (after (chain_reasons t chain) lent ≡ lent)
  pub written : (t chain text lent : List ℕ) → chain_reasons t chain ≡ answer text → length text ≤ length lent
      → (reply_of (chain_reasons t chain) lent ≡ answer (length text)) × (after (chain_reasons t chain) lent ≡ over text lent)
  pub untouched : (t chain lent : List ℕ) (k : ℕ) → chain_reasons t chain ≡ refused k
      → (reply_of (chain_reasons t chain) lent ≡ refused k) × (after (chain_reasons t chain) lent ≡ lent)

-- ── wrong versions that the claim, or a promise by its words, shuts out: each has a must-fail edit ──
--
-- says of an x that is out that it is kept      `explained`, its `exactly`   rules_of_x_exchanged, crate departures
-- numbers the steps from 0                      `explained`, its `no_step`   steps_numbered_from_zero, crate departures
-- numbers the steps from the end                `explained`, its `y_leaves`  steps_numbered_from_the_end, crate departures
-- says of the reserved edge that it is dropped  `explained`, its `reserved`  reserved_edge_dropped, crate departures
-- gives a step's number to its z                promise of `note_step`       step_given_to_z, crate departures
-- writes a frame for each vertex                `counted`                    a_frame_for_each_vertex
-- explains a chain that its check refuses       promise of `explain_chain`   refused_chain_explained
-- measures one frame too few                    promise of `write_reasons`   one_frame_too_few_measured, crate reasons_text
