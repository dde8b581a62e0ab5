-- What is owed of the pass over a network text: which frames are read, where the refusal stands, what the tally counts.
use Rattle.std.specs.Prelude.{List, ◌≡◌, ℕ, suc, ◌+◌, ◌*◌, ◌≤◌, ◌<◌}
use Rattle.base.specs.Answer.{refused, answer, unless}
use Rattle.base.specs.Columns.{at}
use Rattle.base.specs.Fold.{sum, bit}
use Rattle.base.specs.Limits.{edge_limit, vertex_limit}
use Rattle.frame.specs.Table.{EDGE, line_length}
use Rattle.frame.specs.declared.kinds.Head.{Head}
use Rattle.frame.specs.declared.kinds.Edge.{Edge}
use Rattle.graph.specs.Network.{low_end, high_end, cost_of, touches}
use Rattle.graph.specs.declared.Network.{Network}
use Rattle.incidence.specs.Degrees.{degrees_of}
use Rattle.network_frames.specs.Frames.{read_head, read_edge}
use Rattle.loading.specs.Loading.{load_network}
use Rattle.loading.specs.Pass.{pass_of}

-- an edge of a network, as its frame has it
abbrev pub frame_of : Network → ℕ → Edge
frame_of g i = record { number = i; lower = low_end g i; higher = high_end g i; cost = cost_of g i }

-- the frames behind a head and its line
pub record Frames (t : List ℕ) (h : Head) (first : ℕ) : Type 0 where
  pub few : (pass_of t).read ≤ 2 * h.vertices
  -- 'frames 02 read without a refusal': the i-th of them stands behind i others and is edge i of the network
  pub read : (i : ℕ) → i < (pass_of t).read
      → read_edge t (first + i * line_length EDGE) h.vertices i
      ≡ answer (frame_of (pass_of t).network i, first + suc i * line_length EDGE)
  -- the next one, where one is due, is the refused one
  pub refuses : (pass_of t).read < 2 * h.vertices
      → read_edge t (pass_of t).place h.vertices (pass_of t).read ≡ refused (pass_of t).refusal
  -- and the place of the refusal is behind those that were read
  pub place : (pass_of t).place ≡ first + (pass_of t).read * line_length EDGE

pub record OnePass : Type 0 where
  pub frames : (t : List ℕ) (h : Head) (first : ℕ) → read_head t ≡ answer (h, first) → Frames t h first
  -- a head that is refused is refused at the text's start, and no frame 02 is read
  pub no_head : (t : List ℕ) (k : ℕ) → read_head t ≡ refused k → ((pass_of t).place ≡ 0) × ((pass_of t).read ≡ 0)
  -- 'each cabinet's tally is exactly the number of cables at it among those read'
  pub counted : (t : List ℕ) (v : ℕ) → v < vertex_limit
      → at (pass_of t).tally v ≡ sum (pass_of t).read (λ e. bit (touches (pass_of t).network v e))
  -- no vertex is at more edges than a network may have
  pub at_most : (t : List ℕ) (v : ℕ) → at (pass_of t).tally v ≤ edge_limit
  -- the tally of all frames has the degrees
  pub degrees : (t : List ℕ) → (pass_of t).refusal ≡ 0 → (pass_of t).tally ≡ degrees_of (pass_of t).network
  -- 'A field error far down, or a byte left over, still outranks an earlier cabinet's fifth cable, and no reply
  -- changes': the pass refuses what the reader refuses, by its number, and 6 is none of these
  pub as_read : (t : List ℕ) → load_network t ≡ unless (pass_of t).refusal (answer (pass_of t).network)
