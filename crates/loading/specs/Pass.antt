-- One pass over a network text (document 02's ports and fields together): its edge frames are
-- read one after the other up to the first refusal, and the edges that were read are tallied.
use Rattle.std.specs.Prelude.{cond, ◌||◌, List, [], ◌∷◌, ℕ, zero, suc, ◌+◌, ◌*◌, ltb, eqb, length}
use Rattle.base.specs.Answer.{Answer, refused, answer, told, refusal_of}
use Rattle.base.specs.Fold.{bit, tabulate}
use Rattle.base.specs.Limits.{vertex_limit}
use Rattle.base.specs.Refusals.{FORM}
use Rattle.frame.specs.declared.kinds.Head.{Head}
use Rattle.frame.specs.declared.kinds.Edge.{Edge}
use Rattle.graph.specs.declared.Network.{Network}
use Rattle.network_frames.specs.Frames.{read_head, read_edge}
use Rattle.network_text.specs.Text.{meaning_of}
use Rattle.loading.specs.Loading.{network_of, no_network}
use Rattle.loading.specs.declared.pass.Pass.{Pass as Handed}

-- ── the frames 02 ──

-- how far the frames of edges read: the edges without a refusal, the refusal
-- behind them, or 0, and the place in the text where the refused frame starts
pub record Run : Type 0 where
  pub edges : List Edge
  pub refusal : ℕ
  pub place : ℕ

-- what the frame at a place decides: refused, it ends the run; read, it stands before the run behind it
unfoldable pub onward : ℕ → Answer (Edge × ℕ) → (ℕ → Run) → Run
onward at (refused k) later = record { edges = []; refusal = k; place = at }
onward at (answer found) later =
    let run = later found.1 in record { edges = found.0 ∷ run.edges; refusal = run.refusal; place = run.place }

-- the last k edges of a text, from the i-th and from a place on, of a network with n vertices;
-- bytes left over behind the last are refused where they start
unfoldable pub run_of : List ℕ → ℕ → ℕ → ℕ → ℕ → Run
run_of text n zero i at = record { edges = []; refusal = cond (ltb at (length text)) FORM 0; place = at }
run_of text n (suc k) i at = onward at (read_edge text at n i) (λ next. run_of text n k (suc i) next)

-- ── the tally ──

-- how many of some edges are at a vertex (a cabinet's cables)
unfoldable pub edges_at : ℕ → List Edge → ℕ
edges_at v [] = 0
edges_at v (e ∷ es) = bit (eqb e.lower v || eqb e.higher v) + edges_at v es

-- the tally of some edges: for each vertex, how many of them are at it
unfoldable pub tally_of : List Edge → List ℕ
tally_of es = tabulate vertex_limit (λ v. edges_at v es)

-- ── the pass ──

-- a refusal's number and the place of what is refused, or 0 and the text's end; how many edges
-- were read before it, the network with these edges, and how many of them are at each vertex
pub record Pass : Type 0 where
  pub refusal : ℕ
  pub place : ℕ
  pub read : ℕ
  pub network : Network
  pub tally : List ℕ

-- the pass that the code hands back
abbrev pub passed : Handed → Pass
passed p =
    record {
      refusal = refusal_of (told p.ended);
      place = p.place;
      read = p.read;
      network = p.network;
      tally = p.tally;
    }

-- what is handed back of a head and the run behind it: the refusal and its
-- place, how many edges were read, the network with these edges, their tally
unfoldable pub pass_over : Head → Run → Pass
pass_over h run =
    let es = run.edges in
    record {
      refusal = run.refusal;
      place = run.place;
      read = length es;
      network = network_of (meaning_of h.vertices h.reserved es);
      tally = tally_of es;
    }

-- a head that is refused ends the pass at the text's start, before any edge
unfoldable pub pass_behind : List ℕ → Answer (Head × ℕ) → Pass
pass_behind text (refused k) = record { refusal = k; place = 0; read = 0; network = no_network; tally = tally_of [] }
pass_behind text (answer found) =
    let n = found.0.vertices in pass_over found.0 (run_of text n (2 * n) 0 found.1)

-- the pass over a text
unfoldable pub pass_of : List ℕ → Pass
pass_of text = pass_behind text (read_head text)
