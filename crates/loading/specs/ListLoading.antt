-- A network and a list of its edges that are read from their texts.
use Rattle.std.specs.Prelude.{Bool, List, ◌≡◌, ℕ, ◌≤◌, ◌<◌, length, get_or}
use Rattle.base.specs.Answer.{Answer, refused, answer, and_then}
use Rattle.list_text.specs.Text.{read_list}
use Rattle.base.specs.Fold.{among, tabulate}
use Rattle.base.specs.Limits.{edge_limit}
use Rattle.graph.specs.State.{no_marks}
use Rattle.graph.specs.declared.Network.{Network}
use Rattle.loading.specs.Loading.{load_network}
use Rattle.loading.specs.declared.list.LoadedList.{LoadedList}

-- a mark for each edge that a network has room for: whether it is listed
unfoldable pub listed_marks : List ℕ → List Bool
listed_marks es = tabulate edge_limit (λ e. among e es)

-- the network and the marks of a list's text over a network's, or the
-- first refusal: 1 to 5 of the network, then 1 and 14 of the list
unfoldable pub load_list : List ℕ → List ℕ → Answer (Network × List Bool)
load_list t l = and_then (load_network t) (λ g. and_then (read_list g.vertices l) (λ es. answer (g, listed_marks es)))

-- ── what the code asks for and answers ──

-- the network and the marks, or the refusal
unfoldable pub loaded_list_of : Answer (Network × List Bool) → Answer LoadedList
loaded_list_of (refused k) = refused k
loaded_list_of (answer p) = answer (record { network = p.0; listed = p.1 })

-- what marking the first `count` edges asks for: they are there, each has a place, and none is marked yet
pub record Markable (edges : List ℕ) (count : ℕ) (marks : List Bool) : Type 0 where
  pub within : count ≤ length edges
  pub below : (i : ℕ) → i < count → get_or edges i 0 < edge_limit
  pub unmarked : marks ≡ no_marks
