-- The page of a list of edges (document 02: a page for the site binder), and what its bytes say.
use Rattle.std.specs.Prelude.{List, [], ◌∷◌, ◌++◌, ℕ, suc, ◌+◌, ◌*◌, ◌-◌, ◌/◌, length, take, drop, replicate, ℤ, pos}
use Rattle.base.specs.Answer.{Answer, answer, and_then}
use Rattle.base.specs.Columns.{at}
use Rattle.base.specs.Fold.{sumℤ}
use Rattle.decimal.specs.BaseTen.{space, aligned, number_in}
use Rattle.frame.specs.Line.{FEED}
use Rattle.graph.specs.Network.{low_end, high_end, cost_of}
use Rattle.graph.specs.declared.Network.{Network}
use Rattle.list_text.specs.Text.{read_list}
use Rattle.loading.specs.Loading.{load_network}

-- how many characters an edge's number or end has, and a cost
abbrev pub number_width : ℕ
number_width = 6

abbrev pub cost_width : ℕ
cost_width = 18

-- what stands before the cost of a line
abbrev pub cost_place : ℕ
cost_place = 3 * number_width

-- how many bytes a line has, with its line feed
abbrev pub page_line : ℕ
page_line = cost_place + cost_width + 1

-- ── the page ──

-- the line of an edge: its number, its lower end, its higher end and its cost
unfoldable pub edge_line : ℕ → ℕ → ℕ → ℤ → List ℕ
edge_line e low high cost =
    aligned number_width (pos e) ++ aligned number_width (pos low) ++ aligned number_width (pos high)
    ++ aligned cost_width cost ++ (FEED ∷ [])

-- the lines of edges, one behind the other
unfoldable pub edge_lines : Network → List ℕ → List ℕ
edge_lines g [] = []
edge_lines g (e ∷ es) = edge_line e (low_end g e) (high_end g e) (cost_of g e) ++ edge_lines g es

-- the last line: spaces, and the sum of the costs
unfoldable pub sum_line : ℤ → List ℕ
sum_line sum = replicate cost_place space ++ aligned cost_width sum ++ (FEED ∷ [])

-- the sum of the costs of edges
unfoldable pub cost_sum : Network → List ℕ → ℤ
cost_sum g es = sumℤ (length es) (λ i. cost_of g (at es i))

-- the page of a list of a network's edges
unfoldable pub page_of : Network → List ℕ → List ℕ
page_of g es = edge_lines g es ++ sum_line (cost_sum g es)

-- how many bytes the page of so many edges has
unfoldable pub page_length : ℕ → ℕ
page_length count = suc count * page_line

-- the page of a list's text over a network's, or the first refusal: 1 to 5 of the network, then 1 and 14 of the list
unfoldable pub page_text : List ℕ → List ℕ → Answer (List ℕ)
page_text t l = and_then (load_network t) (λ g. and_then (read_list g.vertices l) (λ es. answer (page_of g es)))

-- ── what the bytes of a page say ──

-- how many lines it has above the last one
unfoldable pub lines_above : List ℕ → ℕ
lines_above p = length p / page_line - 1

-- the numbers on a line, by their place: the edge's is the first, then its lower and its higher end
unfoldable pub number_on : List ℕ → ℕ → ℕ → ℤ
number_on p i k = number_in (take number_width (drop (i * page_line + k * number_width) p))

-- the cost on a line, which is the sum on the last one
unfoldable pub cost_on : List ℕ → ℕ → ℤ
cost_on p i = number_in (take cost_width (drop (i * page_line + cost_place) p))

-- ── which limit of costs the page bears ──

-- the largest at which the sum of as many costs as a network may have edges has room (law `bears`)
abbrev pub cost_borne : ℕ
cost_borne = 195312499999999
