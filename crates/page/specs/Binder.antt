-- What is owed of pages, over texts and the bytes of pages.
use Rattle.std.specs.Prelude.{◌&&◌, List, ◌≡◌, ℕ, ◌*◌, ◌≤◌, ◌<◌, leb, pos, neg_ℤ, length}
use Rattle.base.specs.Answer.{answer, refusal_of}
use Rattle.base.specs.Columns.{at}
use Rattle.base.specs.Fold.{sumℤ}
use Rattle.base.specs.Lengths.{longest_page}
use Rattle.base.specs.Limits.{edge_limit}
use Rattle.decimal.specs.BaseTen.{fits}
use Rattle.graph.specs.Network.{low_end, high_end, cost_of}
use Rattle.graph.specs.declared.Network.{Network}
use Rattle.list_text.specs.Text.{Meaning, read_list}
use Rattle.loading.specs.ListLoading.{load_list}
use Rattle.loading.specs.Loading.{load_network}
use Rattle.page.specs.Page.{cost_width, cost_borne, page_length, page_text, lines_above, number_on, cost_on}

-- what a line says of an edge
pub record Shows (g : Network) (p : List ℕ) (line e : ℕ) : Type 0 where
  pub number : number_on p line 0 ≡ pos e
  pub lower : number_on p line 1 ≡ pos (low_end g e)
  pub higher : number_on p line 2 ≡ pos (high_end g e)
  pub cost : cost_on p line ≡ cost_of g e

pub record Binder : Type 0 where
  -- 'Different lists over one network never print alike'
  pub never_alike : (t l m p : List ℕ) → page_text t l ≡ answer p → page_text t m ≡ answer p → l ≡ m
  -- 'its own sum last': the last line's number is the sum of the costs on the lines above
  pub sum_last : (t l p : List ℕ) → page_text t l ≡ answer p → cost_on p (lines_above p) ≡ sumℤ (lines_above p) (cost_on p)
  -- 'the audit's refusals come first': the page refuses the network or the list exactly as they are refused there
  pub as_audit : (t l : List ℕ) → refusal_of (page_text t l) ≡ refusal_of (load_list t l)
  -- a line for each listed edge, in the list's order, and the last one
  pub lines : (t l p : List ℕ) (g : Network) (es : Meaning) → load_network t ≡ answer g
      → read_list g.vertices l ≡ answer es → page_text t l ≡ answer p
      → (length p ≡ page_length (length es)) × (lines_above p ≡ length es)
      × ((i : ℕ) → i < length es → Shows g p i (at es i))
  -- no page is longer than that of as many edges as a network may have
  pub longest : (t l p : List ℕ) → page_text t l ≡ answer p → length p ≤ longest_page
  -- up to which limit of costs the column of costs has room for every sum
  pub bears : (limit : ℕ)
      → leb limit cost_borne
      ≡ (fits cost_width (pos (edge_limit * limit)) && fits cost_width (neg_ℤ (pos (edge_limit * limit))))
