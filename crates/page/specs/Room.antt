-- What the code that prints a page asks for, and what it leaves in a column.
use Rattle.std.specs.Prelude.{Bool, true, List, ◌++◌, ◌≡◌, ℕ, ◌-◌, ◌≤◌, ◌<◌, length, take, drop, ℤ}
use Rattle.base.specs.Limits.{edge_limit}
use Rattle.decimal.specs.BaseTen.{aligned, fits}
use Rattle.graph.specs.declared.Network.{Network}
use Rattle.kept_text.specs.Text.{kept_edges}
use Rattle.loading.specs.Known.{Known}
use Rattle.page.specs.Page.{cost_width, page_line, edge_lines, page_of}

-- room for a number between two places of a line
pub record ColumnRoom (line : List ℕ) (start end : ℕ) (z : ℤ) : Type 0 where
  pub ordered : start ≤ end
  pub within : end ≤ length line
  pub fitting : fits (end - start) z ≡ true

-- the line once it is printed there
unfoldable pub column : ℕ → ℕ → ℤ → List ℕ → List ℕ
column start end z line = take start line ++ aligned (end - start) z ++ drop end line

-- room for a line, and for an edge and its cost on it
pub record LineRoom (line : List ℕ) (e : ℕ) (cost : ℤ) : Type 0 where
  pub long : page_line ≤ length line
  pub edge : e < edge_limit
  pub fitting : fits cost_width cost ≡ true

-- room for the last line, and for the sum on it
pub record SumRoom (line : List ℕ) (sum : ℤ) : Type 0 where
  pub long : page_line ≤ length line
  pub fitting : fits cost_width sum ≡ true

-- room for the lines of a known network's edges
pub record LinesRoom (g : Network) (listed : List Bool) (page : List ℕ) : Type 0 where
  pub known : Known g
  pub long : length (edge_lines g (kept_edges g.edges listed)) ≤ length page

-- room for their page
pub record PageRoom (g : Network) (listed : List Bool) (page : List ℕ) : Type 0 where
  pub known : Known g
  pub long : length (page_of g (kept_edges g.edges listed)) ≤ length page
