-- Columns of ends, all of them vertices of the pentagram.
-- Assumes nothing.
use mathlib.Core.List.{List}
use mathlib.Core.Path.{◌≡◌, ◌∙◌}
use Prim.Native.Nat.{ℕ, ◌<◌}
use native.Mathlib.Omega.{arith}
use lib.ListN.{length, set, replicate, length-set, length-replicate}
use Rattle.std.specs.List.{All}
use Rattle.std.proofs.lemmas.List.Elements.{All-replicate, All-set, All-get_or}
use Rattle.base.specs.Columns.{at}
use Rattle.base.specs.Limits.{edge_limit}

-- how many vertices it has
abbrev pub vertices : ℕ
vertices = 5

-- ends of edges, in a column as long as a network's
pub record Ends (column : List ℕ) : Type 0 where
  pub long : length column ≡ edge_limit
  pub below : All (λ end. end < vertices) column

-- zeros are the first vertex
pub ends-zeros : Ends (replicate edge_limit 0)
ends-zeros = record {
  long = length-replicate {A = ℕ} edge_limit 0;
  below = All-replicate (λ end. end < vertices) edge_limit 0 (omega arith);
}

module _ {column : List ℕ} (ends : Ends column) where
  pub ends-set : (e v : ℕ) → v < vertices → Ends (set column e v)
  ends-set e v lt = record {
    long = length-set column e v ∙ ends.long;
    below = All-set (λ end. end < vertices) column e v lt ends.below;
  }

  pub end-below : (e : ℕ) → e < vertices → at column e < vertices
  end-below e lt = All-get_or (λ end. end < vertices) column e 0 (omega (arith, ends.long)) ends.below
