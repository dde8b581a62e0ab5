-- What the functions over columns are asked, and what they leave in the columns.
use Rattle.std.specs.Prelude.{◌≡◌, true, List, ℕ, ◌*◌, ◌≤◌, ◌<◌, length, get_or, ℤ, pos, Result}
use Rattle.base.specs.Answer.{Answer, told, filled, Held}
use Rattle.base.specs.Limits.{vertex_limit, cost_ok}
use Rattle.base.specs.declared.refusals.Refusal.{Refusal}
use Rattle.frame.specs.Table.{EDGE, line_length}
use Rattle.frame.specs.declared.kinds.Edge.{Edge}
use Rattle.network_text.specs.Text.{Meaning, read_reply}
use Rattle.network_text.specs.declared.network.ReadNetwork.{ReadNetwork}

-- columns that have room for the edges of so many vertices
pub record Columns (n : ℕ) (low high : List ℕ) (cost : List ℤ) : Type 0 where
  pub few : n ≤ vertex_limit
  pub low_room : 2 * n ≤ length low
  pub high_room : 2 * n ≤ length high
  pub cost_room : 2 * n ≤ length cost

-- what reading a network text into buffers replies, and what they hold: all three their parts of the meaning, or none
pub record ReadInto (a : Answer Meaning) (low₀ high₀ : List ℕ) (cost₀ : List ℤ) (low high : List ℕ) (cost : List ℤ)
    (r : Result ReadNetwork Refusal) : Type 0 where
  pub reply : told r ≡ read_reply a
  pub lows : low ≡ filled (λ m. m.low) a low₀
  pub highs : high ≡ filled (λ m. m.high) a high₀
  pub costs : cost ≡ filled (λ m. m.cost) a cost₀

-- what reading a network text into working columns replies, and what the columns hold
pub record NetworkRead (a : Answer Meaning) (low₀ high₀ : List ℕ) (cost₀ : List ℤ) (low high : List ℕ) (cost : List ℤ)
    (r : Result ReadNetwork Refusal) : Type 0 where
  pub reply : told r ≡ read_reply a
  pub lows : Held (λ m. m.low) a low₀ low
  pub highs : Held (λ m. m.high) a high₀ high
  pub costs : Held (λ m. m.cost) a cost₀ cost

-- columns that have an edge at a place
pub record EdgeThere (low high : List ℕ) (cost : List ℤ) (i : ℕ) : Type 0 where
  pub low_there : i < length low
  pub high_there : i < length high
  pub cost_there : i < length cost

-- that edge
unfoldable pub edge_at : List ℕ → List ℕ → List ℤ → ℕ → Edge
edge_at low high cost i = record { number = i; lower = get_or low i 0; higher = get_or high i 0; cost = get_or cost i (pos 0) }

-- columns of k edges whose costs are within the limits, and a buffer that has room for their frames
pub record Edged (k : ℕ) (low high : List ℕ) (cost : List ℤ) (out : List ℕ) : Type 0 where
  pub low_count : length low ≡ k
  pub high_count : length high ≡ k
  pub cost_count : length cost ≡ k
  pub limited : (e : ℕ) → e < k → cost_ok (get_or cost e (pos 0)) ≡ true
  pub room : k * line_length EDGE ≤ length out
