-- The state of a network that is read from its text.
use Rattle.std.specs.Prelude.{List, ℕ, ◌*◌, ltb, replicate, ℤ, pos, Result, Ok, Err}
use Rattle.base.specs.Answer.{Answer, refused, answer, number_of, and_then, over}
use Rattle.base.specs.declared.refusals.Refusal.{Refusal}
use Rattle.network_text.specs.Text.{Meaning, read_network}
use Rattle.base.specs.Fold.{tabulate}
use Rattle.base.specs.Limits.{edge_limit, vertex_limit}
use Rattle.graph.specs.declared.Network.{Network}
use Rattle.loading.specs.declared.loaded.Loaded.{Loaded}

-- a network with these columns, every vertex present
unfoldable pub state_of : ℕ → ℕ → List ℕ → List ℕ → List ℤ → Network
state_of n r low high cost =
    record {
      low = low;
      high = high;
      cost = cost;
      present = tabulate vertex_limit (λ v. ltb v n);
      reserved = r;
      edges = 2 * n;
      vertices = n;
      remaining = n;
    }

-- columns of the state in which every edge is a loop at vertex 0 that costs nothing
abbrev pub no_ends : List ℕ
no_ends = replicate edge_limit 0

abbrev pub no_costs : List ℤ
no_costs = replicate edge_limit (pos 0)

-- the network of a meaning: its columns stand at the start of the state's
unfoldable pub network_of : Meaning → Network
network_of m =
    state_of m.vertices m.reserved (over m.low no_ends) (over m.high no_ends) (over m.cost no_costs)

-- the network of a text, or the text's first refusal
unfoldable pub load_network : List ℕ → Answer Network
load_network t = and_then (read_network t) (λ m. answer (network_of m))

-- the network without vertices and edges, which stands where a refusal leaves none
unfoldable pub no_network : Network
no_network = state_of 0 0 no_ends no_ends no_costs

-- what was loaded, where refusals have these numbers: the network, or the refusal. Its degrees are known of the type
abbrev pub loaded_by : {E : Type 0} → (E → ℕ) → Result Loaded E → Answer Network
loaded_by number (Ok l) = answer l.network
loaded_by number (Err r) = refused (number r)

-- and what was loaded with this core's refusals
abbrev pub loaded_answer : Result Loaded Refusal → Answer Network
loaded_answer l = loaded_by number_of l
