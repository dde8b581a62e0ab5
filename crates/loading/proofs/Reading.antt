-- What is known of a network that was loaded, from its text or as a result tells it.
use mathlib.Core.Path.{◌≡◌, refl}
use mathlib.Core.List.{List}
use Prim.Native.Nat.{ℕ, ◌*◌, ◌≤◌}
use native.Mathlib.Omega.{arith}
use native.Mathlib.Nat.{mul-le-mul_right}
use lib.IntN.{nat_abs}
use Rattle.std.proofs.Common.{Result, Ok, Err}
use Rattle.base.specs.Answer.{Answer, refused, answer, and_then}
use Rattle.base.specs.Limits.{edge_limit, cost_limit}
use Rattle.base.specs.Refusals.{COST}
use Rattle.base.specs.declared.refusals.Refusal.{Refusal}
use Rattle.base.proofs.Bools.{no_answer}
use Rattle.base.proofs.LimitLaws.{sums_far}
use Rattle.base.proofs.Numbered.{Numbered, answered, then-meeting}
use Rattle.base.proofs.Sums.{sum_bound}
use Rattle.graph.specs.Network.{cost_of}
use Rattle.graph.specs.Sound.{weight, Light}
use Rattle.graph.specs.declared.Network.{Network}
use Rattle.incidence.specs.Degrees.{degrees_of}
use Rattle.network_text.specs.Text.{Meaning, Valid, read_network}
use Rattle.network_text.proofs.Head.{read-numbered}
use Rattle.network_text.proofs.Meaning.{read-valid}
use Rattle.loading.specs.Known.{Known}
use Rattle.loading.specs.Loading.{state_of, network_of, load_network, loaded_by, loaded_answer}
use Rattle.loading.specs.declared.loaded.Loaded.{Loaded}
use Rattle.loading.proofs.Meanings.{loaded-fresh, loaded-within, low-long}

-- ── a network that is read from its text ──

-- the network of a valid meaning is known
pub known_of : {m : Meaning} → Valid m → Known (network_of m)
known_of {m} v = record {
  fresh = loaded-fresh v;
  within = loaded-within v;
  several = unfold network_of state_of in v.many;
  vertex_room = unfold network_of state_of in v.few;
  edge_room = unfold network_of state_of in omega (arith, v.few);
  long = low-long v;
}

-- the sizes of a known network's costs sum to at most the limit for each edge that a network may have
pub known-weight : {g : Network} → Known g → weight g ≤ edge_limit * cost_limit
unfolding weight
known-weight {g} k =
    omega (
      arith,
      sum_bound g.edges cost_limit (λ e. nat_abs (cost_of g e)) k.within,
      mul-le-mul_right cost_limit k.edge_room,
    )

-- so they are far from 64 bits
pub known-light : {g : Network} → Known g → Light g
known-light k = omega (arith, known-weight k, sums_far)

-- the meaning that was read
pub loaded-read : (t : List ℕ) (g : Network) → load_network t ≡ answer g
    → (m : Meaning) × (read_network t ≡ answer m) × (network_of m ≡ g)
unfolding load_network and_then
loaded-read t g e = go (read_network t) refl e
  where
    go : (a : Answer Meaning) → read_network t ≡ a → and_then a (λ m. answer (network_of m)) ≡ answer g
        → (m : Meaning) × (read_network t ≡ answer m) × (network_of m ≡ g)
    go (refused k) q e = no_answer (cc)
    go (answer m) q e = (m, q, cc)

pub loaded-known : (t : List ℕ) (g : Network) → load_network t ≡ answer g → Known g
loaded-known t g e = let w = loaded-read t g e in rw (← w.2) (known_of (read-valid t w.0 w.1))

pub load-numbered : (t : List ℕ) → Numbered COST (load_network t)
unfolding load_network
load-numbered t = then-meeting (read_network t) _ (read-numbered t) (λ m. answered (network_of m))

-- ── what was loaded, by what it tells ──

-- where a network is told, it is the one that was loaded; it is known, and the degrees are its own
pub answer-ready : {E : Type 0} (number : E → ℕ) (r : Result Loaded E) (g : Network) → loaded_by number r ≡ answer g
    → (l : Loaded) × (r ≡ Ok l) × (l.network ≡ g) × Known g × (l.degrees ≡ degrees_of g)
answer-ready number (Ok l) g e =
    let same : l.network ≡ g = cc in
    (l, refl, same, rw same at l.known, rw same at l.counted)
answer-ready number (Err r) g e = no_answer (cc)

-- and each known network may be what was loaded
pub known-ready : (g : Network) → Known g → (r : Result Loaded Refusal) × (loaded_answer r ≡ answer g)
known-ready g k = (Ok (record { network = g; degrees = degrees_of g; known = k; counted = refl }), refl)
