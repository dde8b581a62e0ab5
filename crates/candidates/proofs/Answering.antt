-- What the service answers, by what its code has met.
use mathlib.Core.Path.{◌≡◌, refl}
use mathlib.Core.Bool.{true, false}
use mathlib.Core.List.{List}
use Prim.Native.Nat.{ℕ, ◌/◌, ◌≤◌, ◌<◌}
use native.Mathlib.Omega.{arith}
use lib.ListN.{length}
use Rattle.base.specs.Answer.{refused, answer, and_then}
use Rattle.base.specs.Refusals.{RESERVED}
use Rattle.frame.specs.Table.{COSTS, bytes_of, padded, total, place_of, start_of, line_length}
use Rattle.graph.specs.declared.Network.{Network}
use Rattle.claim.specs.Services.{accept_network}
use Rattle.candidates.specs.Services.{candidates_costs, are_edges, candidates_over, candidates_text}
use Rattle.candidates.proofs.Listing.{length-candidates}

module _ (t rs : List ℕ) where
  pub network-refused : (k : ℕ) → accept_network t ≡ refused k → candidates_text t rs ≡ refused k
  unfolding candidates_text and_then
  network-refused k e = rw e

  module _ (g : Network) (e : accept_network t ≡ answer g) where
    pub list-refused : are_edges g.edges rs ≡ false → candidates_text t rs ≡ refused RESERVED
    unfolding candidates_text and_then candidates_over
    list-refused h = rw (e, h)

    pub costs-answered : are_edges g.edges rs ≡ true → candidates_text t rs ≡ answer (candidates_costs g rs)
    unfolding candidates_text and_then candidates_over
    costs-answered h = rw (e, h)

-- ── room, measured without a product that might not fit ──

-- how many bytes the line of a candidate has
pub line-bytes : line_length COSTS ≡ 35
unfolding line_length start_of place_of bytes_of padded total
line-bytes = refl

module _ (g : Network) (rs : List ℕ) (room line : ℕ) (e : line ≡ line_length COSTS) where
  pub room-short : room / line < length rs → room < length (candidates_costs g rs)
  room-short h =
      let n = length-candidates g rs in
      let h = rw (e, line-bytes) at h in
      omega (arith, rw line-bytes at n)

  pub room-enough : length rs ≤ room / line → length (candidates_costs g rs) ≤ room
  room-enough h =
      let n = length-candidates g rs in
      let h = rw (e, line-bytes) at h in
      omega (arith, rw line-bytes at n)
