-- What the tests of a network's limits say.
-- Assumes nothing.
use mathlib.Core.Path.{◌≡◌}
use mathlib.Core.Bool.{true}
use Prim.Native.Nat.{ℕ, ◌*◌, ◌-◌, ◌^◌, ◌≤◌, ◌<◌}
use native.Mathlib.Omega.{arith}
use lib.Dec.{leb}
use lib.IntN.{ℤ, pos, negsuc, nat_abs}
use lib.Signed.{le_z}
use borrow.Author.Tests.{leb-true}
use Rattle.base.specs.Limits.{fewest_vertices, vertex_limit, edge_limit, vertices_ok, cost_limit, cost_ok}
use Rattle.base.proofs.Bools.{and_left, and_right}

pub vertices-within : (n : ℕ) → vertices_ok n ≡ true → (fewest_vertices ≤ n) × (n ≤ vertex_limit)
unfolding vertices_ok
vertices-within n e =
    let many = leb fewest_vertices n in
    let few = leb n vertex_limit in
    (leb-true fewest_vertices n (and_left many few e), leb-true n vertex_limit (and_right many few e))

-- a cost within its limits is no further from 0 than the limit
pub cost-within : (c : ℤ) → cost_ok c ≡ true → nat_abs c ≤ cost_limit
unfolding cost_ok
cost-within (pos n) e = leb-true n cost_limit e
cost-within (negsuc n) e =
    omega (arith, leb-true n (cost_limit - 1) (and_left (le_z (negsuc (cost_limit - 1)) (negsuc n)) true e))

-- the costs of a whole network sum to less than 2 to the power 49, so that a few times such a sum is far from 64 bits
pub sums_far : edge_limit * cost_limit < 2 ^ 49
sums_far = omega arith
