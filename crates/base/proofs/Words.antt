-- Lists of numbers below a bound: a higher bound, and each number by its place.
-- Assumes nothing.
use Prim.Native.Nat.{ℕ, zero, suc, ◌^◌, ◌≤◌, ◌<◌}
use mathlib.Core.List.{List, [], ◌∷◌}
use native.Mathlib.Omega.{arith}
use lib.ListN.{length, get_or}
use Rattle.base.specs.Words.{AllBelow, Words}

pub below_more : (m k : ℕ) → m ≤ k → (es : List ℕ) → AllBelow m es → AllBelow k es
below_more m k h [] x = tt
below_more m k h (e ∷ es) x = (omega arith, below_more m k h es x.1)

-- what a slice of such numbers says of each
pub words : (es : List ℕ) → ((k : ℕ) → k < length es → get_or es k 0 < 2 ^ 16) → Words es
words [] h = tt
words (e ∷ es) h = (h zero (omega arith), words es (λ k l. h (suc k) (omega arith)))

pub below_at : (m : ℕ) (es : List ℕ) → AllBelow m es → (i : ℕ) → i < length es → get_or es i 0 < m
below_at m [] x i h = absurd (omega arith)
below_at m (e ∷ es) x zero h = x.0
below_at m (e ∷ es) x (suc i) h = below_at m es x.1 i (omega arith)
