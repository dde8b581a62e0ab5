-- Sums, conjunctions and selections over the numbers below n.
use Rattle.std.specs.Prelude.{Bool, true, false, not, cond, ◌&&◌, ◌||◌, List, [], ◌∷◌, ℕ, zero, suc, ◌+◌, eqb, ℤ, pos, ◌+ℤ◌}

-- f 0, f 1, .. f (n - 1) put together by op, from unit on
unfoldable pub fold : {A : Type 0} → (A → A → A) → A → ℕ → (ℕ → A) → A
fold op unit zero f = unit
fold op unit (suc n) f = op (fold op unit n f) (f n)

abbrev pub sum : ℕ → (ℕ → ℕ) → ℕ
sum = fold ◌+◌ 0

abbrev pub sumℤ : ℕ → (ℕ → ℤ) → ℤ
sumℤ = fold ◌+ℤ◌ (pos 0)

-- p of each number below n, of some number below n
abbrev pub each : ℕ → (ℕ → Bool) → Bool
each = fold ◌&&◌ true

abbrev pub any : ℕ → (ℕ → Bool) → Bool
any = fold ◌||◌ false

abbrev pub bit : Bool → ℕ
bit true = 1
bit false = 0

-- the numbers from k on, n of them looked at, of which p holds; rising
unfoldable pub pick : ℕ → ℕ → (ℕ → Bool) → List ℕ
pick zero k p = []
pick (suc n) k p = let later = pick n (suc k) p in cond (p k) (k ∷ later) later

-- a list's elements of which p holds
unfoldable pub only : (ℕ → Bool) → List ℕ → List ℕ
only p [] = []
only p (i ∷ is) = let later = only p is in cond (p i) (i ∷ later) later

-- a list without the number i
abbrev pub without : ℕ → List ℕ → List ℕ
without i = only (λ j. not (eqb j i))

-- whether the number i stands in a list
unfoldable pub among : ℕ → List ℕ → Bool
among i [] = false
among i (j ∷ js) = eqb i j || among i js

-- f 0, f 1, .. f (n - 1) as a list
unfoldable pub tabulate : {A : Type 0} → ℕ → (ℕ → A) → List A
tabulate zero f = []
tabulate (suc n) f = f 0 ∷ tabulate n (λ i. f (suc i))
