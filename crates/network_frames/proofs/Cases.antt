-- What a caller of the readers by frame learns, by the case that it finds.
-- Assumes nothing.
use mathlib.Core.Path.{◌≡◌}
use Prim.Native.Nat.{ℕ}
use Rattle.std.proofs.Common.{Result}
use Rattle.base.specs.Answer.{Answer, refused, refusal_of, told}
use Rattle.base.specs.declared.refusals.Refusal.{Refusal}
use Rattle.frame.specs.declared.kinds.Head.{Head}
use Rattle.frame.proofs.Runs.{read_as}

-- the number that a refusal is asked for is its own
pub own-number : {M : Type 0} (b a : Answer M) (j k : ℕ) → b ≡ refused k → j ≡ refusal_of b → b ≡ a → refused j ≡ a
unfolding refusal_of
own-number b a j k e n x = let z : j ≡ k = rw e at n in rw (z, ← e) x

-- a head that is read, by the case that is found
pub head_as : {r case : Result (Head × ℕ) Refusal} {a : Answer (Head × ℕ)} → told r ≡ a → r ≡ case → told case ≡ a
head_as x e = read_as e x
