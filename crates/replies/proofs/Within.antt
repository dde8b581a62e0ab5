-- What a service with one buffer says that it has written is there.
use mathlib.Core.Path.{◌≡◌}
use mathlib.Core.List.{List, ◌++◌}
use Prim.Native.Nat.{ℕ, ◌≤◌}
use native.Mathlib.Omega.{arith}
use lib.ListN.{length, length-append}
use Rattle.std.proofs.Common.{Result, Ok, Err, IfOk}
use Rattle.base.specs.Answer.{Answer, told, reply_of}
use Rattle.base.specs.declared.refusals.Refusal.{Refusal}
use Rattle.base.proofs.Answers.{done-fits}

module _ {A : Type 0} (a : Answer (List A)) (old new : List A) where
  pub within : (r : Result ℕ Refusal) → told r ≡ reply_of a old → length new ≡ length old → IfOk r (λ n. n ≤ length new)
  within (Ok n) e l = omega (arith, done-fits a old n e, l)
  within (Err r) e l = tt

  -- where the buffer was the front of a longer one
  pub within-front : (rest : List A) (r : Result ℕ Refusal) → told r ≡ reply_of a old → length new ≡ length old
      → IfOk r (λ n. n ≤ length (new ++ rest))
  within-front rest (Ok n) e l = omega (arith, done-fits a old n e, l, length-append new rest)
  within-front rest (Err r) e l = tt
