-- Elements taken one after the other: they and the answer for those that are left make the whole answer.
-- Assumes nothing.
use mathlib.Core.Path.{◌≡◌, refl, sym, ap}
use mathlib.Core.List.{List, [], ◌∷◌, ◌++◌, append-nil}
use Prim.Native.Nat.{ℕ}
use lib.Seq.{append_snoc}
use Rattle.base.specs.Answer.{Answer, refused, answer, and_then}

module _ {E : Type 0} where
  -- one element before those of an answer, and so many
  unfoldable pub first : E → Answer (List E) → Answer (List E)
  first e a = and_then a (λ later. answer (e ∷ later))

  unfoldable pub behind : List E → Answer (List E) → Answer (List E)
  behind taken a = and_then a (λ later. answer (taken ++ later))

  pub behind-none : (a : Answer (List E)) → behind [] a ≡ a
  unfolding behind and_then
  behind-none (refused k) = refl
  behind-none (answer es) = refl

  pub behind-next : (taken : List E) (e : E) (a : Answer (List E))
      → behind taken (first e a) ≡ behind (taken ++ (e ∷ [])) a
  unfolding behind first and_then
  behind-next taken e (refused k) = refl
  behind-next taken e (answer es) = ap answer (sym (append_snoc taken e es))

  pub behind-refused : (taken : List E) (k : ℕ) → behind taken (refused k) ≡ refused k
  unfolding behind and_then
  behind-refused taken k = refl

  pub behind-all : (taken : List E) → behind taken (answer []) ≡ answer taken
  unfolding behind and_then
  behind-all taken = rw append-nil
