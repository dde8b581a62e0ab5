-- What an export of a service with one buffer gives, by what the service replies.
-- Assumes nothing.
use mathlib.Core.Path.{◌≡◌, refl, ◌∙◌, ap}
use mathlib.Core.List.{List}
use Prim.Native.Nat.{ℕ}
use lib.ListN.{length}
use Rattle.base.specs.Answer.{Answer, refused, answer, given, room_in, replied, reply_of, refusal_of, number_given}

module _ {A : Type 0} where
  one-number : (a : Answer (List A)) → refusal_of (replied a) ≡ refusal_of a
  unfolding replied refusal_of
  one-number (refused k) = refl
  one-number (answer xs) = refl

  one-length : (a : Answer (List A)) (i : ℕ) → number_given (λ n. n) (replied a) i ≡ number_given length a i
  unfolding replied number_given
  one-length (refused k) i = refl
  one-length (answer xs) i = refl

  module _ {r : Answer ℕ} (a : Answer (List A)) (old : List A) (e : r ≡ reply_of a old) where
    -- the refusal's number, or 0
    pub given-number : {k : ℕ} → k ≡ refusal_of r → k ≡ refusal_of (given (room_in old) a)
    unfolding reply_of
    given-number f = f ∙ ap refusal_of e ∙ one-number (given (room_in old) a)

    -- the length written, or what stood there
    pub given-length : (i : ℕ) {j : ℕ} → j ≡ number_given (λ n. n) r i → j ≡ number_given length (given (room_in old) a) i
    unfolding reply_of
    given-length i f = f ∙ ap (λ r. number_given (λ n. n) r i) e ∙ one-length (given (room_in old) a) i
