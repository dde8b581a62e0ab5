-- A service's reply and its buffers afterwards, by the answer that is due.
-- Assumes nothing.
use mathlib.Core.Path.{◌≡◌, refl}
use mathlib.Core.Bool.{Bool, true, false, cond}
use mathlib.Core.List.{List}
use Rattle.std.proofs.Common.{Result, Ok, Err}
use Prim.Native.Nat.{ℕ, zero, suc, ◌≤◌, ◌<◌}
use native.Mathlib.Omega.{arith}
use lib.ListN.{length}
use borrow.Author.Tests.{leb-true, le-leb, lt-leb}
use Rattle.base.proofs.Bools.{no_answer}
use Rattle.base.specs.Answer.{Answer, refused, answer, and_then, unless, refusal_of, number_of, given, filled, over, room_in}
use Rattle.base.specs.Answer.{told, replied, reply_of, after}
use Rattle.base.specs.Refusals.{SHORT}
use Rattle.base.specs.declared.refusals.Refusal.{Refusal}
use Rattle.base.specs.declared.refusals.Refusal.TheVariants as refusal

-- an answer made of another
module _ {M N : Type 0} (a : Answer M) (f : M → Answer N) where
  pub then-refused : (k : ℕ) → a ≡ refused k → and_then a f ≡ refused k
  unfolding and_then
  then-refused k e = rw e

  pub then-answer : (m : M) → a ≡ answer m → and_then a f ≡ f m
  unfolding and_then
  then-answer m e = rw e

-- a refusal's number, or what follows it
pub unless-refused : {M : Type 0} (k : ℕ) (a : Answer M) → 0 < k → unless k a ≡ refused k
unfolding unless
unless-refused zero a h = absurd (omega arith)
unless-refused (suc k) a h = refl

pub unless-next : {M : Type 0} (k : ℕ) (a : Answer M) → k ≤ 0 → unless k a ≡ a
unfolding unless
unless-next zero a h = refl
unless-next (suc k) a h = absurd (omega arith)

-- a refusal's number is not 0
pub number-above : (r : Refusal) → 0 < number_of r
number-above refusal.Form = omega arith
number-above refusal.Vertices = omega arith
number-above refusal.Reserved = omega arith
number-above refusal.Ends = omega arith
number-above refusal.Cost = omega arith
number-above refusal.Degree = omega arith
number-above refusal.Cut = omega arith
number-above refusal.NoEnd = omega arith
number-above refusal.NoPartner = omega arith
number-above refusal.NotAdmissible = omega arith
number-above refusal.Cheaper = omega arith
number-above refusal.NotDearest = omega arith
number-above refusal.Short = omega arith
number-above refusal.Unlisted = omega arith
number-above refusal.Weight = omega arith
number-above refusal.Total = omega arith
number-above refusal.NotGiven = omega arith

-- a test behind which a function goes on, as its caller finds it: refused, or passed
module _ {M N : Type 0} {k : ℕ} (a : Answer M) {t : Result N Refusal} where
  pub unless-met : {r : Refusal} → t ≡ Err r → refusal_of (told t) ≡ k → unless k a ≡ refused (number_of r)
  unfolding refusal_of
  unless-met {r} e f =
      let n : number_of r ≡ k = rw e at f in rw (← n) (unless-refused (number_of r) a (number-above r))

  pub unless-passed : {n : N} → t ≡ Ok n → refusal_of (told t) ≡ k → unless k a ≡ a
  unfolding refusal_of
  unless-passed e f =
      let n : 0 ≡ k = rw e at f in unless-next k a (omega (arith, n))

-- an answer behind refusals: none of them was met
pub unless-answered : {M : Type 0} (k : ℕ) (a : Answer M) (m : M) → unless k a ≡ answer m → (k ≡ 0) × (a ≡ answer m)
unfolding unless
unless-answered zero a m h = (refl, h)
unless-answered (suc k) a m h = no_answer (cc)

pub cond-answered : {M : Type 0} (t : Bool) (a : Answer M) (k : ℕ) (m : M) → cond t a (refused k) ≡ answer m
    → (t ≡ true) × (a ≡ answer m)
cond-answered true a k m h = (refl, h)
cond-answered false a k m h = no_answer (cc)

-- any number of buffers: refused, all of them long enough, one of them short
module _ {M : Type 0} (room : M → Bool) (a : Answer M) where
  pub given-refused : (k : ℕ) → a ≡ refused k → given room a ≡ refused k
  unfolding given
  given-refused k e = rw e

  pub given-fits : (m : M) → a ≡ answer m → room m ≡ true → given room a ≡ answer m
  unfolding given
  given-fits m e h = rw (e, h)

  pub given-short : (m : M) → a ≡ answer m → room m ≡ false → given room a ≡ refused SHORT
  unfolding given
  given-short m e h = rw (e, h)

-- what was answered with given buffers had room in them
pub given-room : {M : Type 0} (room : M → Bool) (a : Answer M) (m : M) → given room a ≡ answer m → room m ≡ true
unfolding given
given-room room (refused k) m e = no_answer (cc)
given-room room (answer n) m e = go (room n) refl e
  where
    go : (b : Bool) → room n ≡ b → cond b (answer n) (refused SHORT) ≡ answer m → room m ≡ true
    go true h e = let p : n ≡ m = cc in rw p at h
    go false h e = no_answer (cc)

module _ {M A : Type 0} (part : M → List A) (a : Answer M) (old : List A) where
  pub filled-refused : (k : ℕ) → a ≡ refused k → filled part a old ≡ old
  unfolding filled
  filled-refused k e = rw e

  pub filled-answer : (m : M) → a ≡ answer m → filled part a old ≡ over (part m) old
  unfolding filled
  filled-answer m e = rw e

-- one buffer
module _ {A : Type 0} (a : Answer (List A)) (old : List A) where
  pub refuses : (k : ℕ) → a ≡ refused k → (refused k ≡ reply_of a old) × (old ≡ after a old)
  unfolding reply_of after given replied filled
  refuses k e = (rw e, rw e)

  pub fits : (xs : List A) → a ≡ answer xs → length xs ≤ length old
      → (answer (length xs) ≡ reply_of a old) × (over xs old ≡ after a old)
  unfolding reply_of after given replied filled room_in
  fits xs e h = (rw (e, le-leb (length xs) (length old) h), rw (e, le-leb (length xs) (length old) h))

  pub short : (xs : List A) → a ≡ answer xs → length old < length xs
      → (refused SHORT ≡ reply_of a old) × (old ≡ after a old)
  unfolding reply_of after given replied filled room_in
  short xs e h = (rw (e, lt-leb (length xs) (length old) h), rw (e, lt-leb (length xs) (length old) h))

-- what a reply says of the answer, as a caller finds it
module _ {A : Type 0} (a : Answer (List A)) where
  pub replied-refused : (k : ℕ) → refused k ≡ replied a → a ≡ refused k
  unfolding replied
  replied-refused k e = go a refl e
    where
      go : (b : Answer (List A)) → a ≡ b → refused k ≡ replied b → a ≡ refused k
      go (refused j) p q = cc
      go (answer xs) p q = no_answer (cc)

  pub replied-done : (n : ℕ) → answer n ≡ replied a → (xs : List A) × (a ≡ answer xs) × (n ≡ length xs)
  unfolding replied
  replied-done n e = go a refl e
    where
      go : (b : Answer (List A)) → a ≡ b → answer n ≡ replied b → (xs : List A) × (a ≡ answer xs) × (n ≡ length xs)
      go (refused j) p q = no_answer (cc)
      go (answer xs) p q = (xs, p, cc)

-- what was written fits its buffer
pub done-fits : {A : Type 0} (a : Answer (List A)) (old : List A) (n : ℕ) → answer n ≡ reply_of a old → n ≤ length old
unfolding reply_of room_in
done-fits a old n h =
    let w = replied-done (given (room_in old) a) n h in
    omega (arith, w.2, leb-true (length w.0) (length old) (given-room (room_in old) a w.0 w.1))
