-- What a service answers, and what its buffers hold afterwards.
use Rattle.std.specs.Prelude.{Bool, cond, List, ◌++◌, ◌≡◌, ℕ, zero, suc, leb, length, drop, Result, Ok, Err}
use Rattle.base.specs.Refusals.{FORM, VERTICES, RESERVED, ENDS, COST, DEGREE, CUT, NO_END, NO_PARTNER, NOT_ADMISSIBLE}
use Rattle.base.specs.Refusals.{CHEAPER, NOT_DEAREST, SHORT, UNLISTED, WEIGHT, TOTAL, NOT_GIVEN}
use Rattle.base.specs.declared.refusals.Refusal.{Refusal}
use Rattle.base.specs.declared.refusals.Refusal.TheVariants as refusal

-- a refusal by its number, or the whole of what is due
pub data Answer (M : Type 0) : Type 0 where
  refused : ℕ → Answer M
  answer : M → Answer M

-- a refusal's number
abbrev pub number_of : Refusal → ℕ
number_of refusal.Form = FORM
number_of refusal.Vertices = VERTICES
number_of refusal.Reserved = RESERVED
number_of refusal.Ends = ENDS
number_of refusal.Cost = COST
number_of refusal.Degree = DEGREE
number_of refusal.Cut = CUT
number_of refusal.NoEnd = NO_END
number_of refusal.NoPartner = NO_PARTNER
number_of refusal.NotAdmissible = NOT_ADMISSIBLE
number_of refusal.Cheaper = CHEAPER
number_of refusal.NotDearest = NOT_DEAREST
number_of refusal.Short = SHORT
number_of refusal.Unlisted = UNLISTED
number_of refusal.Weight = WEIGHT
number_of refusal.Total = TOTAL
number_of refusal.NotGiven = NOT_GIVEN

-- what a result tells where refusals have these numbers: the answer, or the refusal by its number
abbrev pub told_by : {M E : Type 0} → (E → ℕ) → Result M E → Answer M
told_by number (Ok m) = answer m
told_by number (Err r) = refused (number r)

-- and what it tells of this core's refusals
abbrev pub told : {M : Type 0} → Result M Refusal → Answer M
told r = told_by number_of r

-- an answer made of another, where that is no refusal
unfoldable pub and_then : {M N : Type 0} → Answer M → (M → Answer N) → Answer N
and_then (refused k) f = refused k
and_then (answer m) f = f m

-- a refusal's number, or what follows where it is 0
unfoldable pub unless : {M : Type 0} → ℕ → Answer M → Answer M
unless zero next = next
unless (suc k) next = refused (suc k)

-- a refusal's number, or 0 for an answer
unfoldable pub refusal_of : {M : Type 0} → Answer M → ℕ
refusal_of (refused k) = k
refusal_of (answer m) = 0

-- an answer once the buffers are known: refused where there is no room for it
unfoldable pub given : {M : Type 0} → (M → Bool) → Answer M → Answer M
given room (refused k) = refused k
given room (answer m) = cond (room m) (answer m) (refused SHORT)

-- the first elements of a list overwritten
unfoldable pub over : {A : Type 0} → List A → List A → List A
over xs old = xs ++ drop (length xs) old

-- a buffer afterwards: its part of the answer and then its old elements, or its old elements alone
unfoldable pub filled : {M A : Type 0} → (M → List A) → Answer M → List A → List A
filled part (refused k) old = old
filled part (answer m) old = over (part m) old

-- whether a buffer has room for a list
unfoldable pub room_in : {A : Type 0} → List A → List A → Bool
room_in old xs = leb (length xs) (length old)

-- a reply: the refusal, or the length of what was written
unfoldable pub replied : {A : Type 0} → Answer (List A) → Answer ℕ
replied (refused k) = refused k
replied (answer xs) = answer (length xs)

-- the reply of a service with one buffer, and the buffer afterwards
unfoldable pub reply_of : {A : Type 0} → Answer (List A) → List A → Answer ℕ
reply_of a old = replied (given (room_in old) a)

unfoldable pub after : {A : Type 0} → Answer (List A) → List A → List A
after a old = filled (λ xs. xs) (given (room_in old) a) old

-- a working column afterwards: its part of the answer and then its
-- old elements, or, after a refusal, anything of its length
abbrev pub Held : {M A : Type 0} → (M → List A) → Answer M → List A → List A → Type 0
Held part (refused k) old new = length new ≡ length old
Held part (answer m) old new = new ≡ over (part m) old

-- an out-number, or a truth value given out, afterwards: its part of the answer, or, after a refusal, its old value
unfoldable pub number_given : {M A : Type 0} → (M → A) → Answer M → A → A
number_given part (refused k) old = old
number_given part (answer m) old = part m
