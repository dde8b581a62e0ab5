-- Which numbers refusals have. Every refusal has one: where 0 is given, nothing is refused.
-- Assumes nothing.
use mathlib.Core.Path.{◌≡◌, refl}
use mathlib.Core.Bool.{Bool, true, false, cond}
use Prim.Native.Nat.{ℕ, zero, suc, ◌≤◌, ◌<◌}
use native.Mathlib.Omega.{arith}
use Rattle.base.proofs.Bools.{no_answer}
use Rattle.base.specs.Answer.{Answer, refused, answer, and_then, unless}

-- every refusal's number is one of which P holds
pub record Meeting {M : Type 0} (P : ℕ → Type 0) (a : Answer M) : Type 0 where
  pub number : (k : ℕ) → a ≡ refused k → P k

module _ {P : ℕ → Type 0} where
  -- an answer is no refusal
  pub answered : {M : Type 0} (m : M) → Meeting P (answer m)
  answered m = record { number = λ k e. no_answer (cc) }

  pub refused_as : {M : Type 0} (j : ℕ) → P j → Meeting {M = M} P (refused j)
  refused_as j h = record { number = λ k e. let q : j ≡ k = cc in rw q at h }

  -- a refusal's number first, and then what follows
  pub unless-meeting : {M : Type 0} (k : ℕ) (a : Answer M) → (0 < k → P k) → Meeting P a → Meeting P (unless k a)
  unfolding unless
  unless-meeting zero a l h = h
  unless-meeting (suc k) a l h = refused_as (suc k) (l (omega arith))

  -- a test first, and its refusal
  pub cond-meeting : {M : Type 0} (b : Bool) (a : Answer M) (j : ℕ) → P j → Meeting P a
      → Meeting P (cond b a (refused j))
  cond-meeting true a j l h = h
  cond-meeting false a j l h = refused_as j l

  pub then-meeting : {M N : Type 0} (a : Answer M) (f : M → Answer N) → Meeting P a
      → ((m : M) → Meeting P (f m)) → Meeting P (and_then a f)
  unfolding and_then
  then-meeting (refused j) f h g = refused_as j (h.number j refl)
  then-meeting (answer m) f h g = g m

-- other numbers
pub meeting-as : {M : Type 0} {P Q : ℕ → Type 0} {a : Answer M} → ((k : ℕ) → P k → Q k) → Meeting P a → Meeting Q a
meeting-as f h = record { number = λ k e. f k (h.number k e) }

-- a refusal's number is not 0, and at most `top`
abbrev pub Numbered : {M : Type 0} → ℕ → Answer M → Type 0
Numbered top = Meeting (λ k. (0 < k) × (k ≤ top))

pub refused-by : {M : Type 0} {top : ℕ} (j : ℕ) → 0 < j → j ≤ top → Numbered {M = M} top (refused j)
refused-by j l h = refused_as j (l, h)

pub unless-numbered : {M : Type 0} {top : ℕ} (k : ℕ) (a : Answer M) → k ≤ top → Numbered top a
    → Numbered top (unless k a)
unless-numbered k a l h = unless-meeting k a (λ p. (p, l)) h

pub numbered-up : {M : Type 0} {low top : ℕ} {a : Answer M} → low ≤ top → Numbered low a → Numbered top a
numbered-up l h = meeting-as (λ k w. (w.0, omega (arith, w.1))) h
