-- The numbers that the exports of the network check and the planner give, by what these reply.
-- Assumes nothing.
use mathlib.Core.Path.{◌≡◌, refl}
use Prim.Native.Nat.{ℕ}
use lib.ListN.{length}
use Rattle.base.specs.Answer.{Answer, refused, answer, refusal_of, number_given}
use Rattle.graph.specs.declared.Network.{Network}
use Rattle.claim.specs.Services.{Texts, acceptance_of, planned_of}

-- a network that is checked
pub accepted-number : (a : Answer Network) → refusal_of (acceptance_of a) ≡ refusal_of a
unfolding acceptance_of refusal_of
accepted-number (refused k) = refl
accepted-number (answer g) = refl

-- a plan
pub planned-number : (a : Answer Texts) → refusal_of (planned_of a) ≡ refusal_of a
unfolding planned_of refusal_of
planned-number (refused k) = refl
planned-number (answer t) = refl

pub planned-chain : (a : Answer Texts) (i : ℕ)
    → number_given (λ lengths. lengths.chain) (planned_of a) i ≡ number_given (λ t. length t.chain) a i
unfolding planned_of number_given
planned-chain (refused k) i = refl
planned-chain (answer t) i = refl

pub planned-kept : (a : Answer Texts) (i : ℕ)
    → number_given (λ lengths. lengths.kept) (planned_of a) i ≡ number_given (λ t. length t.kept) a i
unfolding planned_of number_given
planned-kept (refused k) i = refl
planned-kept (answer t) i = refl
