-- Which refusals a proposed chain meets: 1, 8 to 12 and 17, so that 13 is none of them.
use mathlib.Core.Path.{◌≡◌, refl}
use mathlib.Core.Logic.{◌⊎◌, inl, inr, ⊎_elim}
use mathlib.Core.Bool.{Bool}
use mathlib.Core.List.{List}
use Prim.Native.Nat.{ℕ, zero, suc, ◌-◌, ◌≤◌, ◌<◌}
use native.Mathlib.Omega.{arith}
use lib.Dec.{leb}
use lib.ListN.{length, drop}
use Rattle.base.proofs.Bools.{no_answer}
use Rattle.base.specs.Answer.{refused as refused_by, answer, and_then, Answer, refused}
use Rattle.base.specs.Refusals.{FORM}
use Rattle.base.proofs.Numbered.{Meeting, answered, unless-meeting, cond-meeting}
use Rattle.frame.specs.Table.{STEP, DROPPED, line_length}
use Rattle.frame.specs.Line.{is_line}
use Rattle.graph.specs.Split.{after}
use Rattle.graph.specs.Chain.{step_refusal, end_refusal, end_kept, lifted}
use Rattle.graph.specs.declared.Network.{Network}
use Rattle.graph.specs.declared.Step.{Step}
use Rattle.graph.proofs.Numbers.{step-number, ending-number}
use Rattle.claim.specs.Verdicts.{step_in, dropped_in, left_over, check_ending, check_chain}
use Rattle.claim.specs.Services.{accept_network, kept_in, check_chain_text}

-- a refusal of a proposed chain: of its form, or of a step or an ending
abbrev pub OfChain : ℕ → Type 0
OfChain k = (k ≡ 1) ⊎ ((8 ≤ k) × (k ≤ 12)) ⊎ (k ≡ 17)

step-of-chain : (g : Network) (t : Step) → 0 < step_refusal g t → OfChain (step_refusal g t)
step-of-chain g t h = ⊎_elim (λ z. absurd (omega arith))
    (λ w. ⊎_elim (λ w. inr (inl (w.0, omega (arith, w.1)))) (λ e. inr (inr e)) w) (step-number g t)

ending-of-chain : (g : Network) (d : ℕ) → 0 < end_refusal g d → OfChain (end_refusal g d)
ending-of-chain g d h = ⊎_elim (λ z. absurd (omega arith)) (λ e. inr (inl (omega arith, omega arith))) (ending-number g d)

lifted-meeting : (x y z : ℕ) (w : Answer (List Bool)) → Meeting OfChain w → Meeting OfChain (lifted x y z w)
unfolding lifted
lifted-meeting x y z (refused j) h = h
lifted-meeting x y z (answer K) h = answered _

ending-meeting : (g : Network) (t : List ℕ) → Meeting OfChain (check_ending g t)
unfolding check_ending
ending-meeting g t =
    cond-meeting (is_line DROPPED t) _ FORM (inl refl)
    (unless-meeting (end_refusal g (dropped_in t)) _ (ending-of-chain g (dropped_in t))
    (cond-meeting (leb (length t) (line_length DROPPED)) _ left_over (inl refl) (answered (end_kept g (dropped_in t)))))

chain-meeting : (n : ℕ) (g : Network) (t : List ℕ) → Meeting OfChain (check_chain n g t)
unfolding check_chain
chain-meeting zero g t = ending-meeting g t
chain-meeting (suc n) g t =
    let s = step_in t in
    let later = check_chain n (after g s) (drop (line_length STEP) t) in
    cond-meeting (is_line STEP t) _ FORM (inl refl)
    (unless-meeting (step_refusal g s) _ (step-of-chain g s)
    (lifted-meeting s.x s.y s.z later (chain-meeting n (after g s) (drop (line_length STEP) t))))

-- so every refusal has a number
pub chain-numbered : (n : ℕ) (g : Network) (t : List ℕ) (k : ℕ) → check_chain n g t ≡ refused k → 0 < k
chain-numbered n g t k e =
    ⊎_elim (λ q. omega arith) (λ w. ⊎_elim (λ w. omega arith) (λ q. omega arith) w) ((chain-meeting n g t).number k e)

pub chain-meets : (t chain : List ℕ) (g : Network) (k : ℕ) → accept_network t ≡ answer g
    → check_chain_text t chain ≡ refused_by k → OfChain k
unfolding check_chain_text and_then kept_in
chain-meets t chain g k a e = go (check_chain (g.remaining - 2) g chain) refl (rw a at e)
  where
    go : (w : Answer (List Bool)) → check_chain (g.remaining - 2) g chain ≡ w → kept_in g w ≡ refused_by k → OfChain k
    go (refused j) q e = let z : j ≡ k = cc in rw (← z) ((chain-meeting (g.remaining - 2) g chain).number j q)
    go (answer K) q e = no_answer (cc)
