-- What is answered, step by step: the network's refusal, the chain's, or how the edges leave in its steps.
use mathlib.Core.Path.{◌≡◌, ◌∙◌}
use mathlib.Core.Bool.{Bool}
use mathlib.Core.List.{List}
use Prim.Native.Nat.{ℕ, ◌-◌}
use Rattle.base.specs.Answer.{refused, answer}
use Rattle.base.proofs.Answers.{then-refused, then-answer}
use Rattle.graph.specs.declared.Network.{Network}
use Rattle.claim.specs.Services.{accept_network}
use Rattle.claim.specs.Verdicts.{check_chain, steps_in, drop_in}
use Rattle.reasons.specs.Services.{reasons_of, reasons_over, chain_reasons}

module _ (network chain : List ℕ) where
  pub network-refused : (k : ℕ) → accept_network network ≡ refused k → chain_reasons network chain ≡ refused k
  unfolding chain_reasons
  network-refused k e = then-refused (accept_network network) (reasons_over chain) k e

  module _ (g : Network) (e : accept_network network ≡ answer g) where
    pub chain-refused : (k : ℕ) → check_chain (g.remaining - 2) g chain ≡ refused k
        → chain_reasons network chain ≡ refused k
    unfolding chain_reasons reasons_over
    chain-refused k h =
        then-answer (accept_network network) (reasons_over chain) g e
        ∙ then-refused (check_chain (g.remaining - 2) g chain) _ k h

    pub chain-answered : (K : List Bool) → check_chain (g.remaining - 2) g chain ≡ answer K
        → let n = g.remaining - 2 in
        chain_reasons network chain ≡ answer (reasons_of g (steps_in n chain) (drop_in n chain))
    unfolding chain_reasons reasons_over
    chain-answered K h =
        then-answer (accept_network network) (reasons_over chain) g e
        ∙ then-answer (check_chain (g.remaining - 2) g chain) _ K h
