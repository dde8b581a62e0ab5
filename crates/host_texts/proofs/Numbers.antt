-- The numbers that an export gives which reads a network or a chain, by what the reader replies.
-- Assumes nothing.
use mathlib.Core.Path.{◌≡◌, refl}
use Prim.Native.Nat.{ℕ}
use Rattle.std.proofs.Common.{Result, Ok, Err}
use Rattle.base.proofs.Bools.{no_answer}
use Rattle.base.specs.Answer.{Answer, refused, answer, told, number_of, refusal_of, number_given}
use Rattle.base.specs.declared.refusals.Refusal.{Refusal}
use Rattle.network_text.specs.Text as networks
use Rattle.network_text.specs.declared.network.ReadNetwork.{ReadNetwork}
use Rattle.chain_text.specs.Text as chains
use Rattle.chain_text.specs.declared.chain.ReadChain.{ReadChain}

-- ── a network that is read ──
pub network-unread : (a : Answer networks.Meaning) (k : ℕ) → refused k ≡ networks.read_reply a → (i j : ℕ)
    → (k ≡ refusal_of a)
    × ((i ≡ number_given (λ m. m.vertices) a i) × (j ≡ number_given (λ m. m.reserved) a j))
unfolding networks.read_reply refusal_of number_given
network-unread (refused n) k e i j = (cc, (refl, refl))
network-unread (answer m) k e i j = no_answer (cc)

pub network-read : (a : Answer networks.Meaning) (n : ReadNetwork) → answer n ≡ networks.read_reply a → (i j : ℕ)
    → (0 ≡ refusal_of a)
    × ((n.vertices ≡ number_given (λ m. m.vertices) a i) × (n.reserved ≡ number_given (λ m. m.reserved) a j))
unfolding networks.read_reply refusal_of number_given
network-read (refused k) n e i j = no_answer (cc)
network-read (answer m) n e i j = (refl, (cc, cc))

-- ── a chain that is read ──
pub chain-unread : (a : Answer chains.Meaning) (k : ℕ) → refused k ≡ chains.read_reply a → (i : ℕ)
    → (k ≡ refusal_of a) × (i ≡ number_given (λ m. m.dropped) a i)
unfolding chains.read_reply refusal_of number_given
chain-unread (refused n) k e i = (cc, refl)
chain-unread (answer m) k e i = no_answer (cc)

pub chain-read : (a : Answer chains.Meaning) (c : ReadChain) → answer c ≡ chains.read_reply a → (i : ℕ)
    → (0 ≡ refusal_of a) × (c.dropped ≡ number_given (λ m. m.dropped) a i)
unfolding chains.read_reply refusal_of number_given
chain-read (refused k) c e i = no_answer (cc)
chain-read (answer m) c e i = (refl, cc)
