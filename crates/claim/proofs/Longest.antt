-- The longest texts: what the first bytes of a network text settle, and buffers that have room for every plan.
use mathlib.Core.Path.{◌≡◌, refl, sym, ◌∙◌}
use mathlib.Core.Bool.{Bool}
use mathlib.Core.List.{List}
use Prim.Native.Nat.{ℕ, ◌-◌, ◌≤◌, ◌<◌}
use native.Mathlib.Omega.{arith}
use lib.ListN.{length, take}
use Rattle.base.proofs.Bools.{no_answer}
use Rattle.base.specs.Answer.{Answer, refused, answer, and_then}
use Rattle.base.proofs.Answers.{given-refused}
use Rattle.base.specs.Lengths.{longest_network, longest_kept, longest_chain}
use Rattle.kept_text.specs.Text.{kept_edges}
use Rattle.network_text.proofs.Longest.{first_bytes}
use Rattle.chain_text.proofs.Lengths.{chain-short as chain-within}
use Rattle.kept_text.proofs.Texts.{few-kept, kept-short as kept-within}
use Rattle.loading.specs.Loading.{load_network}
use Rattle.graph.specs.Plan.{plan_kept}
use Rattle.graph.specs.declared.Network.{Network}
use Rattle.claim.specs.Plans.{plan_chain}
use Rattle.rules.specs.Running.{Running}
use Rattle.claim.specs.Services.{Texts, accept_network, kept_text_of, texts_of, plan_of, plan_text, plan_room, plan_in}
use Rattle.claim.specs.Services.{plan_given}
use Rattle.claim.proofs.Accepting.{accepted-running, running-few}
use Rattle.claim.proofs.Keepings.{kept-length-is}
use Rattle.claim.proofs.Handing.{chain-size, long-enough}

-- a longer text is loaded, accepted and planned as its first bytes are, one more than the longest network text has
module _ (t : List ℕ) (k : ℕ) (h : longest_network < k) where
  load-first : load_network (take k t) ≡ load_network t
  unfolding load_network
  load-first = rw (first_bytes t k h)

  accept-first : accept_network (take k t) ≡ accept_network t
  unfolding accept_network
  accept-first = rw load-first

  pub plan-first : plan_text (take k t) ≡ plan_text t
  unfolding plan_text
  plan-first = rw accept-first

-- the texts of the plan of a network that runs are no longer than these
module _ (a : Answer Network) (runs : (g : Network) → a ≡ answer g → Running g) where
  pub running-lengths : (t : Texts) → plan_of a ≡ answer t
      → (length t.chain ≤ longest_chain) × (length t.kept ≤ longest_kept)
  unfolding and_then
  running-lengths t e = go a refl e
    where
      chain-short : {g : Network} → Running g → length (plan_chain (g.remaining - 2) g) ≤ longest_chain
      chain-short {g} run =
          let size = chain-size (g.remaining - 2) g in
          omega (arith, size, chain-within (g.remaining - 2) (omega (arith, running-few run)))

      kept-short : {g : Network} → Running g → (K : List Bool) → length (kept_text_of g K) ≤ longest_kept
      kept-short {g} run K =
          let few = few-kept g.edges K in
          let room = run.edge_room in
          omega (arith, kept-length-is g K, kept-within (length (kept_edges g.edges K)) (omega arith))

      go : (b : Answer Network) → a ≡ b → plan_of b ≡ answer t
          → (length t.chain ≤ longest_chain) × (length t.kept ≤ longest_kept)
      go (refused k) p q = no_answer (cc)
      go (answer g) p q =
          let run = runs g p in
          let s : texts_of g (plan_kept (g.remaining - 2) g) ≡ t = cc in
          rw (← s) (unfold texts_of in (chain-short run, kept-short run (plan_kept (g.remaining - 2) g)))

  -- so no buffers that have room for these are short
  pub running-fits : (chain kept : List ℕ) → longest_chain ≤ length chain → longest_kept ≤ length kept
      → plan_in a chain kept ≡ plan_of a
  running-fits chain kept c k = go (plan_of a) refl
    where
      go : (w : Answer Texts) → plan_of a ≡ w → plan_in a chain kept ≡ plan_of a
      go (refused j) e = given-refused (plan_room chain kept) (plan_of a) j e ∙ sym e
      go (answer t) e =
          let l = running-lengths t e in
          long-enough e chain kept (omega (arith, l.0)) (omega (arith, l.1)) ∙ sym e

-- the same of a text
module _ (network : List ℕ) where
  pub plan-lengths : (t : Texts) → plan_text network ≡ answer t
      → (length t.chain ≤ longest_chain) × (length t.kept ≤ longest_kept)
  unfolding plan_text
  plan-lengths t e = running-lengths (accept_network network) (accepted-running network) t e

  pub every-plan-fits : (chain kept : List ℕ) → longest_chain ≤ length chain → longest_kept ≤ length kept
      → plan_given network chain kept ≡ plan_text network
  unfolding plan_given plan_text
  every-plan-fits chain kept c k = running-fits (accept_network network) (accepted-running network) chain kept c k
