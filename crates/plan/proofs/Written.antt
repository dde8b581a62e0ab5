-- The texts that a plan has written are no longer than the longest.
use mathlib.Core.Path.{◌≡◌, refl}
use mathlib.Core.List.{List}
use Prim.Native.Nat.{ℕ, ◌≤◌}
use native.Mathlib.Omega.{arith}
use lib.ListN.{length}
use Rattle.base.proofs.Bools.{no_answer}
use Rattle.base.specs.Answer.{Answer, refused, answer}
use Rattle.base.specs.Lengths.{longest_kept, longest_chain}
use Rattle.claim.specs.declared.Planned.{Planned}
use Rattle.claim.specs.Services.{Texts, plan_text, planned_of}
use Rattle.claim.proofs.Longest.{plan-lengths}

pub written-short : (network : List ℕ) (p : Planned) → answer p ≡ planned_of (plan_text network)
    → (p.chain ≤ longest_chain) × (p.kept ≤ longest_kept)
written-short network p h = go (plan_text network) refl h
  where
    go : (a : Answer Texts) → plan_text network ≡ a → answer p ≡ planned_of a
        → (p.chain ≤ longest_chain) × (p.kept ≤ longest_kept)
    go (refused j) e h = unfold planned_of in no_answer (cc)
    go (answer t) e h =
        let l = plan-lengths network t e in
        unfold planned_of in
        let m : p.chain ≡ length t.chain = cc in
        let n : p.kept ≡ length t.kept = cc in
        (omega (arith, l.0), omega (arith, l.1))
