-- The texts that a plan has written are no longer than their buffers.
use mathlib.Core.Path.{◌≡◌, refl}
use mathlib.Core.List.{List}
use Prim.Native.Nat.{ℕ, ◌≤◌}
use native.Mathlib.Omega.{arith}
use lib.ListN.{length}
use borrow.Author.Tests.{leb-true}
use Rattle.base.specs.Answer.{Answer, refused, answer, given, room_in}
use Rattle.base.proofs.Answers.{given-room}
use Rattle.base.proofs.Bools.{no_answer, and_left, and_right}
use Rattle.claim.specs.declared.Planned.{Planned}
use Rattle.claim.specs.Services.{Texts, plan_room, planned_of}

pub written-fits : (chain kept : List ℕ) (a : Answer Texts) (p : Planned)
    → answer p ≡ planned_of (given (plan_room chain kept) a) → (p.chain ≤ length chain) × (p.kept ≤ length kept)
written-fits chain kept a p h = go (given (plan_room chain kept) a) refl h
  where
    go : (w : Answer Texts) → given (plan_room chain kept) a ≡ w → answer p ≡ planned_of w
        → (p.chain ≤ length chain) × (p.kept ≤ length kept)
    go (refused j) e h = unfold planned_of in no_answer (cc)
    go (answer t) e h =
        unfold planned_of plan_room room_in in
        let room = given-room (plan_room chain kept) a t e in
        let m : p.chain ≡ length t.chain = cc in
        let n : p.kept ≡ length t.kept = cc in
        let a = room_in chain t.chain in
        let b = room_in kept t.kept in (
          omega (arith, m, leb-true (length t.chain) (length chain) (and_left a b room)),
          omega (arith, n, leb-true (length t.kept) (length kept) (and_right a b room)),
        )
