-- A partner with the two others: the network can be split off with it, what is left is well formed, and the cuts
-- between two pairs of its vertices decide whether the partner is admissible.
use mathlib.Core.Bool.{Bool, true}
use mathlib.Core.Logic.{◌↔◌}
use mathlib.Core.Path.{◌≡◌}
use Prim.Native.Nat.{ℕ, ◌<◌}
use native.Mathlib.Omega.{arith}
use lib.ListN.{length}
use Rattle.graph.specs.Cut.{Side}
use Rattle.graph.specs.Network.{far, low_end, high_end}
use Rattle.graph.specs.Sound.{Formed}
use Rattle.graph.specs.Split.{split, admissible}
use Rattle.base.specs.Limits.{edge_limit}
use Rattle.graph.specs.State.{Splittable}
use Rattle.graph.specs.declared.Network.{Network}
use Rattle.flow.specs.Apart.{FourApart}
use Rattle.flow.specs.declared.Pair.{Pair}
use Rattle.base.proofs.Bools.{same_test}
use Rattle.graph.proofs.Lemma9.{pairs-suffice, pairs-needed}
use Rattle.graph.proofs.Partners.{Chosen}
use Rattle.graph.proofs.Rules.{named, end-here}
use Rattle.graph.proofs.Splitting.{formed-after}
use Rattle.graph.proofs.Stars.{Runs, forward, backward, Star, split-reserved, split-z}
use Rattle.cuts.specs.Partnered.{Partnered}

-- the ends of an edge, as a pair
abbrev pub ends_of : Network → ℕ → Pair
ends_of g e = record { first = low_end g e; second = high_end g e }

-- an edge between p and q has both ends in a part exactly if p and q are there
module _ {g : Network} {e p q : ℕ} (S : Side) {t : Bool} where
  ends-within : Runs g e p q → S p ≡ t → S q ≡ t → (S (low_end g e) ≡ t) × (S (high_end g e) ≡ t)
  ends-within (forward i j) hp hq = (rw i hp, rw j hq)
  ends-within (backward i j) hp hq = (rw i hq, rw j hp)

  within-ends : Runs g e p q → S (low_end g e) ≡ t → S (high_end g e) ≡ t → (S p ≡ t) × (S q ≡ t)
  within-ends (forward i j) hl hh = (rw i at hl, rw j at hh)
  within-ends (backward i j) hl hh = (rw j at hh, rw i at hl)

module _ {g : Network} {v x y z : ℕ} (p : Partnered g v x y z) where
  w : Chosen g v (far g v g.reserved) x
  w = named p.sound p.several v p.at_end x p.partner

  star : Star g v x y z (far g v g.reserved) w.a w.b w.c
  star =
      let same-y : w.y ≡ y = cc (w.others, p.others) in
      let same-z : w.z ≡ z = cc (w.others, p.others) in
      rw (same-y, same-z) at w.at

  module _ (long : length g.low ≡ edge_limit) where
    pub splittable : Splittable g x y z
    splittable = record {
      left = omega (arith, p.several);
      room = omega (arith, p.sound.formed.low_room);
      reserved_edge = star.four.r<;
      x_edge = star.four.x<;
      y_edge = star.four.y<;
      z_edge = star.four.z<;
      light = p.light;
    }

    pub edges-within : (g.reserved < edge_limit) × (z < edge_limit)
    edges-within =
        let s = splittable in (omega (arith, s.reserved_edge, s.room), omega (arith, s.z_edge, s.room))

  pub split-formed : Formed (split g v x y z)
  split-formed = formed-after p.sound.formed star (end-here p.sound v p.at_end)

  -- Lemma 9, with both pairs as they stand in the columns after the split
  pub by-pairs : {t : Bool}
      → ((t ≡ true) ↔ FourApart (split g v x y z) (ends_of (split g v x y z) g.reserved) (ends_of (split g v x y z) z))
      → t ≡ admissible g v x
  by-pairs h =
      let v_here = end-here p.sound v p.at_end in
      let reserved = split-reserved p.sound.formed star in
      let third = split-z p.sound.formed star in
      same_test _ _
      (λ e. pairs-suffice p.sound star v_here p.others (λ S hu ha hb hc.
      let inner = ends-within S reserved hu ha in
      let outer = ends-within S third hb hc in
      h.0 e S (record { first_in = inner.0; second_in = inner.1; first_out = outer.0; second_out = outer.1 })))
      (λ e. h.1 (λ S b.
      let inner = within-ends S reserved b.first_in b.second_in in
      let outer = within-ends S third b.first_out b.second_out in
      pairs-needed p.sound star v_here p.others e S inner.0 inner.1 outer.0 outer.1))
