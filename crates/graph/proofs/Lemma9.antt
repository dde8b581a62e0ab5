-- Lemma 9: which sides decide whether a split is admissible, and splits that make a loop.
use mathlib.Core.Path.{◌≡◌}
use mathlib.Core.Bool.{true, false}
use mathlib.Core.List.{[], ◌∷◌}
use Prim.Native.Nat.{ℕ, ◌≤◌, ◌<◌}
use native.Mathlib.Omega.{arith}
use Rattle.base.specs.Fold.{without}
use Rattle.graph.specs.Network.{low_end, high_end, here}
use Rattle.graph.specs.Cut.{Side, differ, crossings}
use Rattle.graph.specs.Split.{partners, split, Admissible, admissible}
use Rattle.graph.specs.Sound.{Sound}
use Rattle.graph.specs.declared.Network.{Network}
use Rattle.base.proofs.Bools.{unless-false}
use Rattle.graph.proofs.EveryCut.{every-cut-sound}
use Rattle.graph.proofs.Stars.{Runs, forward, backward, Star, crossings-split, split-reserved, split-z}
use Rattle.graph.proofs.Partners.{another, no_loop}
use Rattle.graph.proofs.Splitting.{split-with, formed-after, sound-after, far-stays}
use Rattle.graph.proofs.Lemma8.{spoken-against}

module _ {g : Network} (sound : Sound g) {v x y z u a b c : ℕ} (s : Star g v x y z u a b c) (v_here : here g v ≡ true)
    (others : without x (partners g v) ≡ y ∷ z ∷ []) where
  -- a cut with u and a on one side, b and c on the other, is crossed at least four times
  abbrev pub Pairs : Type 0
  Pairs = (S : Side) → S u ≡ true → S a ≡ true → S b ≡ false → S c ≡ false → 4 ≤ crossings (split g v x y z) S

  -- only these cuts need be tried: where x is not admissible one of them is tight, and 4 - 2 edges cross it after
  pub pairs-suffice : Pairs → admissible g v x ≡ true
  unfolding differ
  pairs-suffice h = unless-false (admissible g v x) (λ e.
      let w = spoken-against sound s v_here others e in
      let t = w.1 in
      omega (
        arith,
        h w.0 t.u_in t.a_in t.b_out t.c_out,
        t.four,
        rw (t.v_out, t.u_in, t.a_in, t.b_out, t.c_out) at (crossings-split sound.formed s w.0),
      ))

  -- and they must be: u and b are present after the split, so such a side makes a cut of it
  pub pairs-needed : admissible g v x ≡ true → Pairs
  unfolding admissible
  pairs-needed h S hu ha hb hc =
      every-cut-sound _ (λ e. true) (formed-after sound.formed s v_here) (rw (split-with g v x others) at h) S
      (record {
        inner = u;
        outer = b;
        inner_in = hu;
        outer_out = hb;
        inner_here = far-stays sound s v_here s.four.r< s.to_u s.u≢;
        outer_here = far-stays sound s v_here s.four.y< s.to_b s.b≢;
      })

  -- a split that makes a loop, with a third vertex present, is not admissible
  module _ (three : 3 ≤ g.remaining) where
    -- an admissible split leaves a sound network, and a vertex of it has no loop where another is present
    loop-fails : {e w : ℕ} → e < g.edges → here (split g v x y z) w ≡ true → Runs (split g v x y z) e w w
        → Admissible g v x → ⊥
    unfolding split
    loop-fails {e} {w} l hw t h =
        let after = sound-after sound s v_here (rw (split-with g v x others) at h) in
        let o = another after.formed (omega arith) w hw in
        go (no_loop after hw o.1 o.2 e l) t
      where
        go : (low_end (split g v x y z) e ≡ w → high_end (split g v x y z) e ≡ w → ⊥) → Runs (split g v x y z) e w w → ⊥
        go n (forward p q) = n p q
        go n (backward p q) = n p q

    -- the far ends of the reserved edge and x coincide
    pub loop-reserved : a ≡ u → Admissible g v x → ⊥
    loop-reserved q = loop-fails s.four.r< (far-stays sound s v_here s.four.r< s.to_u s.u≢)
        (rw q at (split-reserved sound.formed s))

    -- the far ends of y and z coincide
    pub loop-others : c ≡ b → Admissible g v x → ⊥
    loop-others q = loop-fails s.four.z< (far-stays sound s v_here s.four.y< s.to_b s.b≢)
        (rw q at (split-z sound.formed s))
