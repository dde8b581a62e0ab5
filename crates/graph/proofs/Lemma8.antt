-- Lemma 8: at least two of the three partners are admissible.
use mathlib.Core.Path.{◌≡◌, refl, ◌∙◌, ap}
use mathlib.Core.Logic.{◌≢◌}
use mathlib.Core.Bool.{Bool, true, false, not, ◌&&◌, ◌||◌}
use mathlib.Core.List.{[], ◌∷◌}
use Prim.Native.Nat.{ℕ, ◌+◌, ◌≤◌, ◌<◌, ◌%◌}
use native.Mathlib.Omega.{arith}
use lib.Dec.{leb, leb→le}
use Rattle.base.specs.Fold.{bit, without}
use Rattle.graph.specs.Network.{low_end, high_end, here, touches}
use Rattle.graph.specs.Cut.{Side, differ, crosses, crossings_of, crossings, Divides}
use Rattle.graph.specs.Split.{partners, split, admissible}
use Rattle.graph.specs.Sound.{Sound}
use Rattle.graph.specs.declared.Network.{Network}
use Rattle.base.proofs.Bools.{eqb_no, table_at}
use Rattle.base.proofs.Sums.{sum-ext, sum-le, sum-add}
use Rattle.graph.proofs.EveryCut.{every-cut-fails}
use Rattle.graph.proofs.Stars.{put, put_same, put_other, Star, swap-others, swap-first, crossings-put}
use Rattle.graph.proofs.Stars.{crossings-split}
use Rattle.graph.proofs.Parity.{sound-even}
use Rattle.graph.proofs.Partners.{star, first-others, second-others, third-others}
use Rattle.graph.proofs.Splitting.{split-with, split-here, far-here, joins_after, crossings-here}

-- ── crossing counts are symmetric and submodular ──
pub crossings-not : (g : Network) (S : Side) → crossings g (λ v. not (S v)) ≡ crossings g S
unfolding crossings_of crosses
crossings-not g S =
    sum-ext g.edges (crosses g (λ v. not (S v))) (crosses g S) (λ e l. flip (S (low_end g e)) (S (high_end g e)))
  where
    flip : (a b : Bool) → differ (not a) (not b) ≡ differ a b
    flip true true = unfold differ in refl
    flip true false = unfold differ in refl
    flip false true = unfold differ in refl
    flip false false = unfold differ in refl

abbrev ◌∩◌ : Side → Side → Side
◌∩◌ S U v = S v && U v

abbrev ◌∪◌ : Side → Side → Side
◌∪◌ S U v = S v || U v

differ-submodular : (a b c d : Bool) → differ (a && c) (b && d) + differ (a || c) (b || d) ≤ differ a b + differ c d
unfolding differ
differ-submodular a b c d =
    leb→le _ _ (table_at
    (λ a b c d. leb (differ (a && c) (b && d) + differ (a || c) (b || d)) (differ a b + differ c d)) tt a b c d)

-- d(S∩U) + d(S∪U) is at most d(S) + d(U), edge by edge: a table of the parts of an edge's two ends
submodular : (g : Network) (S U : Side) → crossings g (◌∩◌ S U) + crossings g (◌∪◌ S U) ≤ crossings g S + crossings g U
unfolding crossings_of crosses
submodular g S U =
    let n = g.edges in
    let f : Side → ℕ → ℕ = λ S e. crosses g S e in
    omega (
      arith,
      sum-add n (f (◌∩◌ S U)) (f (◌∪◌ S U)),
      sum-add n (f S) (f U),
      sum-le n (λ e. f (◌∩◌ S U) e + f (◌∪◌ S U) e) (λ e. f S e + f U e)
          (λ e l. differ-submodular (S (low_end g e)) (S (high_end g e)) (U (low_end g e)) (U (high_end g e))),
    )

-- ── tight sides ──

-- S speaks against x: it has u and a, not b, c and v, and four edges cross it
pub record Tight (g : Network) (v u a b c : ℕ) (S : Side) : Type 0 where
  pub v_out : S v ≡ false
  pub u_in : S u ≡ true
  pub a_in : S a ≡ true
  pub b_out : S b ≡ false
  pub c_out : S c ≡ false
  pub four : crossings g S ≡ 4

-- by the parts of the far ends: n edges cross S, m cross S with v, k cross S after the split. As m is at least 4, n is
-- at least twice the far ends inside; so k below 4 leaves a inside, b and c outside, and k = n - 2 with n even
tight-cases : (a b c : Bool) (n m k : ℕ) → 4 ≤ n → 4 ≤ m → k < 4 → n % 2 ≡ 0
    → m + (differ false true + differ false a + differ false b + differ false c)
    ≡ n + (differ true true + differ true a + differ true b + differ true c)
    → k + (differ false true + differ false a + differ false b + differ false c) ≡ n + (differ true a + differ b c)
    → (a ≡ true) × (b ≡ false) × (c ≡ false) × (n ≡ 4)
unfolding differ
tight-cases true false false n m k hn hm hk e p q = (refl, refl, refl, omega arith)
tight-cases true false true n m k hn hm hk e p q = absurd (omega arith)
tight-cases true true false n m k hn hm hk e p q = absurd (omega arith)
tight-cases true true true n m k hn hm hk e p q = absurd (omega arith)
tight-cases false false false n m k hn hm hk e p q = absurd (omega arith)
tight-cases false false true n m k hn hm hk e p q = absurd (omega arith)
tight-cases false true false n m k hn hm hk e p q = absurd (omega arith)
tight-cases false true true n m k hn hm hk e p q = absurd (omega arith)

module _ {g : Network} (sound : Sound g) {v x y z u a b c : ℕ} (s : Star g v x y z u a b c) (v_here : here g v ≡ true)
  where
    tight : (S : Side) → S v ≡ false → S u ≡ true → Divides g S → Divides g (put v true S)
        → crossings (split g v x y z) S < 4 → Tight g v u a b c S
    tight S hv hu d e k =
        let w = tight-cases (S a) (S b) (S c) (crossings g S) (crossings g (put v true S))
        (crossings (split g v x y z) S)
        (sound.cuts S d) (sound.cuts (put v true S) e) k (sound-even sound S)
        (rw (hv, hu) at (crossings-put s S true)) (rw (hv, hu) at (crossings-split sound.formed s S)) in
        record { v_out = hv; u_in = hu; a_in = w.0; b_out = w.1; c_out = w.2; four = w.3 }

    -- a cut that is crossed too little after the split may be taken with u inside and v outside
    tight-of : (S : Side) → S u ≡ true → Divides (split g v x y z) S → crossings (split g v x y z) S < 4
        → (U : Side) × Tight g v u a b c U
    unfolding split
    tight-of S hu d k =
        let U = put v false S in
        let i = split-here sound.formed v x y z v_here d.inner d.inner_here in
        let o = split-here sound.formed v x y z v_here d.outer d.outer_here in
        let iU : U d.inner ≡ true = put_other v false S d.inner i.1 ∙ d.inner_in in
        let oU : U d.outer ≡ false = put_other v false S d.outer o.1 ∙ d.outer_out in
        let same : crossings (split g v x y z) U ≡ crossings (split g v x y z) S =
        crossings-here (split g v x y z) (joins_after sound s v_here) (λ e. true) U S
        (λ w l. put_other v false S w (split-here sound.formed v x y z v_here w l).1) in (
          U,
          tight U (put_same v false S) (put_other v false S u s.u≢ ∙ hu)
              (record {
                inner = d.inner;
                outer = d.outer;
                inner_here = i.0;
                outer_here = o.0;
                inner_in = iU;
                outer_out = oU;
              })
              (record {
                inner = d.inner;
                outer = d.outer;
                inner_here = i.0;
                outer_here = o.0;
                inner_in = put_other v true U d.inner i.1 ∙ iU;
                outer_out = put_other v true U d.outer o.1 ∙ oU;
              })
              (omega (arith, same)),
        )

    -- where x is not admissible, some side speaks against it
    pub spoken-against : without x (partners g v) ≡ y ∷ z ∷ [] → admissible g v x ≡ false
        → (U : Side) × Tight g v u a b c U
    unfolding admissible
    spoken-against others h =
        let w = every-cut-fails _ (split g v x y z) (λ e. true) (rw (split-with g v x others) at h) in
        go w.0 w.1 (omega (arith, w.2)) (w.0 u) refl
      where
        go : (S : Side) → Divides (split g v x y z) S → crossings (split g v x y z) S < 4 → (t : Bool) → S u ≡ t
            → (U : Side) × Tight g v u a b c U
        go S d k true e = tight-of S e d k
        go S d k false e = tight-of (λ w. not (S w)) (ap not e)
            (record {
              inner = d.outer;
              outer = d.inner;
              inner_here = d.outer_here;
              outer_here = d.inner_here;
              inner_in = ap not d.outer_out;
              outer_out = ap not d.inner_in;
            })
            (omega (arith, crossings-not (split g v x y z) S))

    -- two partners are not both spoken against. S∩U has u and not v, so four edges cross it; S∪U has u, a, b and not c,
    -- so two more cross it than cross it with v, that is six at least; but 4 + 6 is more than d(S) + d(U) = 8
    not-both : (S U : Side) → Tight g v u a b c S → Tight g v u b a c U → ⊥
    unfolding differ
    not-both S U t w =
        let u-here = far-here sound s v_here s.four.r< s.to_u in
        let c-here = far-here sound s v_here s.four.z< s.to_c in
        omega (
          arith,
          submodular g S U,
          t.four,
          w.four,
          sound.cuts (◌∩◌ S U)
              (record {
                inner = u;
                outer = v;
                inner_here = u-here;
                outer_here = v_here;
                inner_in = rw (t.u_in, w.u_in);
                outer_out = rw t.v_out;
              }),
          sound.cuts (put v true (◌∪◌ S U))
              (record {
                inner = u;
                outer = c;
                inner_here = u-here;
                outer_here = c-here;
                inner_in =
                    rw (eqb_no s.u≢, t.u_in);
                outer_out = rw (eqb_no s.c≢, t.c_out, w.c_out);
              }),
          rw (t.v_out, w.v_out, t.u_in, t.a_in, t.b_out, w.a_in, t.c_out, w.c_out) at
              (crossings-put s (◌∪◌ S U) true),
        )

-- a side against x is one whichever way round the others are
other_way : {g : Network} {v u a b c : ℕ} → (U : Side) × Tight g v u a b c U → (U : Side) × Tight g v u a c b U
other_way w = let t =
    w.1 in (
      w.0,
      record
          { v_out = t.v_out; u_in = t.u_in; a_in = t.a_in; b_out = t.c_out; c_out = t.b_out; four = t.four },
    )

two-of-three : (a b c : Bool) → (a ≡ false → b ≡ false → ⊥) → (a ≡ false → c ≡ false → ⊥) → (b ≡ false → c ≡ false → ⊥)
    → 2 ≤ bit a + bit b + bit c
two-of-three true true c p q w = omega arith
two-of-three true false true p q w = omega arith
two-of-three true false false p q w = absurd (w refl refl)
two-of-three false true true p q w = omega arith
two-of-three false true false p q w = absurd (q refl refl)
two-of-three false false c p q w = absurd (p refl refl)

-- Lemma 8: of each two partners one is admissible, by `not-both` with the star turned to these two
pub lemma8 : {g : Network} → Sound g → {v o : ℕ} → here g v ≡ true → here g o ≡ true → o ≢ v
    → touches g v g.reserved ≡ true
    → {x y z : ℕ} → partners g v ≡ x ∷ y ∷ z ∷ []
    → 2 ≤ bit (admissible g v x) + bit (admissible g v y) + bit (admissible g v z)
lemma8 {g} sound {v} {o} hv ho ne held {x} {y} {z} e =
    let s = star sound hv ho ne held e in
    let sy = swap-first s in
    let sz = swap-first (swap-others s) in
    let ax = spoken-against sound s hv (first-others s e) in
    let ay = spoken-against sound sy hv (second-others s e) in
    let az = spoken-against sound sz hv (third-others s e) in
    two-of-three (admissible g v x) (admissible g v y) (admissible g v z)
    (λ p q. let S = ax p in let U = ay q in
    not-both sound s hv S.0 U.0 S.1 U.1)
    (λ p q. let S = other_way (ax p) in let U = az q in
    not-both sound (swap-others s) hv S.0 U.0 S.1 U.1)
    (λ p q. let S = other_way (ay p) in let U = other_way (az q) in
    not-both sound (swap-others sy) hv S.0 U.0 S.1 U.1)
