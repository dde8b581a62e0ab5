-- Going back through a step: the kept cost, the cost of all but the reserved edge, and the kept crossing count.
use mathlib.Core.Path.{◌≡◌, refl, sym, ◌∙◌, ap, ap₂}
use mathlib.Core.Logic.{◌≢◌}
use mathlib.Core.Bool.{Bool, true, false, not, cond}
use mathlib.Core.List.{List}
use Prim.Native.Nat.{ℕ, ◌+◌, ◌≤◌, ◌<◌}
use native.Mathlib.Omega.{arith}
use lib.IntN.{ℤ, pos, nat_abs, ◌+ℤ◌, ◌*ℤ◌}
use lib.Signed.{◌≤ℤ◌}
use Rattle.graph.specs.Network.{cost_of, here, cost_over, kept, unreserved, kept_cost, all_but_reserved}
use Rattle.graph.specs.Cut.{Side, differ, crosses, crossings_of, kept_crossings, Divides, EveryCutOf}
use Rattle.graph.specs.Split.{cost_after, split}
use Rattle.graph.specs.Back.{StepKeeps}
use Rattle.graph.specs.Sound.{Formed, Sound, weight}
use Rattle.graph.specs.declared.Network.{Network}
use Rattle.base.proofs.Bools.{never}
use Rattle.base.proofs.Sums.{sum-change-four}
use Rattle.base.proofs.Integers.{P, N, nothing, plus, minus, times-P, times-N, halves, eqℤ, ≤ℤ-is, is-≤ℤ, size-minus}
use Rattle.base.proofs.Integers.{sumℤ-change-four}
use Rattle.graph.proofs.Stars.{differ_same, Runs, runs-crosses, Star, counted, cost-z, cost-x, cost-y}
use Rattle.graph.proofs.Stars.{cost-other, cost-reserved, split-z, split-x, split-y, split-crosses}
use Rattle.graph.proofs.Splitting.{still-here, far-here}

-- ── costs ──
module _ {g : Network} (f : Formed g) {v x y z u a b c : ℕ} (s : Star g v x y z u a b c) where
  -- all but the reserved: before = after + 2 c(x) + c(y), as z alone is left of three, at c(z) - c(x)
  pub all-cost : all_but_reserved g ≡ all_but_reserved (split g v x y z) +ℤ cost_of g x +ℤ cost_of g x +ℤ cost_of g y
  unfolding cost_over split P N
  all-cost =
      let p : ℕ → ℤ = λ e. cond (unreserved g e) (cost_of g e) (pos 0) in
      let q : ℕ → ℤ = λ e. cond (unreserved g e) (cost_of (split g v x y z) e) (pos 0) in
      let C = all_but_reserved (split g v x y z) in
      let cx = cost_of g x in
      let cy = cost_of g y in
      let cz = cost_of g z in
      let w = s.four in
      let pr : p g.reserved ≡ q g.reserved = rw (cost-reserved f s) in
      let px : p x ≡ cx = ap (λ t. cond t cx (pos 0)) (counted g x w.rx) in
      let qx : q x ≡ pos 0 = rw (cost-x f s) (nothing (unreserved g x)) in
      let py : p y ≡ cy = ap (λ t. cond t cy (pos 0)) (counted g y w.ry) in
      let qy : q y ≡ pos 0 = rw (cost-y f s) (nothing (unreserved g y)) in
      let pz : p z ≡ cz = ap (λ t. cond t cz (pos 0)) (counted g z w.rz) in
      let qz : q z ≡ cost_after cx cy cz = ap₂ (λ t k. cond t k (pos 0)) (counted g z w.rz) (cost-z f s) in
      let e = sumℤ-change-four w p q
      (λ e l nr nx ny nz. ap (λ k. cond (unreserved g e) k (pos 0)) (sym (cost-other f s e nx ny nz))) in
      eqℤ _ _ (omega (
        arith,
        e,
        halves pr,
        halves px,
        halves qx,
        halves py,
        halves qy,
        halves pz,
        halves qz,
        minus cz cx,
        plus C cx,
        plus (C +ℤ cx) cx,
        plus (C +ℤ cx +ℤ cx) cy,
      ))

  -- going back through the step, from the marks K to the marks L
  module _ {K L : List Bool} (k : StepKeeps x y z K L) where
    -- kept cost before = kept cost after + c(x) + c(y), both ways: z gains c(x) if it is kept, and else x is kept
    pub kept-cost : kept_cost g L ≡ kept_cost (split g v x y z) K +ℤ cost_of g x +ℤ cost_of g y
    unfolding cost_over split P N
    kept-cost =
        let p : ℕ → ℤ = λ e. cond (kept L e) (cost_of g e) (pos 0) in
        let q : ℕ → ℤ = λ e. cond (kept K e) (cost_of (split g v x y z) e) (pos 0) in
        let C = kept_cost (split g v x y z) K in
        let cx = cost_of g x in
        let cy = cost_of g y in
        let cz = cost_of g z in
        let pr : p g.reserved ≡ q g.reserved =
        rw (k.others g.reserved s.four.rx s.four.ry, (cost-reserved f s)) in
        let px : p x ≡ cond (not (kept K z)) cx (pos 0) = rw k.x_kept in
        let qx : q x ≡ pos 0 = rw (cost-x f s) (nothing (kept K x)) in
        let py : p y ≡ cy = rw k.y_kept in
        let qy : q y ≡ pos 0 = rw (cost-y f s) (nothing (kept K y)) in
        let pz : p z ≡ cond (kept K z) cz (pos 0) =
        rw (k.others z (λ e. s.four.xz (sym e)) (λ e. s.four.yz (sym e))) in
        let qz : q z ≡ cond (kept K z) (cost_after cx cy cz) (pos 0) = rw (cost-z f s) in
        let e = sumℤ-change-four s.four p q (λ e l nr nx ny nz. rw (k.others e nx ny, cost-other f s e nx ny nz)) in
        let mid : p x +ℤ p z ≡ q z +ℤ cx = ap₂ ◌+ℤ◌ px pz ∙ exchange (kept K z) cx cy cz ∙ ap (λ k. k +ℤ cx) (sym qz) in
        eqℤ _ _ (omega (
          arith,
          e,
          halves pr,
          halves qx,
          halves py,
          halves qy,
          halves mid,
          plus (p x) (p z),
          plus (q z) cx,
          plus C cx,
          plus (C +ℤ cx) cy,
        ))
      where
        -- x and z are kept in one another's place
        exchange : (z-kept : Bool) (cx cy cz : ℤ)
            → cond (not z-kept) cx (pos 0) +ℤ cond z-kept cz (pos 0) ≡ cond z-kept (cost_after cx cy cz) (pos 0) +ℤ cx
        exchange true cx cy cz =
            unfold P N in eqℤ _ _ (omega (arith, plus (pos 0) cz, minus cz cx, plus (cost_after cx cy cz) cx))
        exchange false cx cy cz = unfold P N in eqℤ _ _ (omega (arith, plus cx (pos 0), plus (pos 0) cx))

    -- the ratio goes back through a step with c(y) at most c(x): three times the kept cost gains 3 c(x) + 3 c(y), and
    -- twice the cost of all but the reserved gains 4 c(x) + 2 c(y)
    pub ratio-step : cost_of g y ≤ℤ cost_of g x
        → (pos 3 *ℤ kept_cost (split g v x y z) K) ≤ℤ (pos 2 *ℤ all_but_reserved (split g v x y z))
        → (pos 3 *ℤ kept_cost g L) ≤ℤ (pos 2 *ℤ all_but_reserved g)
    ratio-step h ratio =
        let cx = cost_of g x in
        let cy = cost_of g y in
        let C = kept_cost (split g v x y z) K in
        let A = all_but_reserved (split g v x y z) in
        let D = kept_cost g L in
        let B = all_but_reserved g in
        is-≤ℤ (omega (
          arith,
          ≤ℤ-is h,
          ≤ℤ-is ratio,
          halves kept-cost,
          halves all-cost,
          times-P 3 C,
          times-N 3 C,
          times-P 2 A,
          times-N 2 A,
          times-P 3 D,
          times-N 3 D,
          times-P 2 B,
          times-N 2 B,
          plus C cx,
          plus (C +ℤ cx) cy,
          plus A cx,
          plus (A +ℤ cx) cx,
          plus (A +ℤ cx +ℤ cx) cy,
        ))

  -- working costs: the sum of the sizes never grows, as c(z) - c(x) has at most the sizes of c(z) and c(x) together
  pub weight-after : weight (split g v x y z) ≤ weight g
  unfolding weight split
  weight-after =
      let p : ℕ → ℕ = λ e. nat_abs (cost_of (split g v x y z) e) in
      let q : ℕ → ℕ = λ e. nat_abs (cost_of g e) in
      omega (
        arith,
        sum-change-four s.four p q (λ e l nr nx ny nz. ap nat_abs (cost-other f s e nx ny nz)),
        ap nat_abs (cost-reserved f s),
        ap nat_abs (cost-x f s),
        ap nat_abs (cost-y f s),
        ap nat_abs (cost-z f s),
        size-minus (cost_of g z) (cost_of g x),
      )

-- ── crossing counts ──

-- z is kept: k cross before, j after
lift-kept : (v b c : Bool) (k j : ℕ) → k + differ b c ≡ j + (differ v b + differ v c) → (b ≡ v → 2 ≤ j)
    → (c ≡ v → 2 ≤ j) → 2 ≤ k
unfolding differ
lift-kept true true true k j e p q = omega (arith, p refl)
lift-kept true true false k j e p q = omega (arith, p refl)
lift-kept true false true k j e p q = omega (arith, q refl)
lift-kept true false false k j e p q = omega arith
lift-kept false false false k j e p q = omega (arith, p refl)
lift-kept false false true k j e p q = omega (arith, p refl)
lift-kept false true false k j e p q = omega (arith, q refl)
lift-kept false true true k j e p q = omega arith

-- z is not kept
lift-left-out : (v b a : Bool) (k j : ℕ) → k ≡ j + (differ v a + differ v b) → (b ≡ v → 2 ≤ j) → (a ≡ v → 2 ≤ j) → 2 ≤ k
unfolding differ
lift-left-out true true a k j e p q = omega (arith, p refl)
lift-left-out true false true k j e p q = omega (arith, q refl)
lift-left-out true false false k j e p q = omega arith
lift-left-out false false a k j e p q = omega (arith, p refl)
lift-left-out false true false k j e p q = omega (arith, q refl)
lift-left-out false true true k j e p q = omega arith

-- a cut with v and another present vertex in one part is a cut of what is left
divides-after : (g : Network) (v x y z w : ℕ) (S : Side) → here g w ≡ true → w ≢ v → Divides g S → S w ≡ S v
    → Divides (split g v x y z) S
divides-after g v x y z w S hw ne d e = go (S v) refl
  where
    go : (t : Bool) → S v ≡ t → Divides (split g v x y z) S
    go true q = record {
      inner = w;
      outer = d.outer;
      inner_here = still-here g v x y z w hw ne;
      outer_here = still-here g v x y z d.outer d.outer_here (λ k. never (sym d.outer_out ∙ ap S k ∙ q));
      inner_in = e ∙ q;
      outer_out = d.outer_out;
    }
    go false q = record {
      inner = d.inner;
      outer = w;
      outer_here = still-here g v x y z w hw ne;
      inner_here = still-here g v x y z d.inner d.inner_here (λ k. never (sym q ∙ sym (ap S k) ∙ d.inner_in));
      outer_out = e ∙ q;
      inner_in = d.inner_in;
    }

module _ {g : Network} (sound : Sound g) {v x y z u a b c : ℕ} (s : Star g v x y z u a b c) (v_here : here g v ≡ true)
    {K L : List Bool} (k : StepKeeps x y z K L) (free : kept K g.reserved ≡ false) where
  -- the kept crossing count before a step: y and z stand for z where it is kept, and else x and y come besides
  kept-crossings : (S : Side) → kept_crossings g L S + cond (kept K z) (differ (S b) (S c)) 0
      ≡ kept_crossings (split g v x y z) K S +
      (cond (not (kept K z)) (differ (S v) (S a)) 0 + differ (S v) (S b) + cond (kept K z) (differ (S v) (S c)) 0)
  unfolding crossings_of split
  kept-crossings S =
      let f = sound.formed in
      let p : ℕ → ℕ = λ e. cond (kept L e) (crosses g S e) 0 in
      let q : ℕ → ℕ = λ e. cond (kept K e) (crosses (split g v x y z) S e) 0 in
      let none : (t : Bool) (n : ℕ) → n ≡ 0 → cond t n 0 ≡ 0 = λ t n e. rw e (zero t) in
      let pr : p g.reserved ≡ 0 = rw (k.others g.reserved s.four.rx s.four.ry, free) in
      let qr : q g.reserved ≡ 0 = rw free in
      let px : p x ≡ cond (not (kept K z)) (differ (S v) (S a)) 0 = rw (k.x_kept, runs-crosses S s.to_a) in
      let qx : q x ≡ 0 = none (kept K x) _ (runs-crosses S (split-x f s) ∙ differ_same (S v)) in
      let py : p y ≡ differ (S v) (S b) = rw (k.y_kept, runs-crosses S s.to_b) in
      let qy : q y ≡ 0 = none (kept K y) _ (runs-crosses S (split-y f s) ∙ differ_same (S v)) in
      let pz : p z ≡ cond (kept K z) (differ (S v) (S c)) 0 =
      rw (k.others z (λ e. s.four.xz (sym e)) (λ e. s.four.yz (sym e)), runs-crosses S s.to_c) in
      let qz : q z ≡ cond (kept K z) (differ (S b) (S c)) 0 = rw (runs-crosses S (split-z f s)) in
      omega (
        arith,
        pr,
        qr,
        px,
        qx,
        py,
        qy,
        pz,
        qz,
        sum-change-four s.four p q
            (λ e l nr nx ny nz. ap₂ (λ t n. cond t n 0) (k.others e nx ny) (sym (split-crosses f s S e nr nx ny nz))),
      )
    where
      zero : (t : Bool) → cond {A = ℕ} t 0 0 ≡ 0
      zero true = refl
      zero false = refl

  -- every cut crossed at least twice by the kept edges: before the step too. The two edges kept at v cross no less than
  -- z did. If the far end of one lies in the part of v, S is a cut of what is left; if neither does, both cross
  pub lift-cuts : EveryCutOf 2 (split g v x y z) (kept K) → EveryCutOf 2 g (kept L)
  lift-cuts h S d = go (kept K z) refl
    where
      after : {e w : ℕ} → e < g.edges → Runs g e v w → w ≢ v → S w ≡ S v → 2 ≤ kept_crossings (split g v x y z) K S
      after {w = w} l t ne e = h S (divides-after g v x y z w S (far-here sound s v_here l t) ne d e)

      go : (t : Bool) → kept K z ≡ t → 2 ≤ kept_crossings g L S
      go true e = lift-kept (S v) (S b) (S c) _ _ (let w = rw e at (kept-crossings S) in omega arith)
          (after s.four.y< s.to_b s.b≢) (after s.four.z< s.to_c s.c≢)
      go false e = lift-left-out (S v) (S b) (S a) _ _ (let w = rw e at (kept-crossings S) in omega arith)
          (after s.four.y< s.to_b s.b≢) (after s.four.x< s.to_a s.a≢)
