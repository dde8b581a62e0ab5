-- The planner's pair of partners, and its step: which tests decide them.
use mathlib.Core.Path.{◌≡◌, refl, ap}
use mathlib.Core.Bool.{Bool, true, false, cond}
use mathlib.Core.List.{List, [], ◌∷◌}
use Prim.Native.Nat.{ℕ, ◌+◌, ◌≤◌}
use native.Mathlib.Omega.{arith}
use lib.ListN.{get_or}
use lib.Signed.{lt_z}
use Rattle.base.specs.Fold.{bit, only}
use Rattle.graph.specs.Network.{cost_of}
use Rattle.graph.specs.Split.{partners, admissible, third, step_with, step_given}
use Rattle.graph.specs.Plan.{chosen_vertex, chosen_pair, chosen_step, ordered}
use Rattle.graph.specs.declared.Network.{Network}
use Rattle.base.proofs.Bools.{bit-true, bit-low}
use Rattle.graph.proofs.Partners.{another, first-others, second-others}
use Rattle.graph.proofs.Lemma8.{lemma8}
use Rattle.graph.proofs.Plans.{chosen-end, chosen-partners}
use Rattle.graph.proofs.Rules.{around}
use Rattle.rules.specs.declared.choice.Pair.{Pair}
use Rattle.rules.specs.Running.{Running, Costed}
use Rattle.rules.specs.Pairs.{pair_of, ordered_with}
use Rattle.rules.proofs.Trios.{Trio, third-first, third_last, costed}

-- ── the pair ──
module _ {g : Network} (run : Running g) {v x y z : ℕ} (at_v : v ≡ chosen_vertex g) (t : Trio g v x y z) where
  two-usable : 2 ≤ bit (admissible g v x) + bit (admissible g v y) + bit (admissible g v z)
  two-usable =
      let o = another run.sound.formed run.left v t.v_here in
      lemma8 run.sound t.v_here o.1 o.2 t.held t.listed

  -- i and j are chosen, and k is the third
  pair_is : (i j k : ℕ) → ◌≡◌ {A = ℕ × ℕ} (i, j) (chosen_pair g) → third g v i j ≡ k
      → ◌≡◌ {A = Pair} (record { v = v; low = i; high = j; z = k }) (pair_of g (chosen_pair g))
  pair_is i j k e q = rw (← q, at_v) (ap (pair_of g) e)

  -- the first partner is not admissible: the other two are
  pub chosen-later : admissible g v x ≡ false
      → ◌≡◌ {A = Pair} (record { v = v; low = y; high = z; z = x }) (pair_of g (chosen_pair g))
  unfolding chosen_pair only
  chosen-later h =
      let ly = bit-low (admissible g v y) in
      let lz = bit-low (admissible g v z) in
      let ay : admissible g v y ≡ true = bit-true _ (omega (arith, two-usable, ap bit h)) in
      let az : admissible g v z ≡ true = bit-true _ (omega (arith, two-usable, ap bit h)) in
      let s = t.at in
      pair_is y z x (rw (← at_v, t.listed, h, ay, az))
      (third-first g _ _ _ (second-others s t.listed) s.four.xz refl)

  -- the first two are
  pub chosen-first : admissible g v x ≡ true → admissible g v y ≡ true
      → ◌≡◌ {A = Pair} (record { v = v; low = x; high = y; z = z }) (pair_of g (chosen_pair g))
  unfolding chosen_pair only
  chosen-first h k =
      let s = t.at in
      pair_is x y z (rw (← at_v, t.listed, h, k)) (third_last g _ _ _ (first-others s t.listed) s.four.yz refl)

  -- the second is not: the first and the third are
  pub chosen-outer : admissible g v x ≡ true → admissible g v y ≡ false
      → ◌≡◌ {A = Pair} (record { v = v; low = x; high = z; z = y }) (pair_of g (chosen_pair g))
  unfolding chosen_pair only
  chosen-outer h k =
      let lx = bit-low (admissible g v x) in
      let lz = bit-low (admissible g v z) in
      let az : admissible g v z ≡ true = bit-true _ (omega (arith, two-usable, ap bit k)) in
      let s = t.at in
      pair_is x z y (rw (← at_v, t.listed, h, k, az)) (third-first g _ _ _ (first-others s t.listed) s.four.yz refl)

-- ── the step ──

-- two tests of a list's elements, in either order
only-swapped : (p q : ℕ → Bool) (l : List ℕ) → only p (only q l) ≡ only q (only p l)
unfolding only
only-swapped p q [] = refl
only-swapped p q (i ∷ is) = go (p i) (q i) refl refl (only-swapped p q is)
  where
    go : (a b : Bool) → p i ≡ a → q i ≡ b → only p (only q is) ≡ only q (only p is)
        → only p (only q (i ∷ is)) ≡ only q (only p (i ∷ is))
    go true true a b e = rw (b, a, b, e)
    go true false a b e = rw (b, a, b, e)
    go false true a b e = rw (b, a, e)
    go false false a b e = rw (b, a, e)

-- the third partner beside two is the third beside them in the other order
third-swapped : (g : Network) (v x y : ℕ) → third g v y x ≡ third g v x y
unfolding third
third-swapped g v x y = ap (λ l. get_or l 0 0) (only-swapped _ _ (partners g v))

-- the chosen pair ordered by cost, with the third, is the planner's step
pub pair-ordered : (g : Network)
    → let p = pair_of g (chosen_pair g) in ordered_with g p.v p.low p.high p.z ≡ chosen_step g
unfolding ordered chosen_step
pair-ordered g = go (chosen_vertex g) (chosen_pair g).0 (chosen_pair g).1
    (lt_z (cost_of g (chosen_pair g).0) (cost_of g (chosen_pair g).1))
  where
    go : (v i j : ℕ) (t : Bool) → let z = third g v i j in
        cond t (step_with g v j i z) (step_with g v i j z) ≡ cond t (step_given g v j i) (step_given g v i j)
    go v i j true = rw (third-swapped g v i j)
    go v i j false = refl

-- the costs of the pair can be compared, and each taken off the third's
pub pair-costed : {g : Network} → Running g → let p = pair_of g (chosen_pair g) in
    Costed g p.low p.high × Costed g p.low p.z
pair-costed {g} run =
    let w = chosen-partners run.sound run.left in
    let f = (around run.sound run.left _ (chosen-end g) _ _ w.i_in w.j_in w.i≢j).at.four in
    (costed run f.x< f.y<, costed run f.x< f.z<)
