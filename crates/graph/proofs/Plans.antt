-- The planner's step and ending keep the rules.
use mathlib.Core.Path.{◌≡◌, refl, sym, ◌∙◌, ap}
use mathlib.Core.Logic.{◌≢◌}
use mathlib.Core.Bool.{Bool, true, false, cond, or-true}
use mathlib.Core.List.{List, [], ◌∷◌}
use Prim.Native.Nat.{ℕ, ◌+◌, ◌≤◌, max}
use native.Mathlib.Omega.{arith}
use native.Mathlib.Decide.{dec_le}
use lib.ListN.{length, get_or}
use lib.IntN.{ℤ}
use lib.Signed.{◌≤ℤ◌, le_z, lt_z}
use Rattle.base.specs.Fold.{bit, only, among}
use Rattle.graph.specs.Network.{low_end, high_end, cost_of, touches}
use Rattle.graph.specs.Split.{partners, admissible, step_given}
use Rattle.graph.specs.Chain.{last_edges, dearest, end_refusal, StepByRule}
use Rattle.graph.specs.Plan.{chosen_vertex, ordered, chosen_pair, chosen_step, dearest_of, chosen_drop}
use Rattle.graph.specs.Sound.{Sound}
use Rattle.graph.specs.declared.Network.{Network}
use Rattle.base.proofs.Bools.{eqb-self}
use Rattle.base.proofs.Integers.{le_test, le_is, le-isnt, lt-is, lt-isnt, is-≤ℤ}
use Rattle.graph.proofs.Partners.{another, three-partners, star}
use Rattle.graph.proofs.Lemma8.{lemma8}
use Rattle.graph.proofs.Endings.{v_here, o-here, o≢v, held-v, last-is}
use Rattle.graph.proofs.Rules.{end-here, given-ruled}

-- ── the step ──

-- two different elements of a list that pass a test
pub record Pair (p : ℕ → Bool) (l : List ℕ) (i j : ℕ) : Type 0 where
  pub i_in : among i l ≡ true
  pub j_in : among j l ≡ true
  pub i≢j : i ≢ j
  pub i_ok : p i ≡ true
  pub j_ok : p j ≡ true

-- the first two that pass, where two of three pass
first_two : (p : ℕ → Bool) (x y z : ℕ) → x ≢ y → x ≢ z → y ≢ z → 2 ≤ bit (p x) + bit (p y) + bit (p z)
    → Pair p (x ∷ y ∷ z ∷ []) (get_or (only p (x ∷ y ∷ z ∷ [])) 0 0) (get_or (only p (x ∷ y ∷ z ∷ [])) 1 0)
unfolding only among
first_two p x y z xy xz yz h = go (p x) (p y) (p z) refl refl refl h
  where
    in_x : among x (x ∷ y ∷ z ∷ []) ≡ true
    in_x = rw eqb-self

    in_y : among y (x ∷ y ∷ z ∷ []) ≡ true
    in_y = rw (eqb-self y, or-true)

    in_z : among z (x ∷ y ∷ z ∷ []) ≡ true
    in_z = rw (eqb-self z, or-true, or-true)

    go : (a b c : Bool) → p x ≡ a → p y ≡ b → p z ≡ c → 2 ≤ bit a + bit b + bit c
        → Pair p (x ∷ y ∷ z ∷ []) (get_or (only p (x ∷ y ∷ z ∷ [])) 0 0) (get_or (only p (x ∷ y ∷ z ∷ [])) 1 0)
    go true true c k l m h = rw (k, l) (record { i_in = in_x; j_in = in_y; i≢j = xy; i_ok = k; j_ok = l })
    go true false true k l m h = rw (k, l, m) (record { i_in = in_x; j_in = in_z; i≢j = xz; i_ok = k; j_ok = m })
    go false true true k l m h = rw (k, l, m) (record { i_in = in_y; j_in = in_z; i≢j = yz; i_ok = l; j_ok = m })
    go true false false k l m h = absurd (omega arith)
    go false true false k l m h = absurd (omega arith)
    go false false true k l m h = absurd (omega arith)
    go false false false k l m h = absurd (omega arith)

-- the chosen vertex is an end of the reserved edge
pub chosen-end : (g : Network) → touches g (chosen_vertex g) g.reserved ≡ true
unfolding touches chosen_vertex
chosen-end g =
    let l = low_end g g.reserved in
    let h = high_end g g.reserved in
    elim (dec_le l h) [
      | yes k ↦ let q : max l h ≡ h = omega arith in rw (q, eqb-self h, or-true)
      | no k ↦ let q : max l h ≡ l = omega arith in rw (q, eqb-self l)
    ]

-- the first two admissible partners at the chosen vertex, which Lemma 8 says are there
pub chosen-partners : {g : Network} → Sound g → 2 ≤ g.remaining
    → let v = chosen_vertex g in Pair (admissible g v) (partners g v) (chosen_pair g).0 (chosen_pair g).1
unfolding chosen_pair
chosen-partners {g} sound two =
    let v = chosen_vertex g in
    let held = chosen-end g in
    let hv = end-here sound v held in
    let o = another sound.formed two v hv in
    let ps = three-partners sound hv o.1 o.2 held in
    let f = (star sound hv o.1 o.2 held ps.3).four in
    rw ps.3 (first_two (admissible g v) ps.0 ps.1 ps.2 f.xy f.xz f.yz
    (lemma8 sound hv o.1 o.2 held ps.3))

ordered-ruled : {g : Network} → Sound g → 2 ≤ g.remaining → (v i j : ℕ) → touches g v g.reserved ≡ true
    → Pair (admissible g v) (partners g v) i j → StepByRule g (ordered g v i j)
unfolding ordered
ordered-ruled {g} sound two v i j held w = go (lt_z (cost_of g i) (cost_of g j)) refl
  where
    by : (x y : ℕ) → among x (partners g v) ≡ true → among y (partners g v) ≡ true → x ≢ y → admissible g v x ≡ true
        → admissible g v y ≡ true → cost_of g y ≤ℤ cost_of g x → StepByRule g (step_given g v x y)
    by x y x_in y-in ne x-ok y-ok le = given-ruled sound two (step_given g v x y) held x_in y-in ne x-ok y-ok le refl

    go : (t : Bool) → lt_z (cost_of g i) (cost_of g j) ≡ t
        → StepByRule g (cond t (step_given g v j i) (step_given g v i j))
    go true e = by j i w.j_in w.i_in (λ k. w.i≢j (sym k)) w.j_ok w.i_ok
        (is-≤ℤ (omega (arith, lt-is (cost_of g i) (cost_of g j) e)))
    go false e = by i j w.i_in w.j_in w.i≢j w.i_ok w.j_ok (is-≤ℤ (lt-isnt (cost_of g i) (cost_of g j) e))

-- the planner's step keeps the rules: the dearer of two admissible partners is x
pub chosen-ruled : {g : Network} → Sound g → 2 ≤ g.remaining → StepByRule g (chosen_step g)
unfolding chosen_step
chosen-ruled {g} sound two = ordered-ruled sound two (chosen_vertex g) _ _ (chosen-end g) (chosen-partners sound two)

-- ── the ending ──
le_z-trans : (a b c : ℤ) → le_z a b ≡ true → le_z b c ≡ true → le_z a c ≡ true
le_z-trans a b c h k = le_test a c (omega (arith, le_is a b h, le_is b c k))

le_z-refl : (a : ℤ) → le_z a a ≡ true
le_z-refl a = le_test a a (omega arith)

module _ (g : Network) where
  -- the dearer of d and i, i of equals
  dearer : ℕ → ℕ → ℕ
  dearer d i = cond (le_z (cost_of g d) (cost_of g i)) i d

  dearer-both : (d i : ℕ)
      → (le_z (cost_of g d) (cost_of g (dearer d i)) ≡ true) × (le_z (cost_of g i) (cost_of g (dearer d i)) ≡ true)
  unfolding dearer
  dearer-both d i = go (le_z (cost_of g d) (cost_of g i)) refl
    where
      go : (t : Bool) → le_z (cost_of g d) (cost_of g i) ≡ t
          → (le_z (cost_of g d) (cost_of g (cond t i d)) ≡ true) × (le_z (cost_of g i) (cost_of g (cond t i d)) ≡ true)
      go true e = (e, le_z-refl (cost_of g i))
      go false e = (le_z-refl (cost_of g d), le_test (cost_of g i) (cost_of g d) (le-isnt (cost_of g d) (cost_of g i) e))

  found-ge : (d : ℕ) (l : List ℕ) → le_z (cost_of g d) (cost_of g (dearest_of g d l)) ≡ true
  unfolding dearest_of dearer
  found-ge d [] = le_z-refl (cost_of g d)
  found-ge d (i ∷ l) =
      le_z-trans (cost_of g d) (cost_of g (dearer d i)) (cost_of g (dearest_of g (dearer d i) l)) (dearer-both d i).0
      (found-ge (dearer d i) l)

  found-dearest : (d : ℕ) (l : List ℕ) → dearest g (dearest_of g d l) l ≡ true
  unfolding dearest_of dearest dearer
  found-dearest d [] = refl
  found-dearest d (i ∷ l) =
      rw (le_z-trans (cost_of g i) (cost_of g (dearer d i)) (cost_of g (dearest_of g (dearer d i) l)) (dearer-both d i).1
      (found-ge (dearer d i) l)) (found-dearest (dearer d i) l)

  found_among : (m : List ℕ) (d : ℕ) (l : List ℕ) → among d m ≡ true → ((e : ℕ) → among e l ≡ true → among e m ≡ true)
      → among (dearest_of g d l) m ≡ true
  unfolding dearest_of among dearer
  found_among m d [] h k = h
  found_among m d (i ∷ l) h k =
      found_among m (dearer d i) l (go (le_z (cost_of g d) (cost_of g i)) refl) (λ e q. k e (rw (q, or-true)))
    where
      go : (t : Bool) → le_z (cost_of g d) (cost_of g i) ≡ t → among (dearer d i) m ≡ true
      go true e = rw e (k i (rw eqb-self))
      go false e = rw e h

head-among : (l : List ℕ) → 1 ≤ length l → among (get_or l 0 0) l ≡ true
unfolding among
head-among [] h = absurd (omega arith)
head-among (x ∷ l) h = rw eqb-self

-- the planner's ending is not refused: what it drops is among the last three and none of them is dearer
pub chosen-drop-passes : {g : Network} → Sound g → g.remaining ≡ 2 → end_refusal g (chosen_drop g) ≡ 0
unfolding end_refusal chosen_drop
chosen-drop-passes {g} sound two =
    let ps = three-partners sound (v_here sound two) (o-here sound two) (o≢v sound two) (held-v sound two) in
    let l = last_edges g in
    let e : last_edges g ≡ ps.0 ∷ ps.1 ∷ ps.2 ∷ [] = last-is sound two ∙ ps.3 in
    let d = get_or l 0 0 in
    rw (found_among g l d l (head-among l (omega (arith, ap length e))) (λ e h. h), found-dearest g d l)
