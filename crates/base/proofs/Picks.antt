-- Laws of the numbers that a test picks.
use mathlib.Core.Path.{◌≡◌, refl, sym, ◌∙◌, ap, ap₂}
use mathlib.Core.Logic.{◌≢◌}
use mathlib.Core.Bool.{Bool, true, false, cond}
use mathlib.Core.List.{List, [], ◌∷◌, ◌++◌, append-nil}
use Prim.Native.Nat.{ℕ, zero, suc, ◌+◌, ◌-◌, ◌≤◌, ◌<◌}
use native.Mathlib.Numerals.{add-one}
use native.Mathlib.Omega.{arith}
use native.Mathlib.Nat.{add-suc, suc-add, add-zero, zero-add, sub-zero}
use native.Mathlib.Decide.{ℕ_discrete}
use lib.Dec.{eqb}
use lib.ListN.{length, get_or, length-append, get_or-append}
use lib.Seq.{get_or-append_seam}
use Rattle.base.specs.Fold.{fold, sum, bit, pick, among}
use Rattle.base.specs.Words.{AllBelow}
use Rattle.base.proofs.Bools.{no_answer, never, eqb-self, eqb_no}
use Rattle.base.proofs.Sums.{fold-ext}

-- no more are picked than are looked at
pub pick-few : (n k : ℕ) (p : ℕ → Bool) → length (pick n k p) ≤ n
unfolding pick
pick-few zero k p = omega arith
pick-few (suc n) k p = one (p k) (pick n (suc k) p) (pick-few n (suc k) p)
  where
    one : (t : Bool) (is : List ℕ) → length is ≤ n → length (cond t (k ∷ is) is) ≤ suc n
    one true is h = omega arith
    one false is h = omega arith

pub pick-length : (n k : ℕ) (p : ℕ → Bool) → length (pick n k p) + sum k (λ i. bit (p i)) ≡ sum (k + n) (λ i. bit (p i))
unfolding pick fold
pick-length zero k p = rw (add-zero, zero-add)
pick-length (suc n) k p = let e : k + suc n ≡ suc k + n = omega arith in rw e (go (p k) refl (pick-length n (suc k) p))
  where
    go : (t : Bool) → p k ≡ t
        → length (pick n (suc k) p) + sum (suc k) (λ i. bit (p i)) ≡ sum (suc k + n) (λ i. bit (p i))
        → length (pick (suc n) k p) + sum k (λ i. bit (p i)) ≡ sum (suc k + n) (λ i. bit (p i))
    go true e ih = rw e (omega (arith, ih, ap bit e))
    go false e ih = rw e (omega (arith, ih, ap bit e))

pub pick-ext : (n k : ℕ) (p q : ℕ → Bool) → ((i : ℕ) → k ≤ i → i < k + n → p i ≡ q i) → pick n k p ≡ pick n k q
unfolding pick
pick-ext zero k p q h = refl
pick-ext (suc n) k p q h =
    rw (h k (omega arith) (omega arith), pick-ext n (suc k) p q (λ i a b. h i (omega arith) (omega arith)))

-- x is the first number from k on that p picks, and l are the later ones
pub record Picked (n k : ℕ) (p : ℕ → Bool) (x : ℕ) (l : List ℕ) : Type 0 where
  pub left : ℕ
  pub from : k ≤ x
  pub passes : p x ≡ true
  pub next : pick left (suc x) p ≡ l
  pub sized : suc x + left ≡ k + n
  pub skipped : (i : ℕ) → k ≤ i → i < x → p i ≡ false

pub pick-cons : (n k : ℕ) (p : ℕ → Bool) (x : ℕ) (l : List ℕ) → pick n k p ≡ x ∷ l → Picked n k p x l
unfolding pick
pick-cons zero k p x l e = no_answer (cc)
pick-cons (suc n) k p x l e = go (p k) refl (pick-cons n (suc k) p x l) e
  where
    go : (t : Bool) → p k ≡ t → (pick n (suc k) p ≡ x ∷ l → Picked n (suc k) p x l)
        → cond t (k ∷ pick n (suc k) p) (pick n (suc k) p) ≡ x ∷ l → Picked (suc n) k p x l
    go true pk ih e = let kx : k ≡ x = cc in
        record {
          left = n;
          from = omega arith;
          passes = rw (← kx) pk;
          next = rw (← kx) (cc);
          sized = omega arith;
          skipped = λ i a b. absurd (omega arith);
        }
    go false pk ih e = let w = ih e in
        record {
          left = w.left;
          from = omega arith;
          passes = w.passes;
          next = w.next;
          sized = omega (arith, w.sized);
          skipped = λ i a b. elim (ℕ_discrete i k) [ yes q ↦ rw q pk | no q ↦ w.skipped i (omega arith) b ];
        }

pub pick-nil : (n k : ℕ) (p : ℕ → Bool) → pick n k p ≡ [] → (i : ℕ) → k ≤ i → i < k + n → p i ≡ false
unfolding pick
pick-nil zero k p e i a b = absurd (omega arith)
pick-nil (suc n) k p e i a b = go (p k) refl (pick-nil n (suc k) p) e (ℕ_discrete i k)
  where
    go : (t : Bool) → p k ≡ t → (pick n (suc k) p ≡ [] → (i : ℕ) → suc k ≤ i → i < suc k + n → p i ≡ false)
        → cond t (k ∷ pick n (suc k) p) (pick n (suc k) p) ≡ [] → Dec (i ≡ k) → p i ≡ false
    go true pk ih e d = no_answer (cc)
    go false pk ih e (yes q) = rw q pk
    go false pk ih e (no q) = ih e i (omega arith) (omega arith)

-- what is picked, and that it is picked
pub pick-among : (n k : ℕ) (p : ℕ → Bool) (i : ℕ) → among i (pick n k p) ≡ true → (k ≤ i) × (i < k + n) × (p i ≡ true)
unfolding pick among
pick-among zero k p i h = never h
pick-among (suc n) k p i h = go (p k) refl (pick-among n (suc k) p i)
  where
    later : (suc k ≤ i) × (i < suc k + n) × (p i ≡ true) → (k ≤ i) × (i < k + suc n) × (p i ≡ true)
    later w = (omega arith, omega arith, w.2)

    go : (t : Bool) → p k ≡ t → (among i (pick n (suc k) p) ≡ true → (suc k ≤ i) × (i < suc k + n) × (p i ≡ true))
        → (k ≤ i) × (i < k + suc n) × (p i ≡ true)
    go false e f = later (f (rw e at h))
    go true e f = elim (ℕ_discrete i k)
        [ yes q ↦ (omega arith, omega arith, rw q e) | no q ↦ later (f (rw (e, eqb_no q) at h)) ]

pub among-pick : (n k : ℕ) (p : ℕ → Bool) (i : ℕ) → k ≤ i → i < k + n → p i ≡ true → among i (pick n k p) ≡ true
unfolding pick among
among-pick zero k p i a b h = absurd (omega arith)
among-pick (suc n) k p i a b h = go (p k) refl (among-pick n (suc k) p i)
  where
    go : (t : Bool) → p k ≡ t → (suc k ≤ i → i < suc k + n → p i ≡ true → among i (pick n (suc k) p) ≡ true)
        → among i (pick (suc n) k p) ≡ true
    go false e f = rw e (f (omega (arith, other e)) (omega arith) h)
      where
        other : p k ≡ false → i ≢ k
        other e q = never (sym e ∙ ap p (sym q) ∙ h)
    go true e f = rw e (elim (ℕ_discrete i k)
        [ yes q ↦ rw (q, eqb-self) | no q ↦ rw (eqb_no q) (f (omega arith) (omega arith) h) ])

-- ── one number after the other ──

cons-append : (t : Bool) (k : ℕ) (is js : List ℕ) → cond t (k ∷ (is ++ js)) (is ++ js) ≡ cond t (k ∷ is) is ++ js
cons-append true k is js = refl
cons-append false k is js = refl

-- one number more is looked at, behind the others
pub pick_more : (n k : ℕ) (p : ℕ → Bool) → pick (suc n) k p ≡ pick n k p ++ cond (p (k + n)) ((k + n) ∷ []) []
unfolding pick
pick_more zero k p = rw (add-zero k)
pick_more (suc n) k p =
    ap (λ is. cond (p k) (k ∷ is) is) (pick_more n (suc k) p)
    ∙ cons-append (p k) k (pick n (suc k) p) (cond (p (suc k + n)) ((suc k + n) ∷ []) [])
    ∙ rw (suc-add k n, add-suc k n)

module _ (p : ℕ → Bool) where
  -- the picked numbers that are left from a place on
  pub pick-start : (n : ℕ) → pick (n - 0) 0 p ≡ pick n 0 p
  pick-start n = rw sub-zero

  pub pick_end : (n k : ℕ) → n ≤ k → pick (n - k) k p ≡ []
  unfolding pick
  pick_end n k h = let e : n - k ≡ 0 = omega arith in rw e

  module _ (n k : ℕ) (h : k < n) where
    pub pick-kept : p k ≡ true → pick (n - k) k p ≡ k ∷ pick (n - (k + 1)) (k + 1) p
    unfolding pick
    pick-kept t = let e : n - k ≡ suc (n - (k + 1)) = omega arith in rw (e, add-one, t)

    pub pick_other : p k ≡ false → pick (n - k) k p ≡ pick (n - (k + 1)) (k + 1) p
    unfolding pick
    pick_other t = let e : n - k ≡ suc (n - (k + 1)) = omega arith in rw (e, add-one, t)

-- nothing is picked beyond the last number of which a test holds
pub pick-beyond : (p : ℕ → Bool) (n more k : ℕ) → ((i : ℕ) → k + n ≤ i → p i ≡ false) → pick (n + more) k p ≡ pick n k p
unfolding pick
pick-beyond p zero zero k h = refl
pick-beyond p zero (suc more) k h =
    rw (zero-add, h k (omega arith)) (rw zero-add at (pick-beyond p zero more (suc k) (λ i l. h i (omega arith))))
pick-beyond p (suc n) more k h = rw (suc-add, pick-beyond p n more (suc k) (λ i l. h i (omega arith)))

-- ── numbers that rise ──

-- numbers from a least one on, each above the one before and below a bound
abbrev pub Rising : ℕ → ℕ → List ℕ → Type 0
Rising least bound [] = Unit
Rising least bound (i ∷ is) = (least ≤ i) × (i < bound) × Rising (suc i) bound is

pub rising-below : (least bound : ℕ) (is : List ℕ) → Rising least bound is → AllBelow bound is
rising-below least bound [] r = tt
rising-below least bound (i ∷ is) r = (r.1, rising-below (suc i) bound is r.2)

rising-from : (k bound : ℕ) (is : List ℕ) → Rising (suc k) bound is → Rising k bound is
rising-from k bound [] r = tt
rising-from k bound (i ∷ is) r = (omega arith, r.1, r.2)

-- picked numbers rise
pub pick-rises : (n k : ℕ) (p : ℕ → Bool) → Rising k (k + n) (pick n k p)
unfolding pick
pick-rises zero k p = tt
pick-rises (suc n) k p =
    let e : k + suc n ≡ suc k + n = omega arith in
    rw e (go (p k) (pick-rises n (suc k) p))
  where
    later : List ℕ
    later = pick n (suc k) p

    go : (t : Bool) → Rising (suc k) (suc k + n) later → Rising k (suc k + n) (cond t (k ∷ later) later)
    go true r = (omega arith, omega arith, r)
    go false r = rising-from k (suc k + n) later r

-- a number before the least one stands nowhere among them
rising-absent : (least bound : ℕ) (is : List ℕ) → Rising least bound is → (k : ℕ) → k < least → among k is ≡ false
unfolding among
rising-absent least bound [] r k h = refl
rising-absent least bound (i ∷ is) r k h =
    rw (eqb_no {a = k} {b = i} (λ e. absurd (omega arith)))
    (rising-absent (suc i) bound is r.2 k (omega arith))

-- what is picked by standing among numbers that rise is these numbers
pub pick-rising : (n k : ℕ) (is : List ℕ) → Rising k (k + n) is → pick n k (λ i. among i is) ≡ is
unfolding pick among
pick-rising zero k [] r = refl
pick-rising zero k (i ∷ is) r = absurd (omega arith)
pick-rising (suc n) k [] r = pick-rising n (suc k) [] tt
pick-rising (suc n) k (i ∷ is) r =
    let e : k + suc n ≡ suc k + n = omega arith in
    elim (ℕ_discrete k i) [
      | yes q ↦
          let later : Rising (suc k) (suc k + n) is = rw (← q, e) at r.2 in
          rw (eqb_yes q) (ap₂ ◌∷◌ q (pick-ext n (suc k) _ (λ j. among j is) (past q) ∙ pick-rising n (suc k) is later))
      | no q ↦
          let least : Rising (suc k) (suc k + n) (i ∷ is) = (omega arith, omega arith, rw (← e) r.2) in
          rw (eqb_no q, rising-absent (suc i) _ is r.2 k (omega arith)) (pick-rising n (suc k) (i ∷ is) least)
    ]
  where
    eqb_yes : {a b : ℕ} → a ≡ b → eqb a b ≡ true
    eqb_yes {a} {b} q = rw q (eqb-self b)

    past : k ≡ i → (j : ℕ) → suc k ≤ j → j < suc k + n → among j (i ∷ is) ≡ among j is
    past q j a b = rw (eqb_no {a = j} {b = i} (λ e. absurd (omega arith)))

-- ── what is put together of the picked numbers alone ──

-- terms that are the unit where a number is not picked put nothing to the others
pub fold-picked : {A : Type 0} (op : A → A → A) (unit : A) → ((a : A) → op a unit ≡ a) → (p : ℕ → Bool) (f : ℕ → A)
    (n : ℕ) → fold op unit n (λ i. cond (p i) (f i) unit)
    ≡ fold op unit (length (pick n 0 p)) (λ i. f (get_or (pick n 0 p) i 0))
unfolding fold pick
fold-picked op unit right p f zero = refl
fold-picked {A} op unit right p f (suc n) = go (p n) refl (fold-picked op unit right p f n)
  where
    terms : List ℕ → A
    terms is = fold op unit (length is) (λ i. f (get_or is i 0))

    -- one number behind the others
    behind : (is : List ℕ) → terms (is ++ (n ∷ [])) ≡ op (terms is) (f n)
    behind is =
        ap (λ k. fold op unit k (λ i. f (get_or (is ++ (n ∷ [])) i 0))) (length-append is (n ∷ []) ∙ add-one (length is))
        ∙ ap₂ op
        (fold-ext op unit (length is) _ _ (λ i l. ap f (get_or-append is (n ∷ []) 0 i l)))
        (ap f (get_or-append_seam is n [] 0))

    -- the last number that is looked at, picked or not
    last : (is : List ℕ) → cond (p (0 + n)) ((0 + n) ∷ []) [] ≡ is → pick (suc n) 0 p ≡ pick n 0 p ++ is
    last is e = pick_more n 0 p ∙ ap (λ js. pick n 0 p ++ js) e

    go : (t : Bool) → p n ≡ t → fold op unit n (λ i. cond (p i) (f i) unit) ≡ terms (pick n 0 p)
        → op (fold op unit n (λ i. cond (p i) (f i) unit)) (cond (p n) (f n) unit) ≡ terms (pick (suc n) 0 p)
    go true e ih =
        ap₂ op ih (ap (λ t. cond t (f n) unit) e) ∙ sym (behind (pick n 0 p))
        ∙ ap terms (sym (last (n ∷ []) (rw (zero-add n, e))))
    go false e ih =
        ap₂ op ih (ap (λ t. cond t (f n) unit) e) ∙ right (terms (pick n 0 p))
        ∙ ap terms (sym (last [] (rw (zero-add n, e)) ∙ append-nil (pick n 0 p)))
