-- The columns of rules and steps, before and after a step, and the marks of what they keep.
use mathlib.Core.Path.{◌≡◌, refl, ◌∙◌, ap}
use mathlib.Core.Bool.{Bool, true, false, cond, ◌&&◌}
use mathlib.Core.List.{List, ◌∷◌, []}
use Prim.Native.Nat.{ℕ, suc, ◌+◌, ◌≤◌, ◌<◌}
use native.Mathlib.Omega.{arith}
use native.Mathlib.Decide.{ℕ_discrete, dec_lt}
use lib.Dec.{eqb, ltb}
use lib.ListN.{length, get_or, set, replicate, length-set, length-replicate, get_or-replicate}
use lib.Seq.{get_or-set_same, get_or-set_other}
use borrow.Author.Tests.{lt-ltb, le-ltb}
use Rattle.base.specs.Columns.{at}
use Rattle.base.specs.Fold.{tabulate}
use Rattle.base.specs.Limits.{edge_limit}
use Rattle.base.proofs.Bools.{eqb-self, eqb_no}
use Rattle.base.proofs.Sums.{tabulate-length, tabulate-at, tabulate-is}
use Rattle.graph.specs.Network.{kept}
use Rattle.graph.specs.State.{no_marks}
use Rattle.graph.specs.Split.{after}
use Rattle.graph.specs.declared.Network.{Network}
use Rattle.graph.specs.declared.Step.{Step}
use Rattle.departures.specs.Departures.{KEPT_AS_Y, Departure, keeps}
use Rattle.departures.specs.Departures.{rule_of_x, departure_from}
use Rattle.departures.specs.Columns.{rule_column, step_column, all_last, no_steps, ending_noted, rules_back, steps_back}
use Rattle.departures.specs.Columns.{kept_by}

-- ── columns that are stored to ──
module _ {A : Type 0} (n : ℕ) where
  -- a store to a column
  tabulate-set : (f : ℕ → A) (i : ℕ) (a : A) → set (tabulate n f) i a ≡ tabulate n (λ e. cond (eqb e i) a (f e))
  tabulate-set f i a =
      tabulate-is n (λ e. cond (eqb e i) a (f e)) a (set (tabulate n f) i a)
      (length-set (tabulate n f) i a ∙ tabulate-length n f) stored
    where
      stored : (e : ℕ) → e < n → get_or (set (tabulate n f) i a) e a ≡ cond (eqb e i) a (f e)
      stored e l = elim (ℕ_discrete e i) [
        | yes q ↦ rw (q, eqb-self i)
            (get_or-set_same (tabulate n f) i a a (omega (arith, q, tabulate-length n f)))
        | no ne ↦ rw (eqb_no ne) (get_or-set_other (tabulate n f) i e a a ne ∙ tabulate-at n f a e l)
      ]

  -- columns that agree
  tabulate-ext : (f h : ℕ → A) → A → ((e : ℕ) → f e ≡ h e) → tabulate n f ≡ tabulate n h
  tabulate-ext f h a q =
      tabulate-is n h a (tabulate n f) (tabulate-length n f) (λ e l. tabulate-at n f a e l ∙ q e)

  -- a column of one value
  tabulate-same : (a : A) → replicate n a ≡ tabulate n (λ e. a)
  tabulate-same a =
      tabulate-is n (λ e. a) a (replicate n a) (length-replicate n a) (λ e l. get_or-replicate n e a a l)

  -- two stores to it
  two-stored : (a : A) (i j : ℕ) (b c : A)
      → set (set (replicate n a) i b) j c ≡ tabulate n (λ e. cond (eqb e j) c (cond (eqb e i) b a))
  two-stored a i j b c =
      ap (λ l. set (set l i b) j c) (tabulate-same a)
      ∙ ap (λ l. set l j c) (tabulate-set (λ e. a) i b)
      ∙ tabulate-set (λ e. cond (eqb e i) b a) j c

-- ── the ending ──
module _ (k : ℕ) (g : Network) (d : ℕ) where
  pub rules-ended : ending_noted g.reserved d all_last ≡ rule_column k g [] d
  unfolding rule_column departure_from
  rules-ended = two-stored edge_limit _ d g.reserved _ _

  pub steps-ended : no_steps ≡ step_column k g [] d
  unfolding step_column departure_from
  steps-ended = tabulate-same edge_limit 0

-- ── a step ──
module _ (k : ℕ) (g : Network) (t : Step) (ts : List Step) (d : ℕ) where
  -- a part of how an edge leaves, where that is one of three
  part_of : {A : Type 0} (f : Departure → A) (a b : Bool) (p q r : Departure)
      → cond a (f p) (cond b (f q) (f r)) ≡ f (cond a p (cond b q r))
  part_of f true b p q r = refl
  part_of f false true p q r = refl
  part_of f false false p q r = refl

  -- two stores to the column of what follows
  stored : (f : Departure → ℕ) (x-part y-part : ℕ)
      → set (set (tabulate edge_limit (λ e. f (departure_from (suc k) (after g t) ts d e))) t.x x-part) t.y y-part
      ≡ tabulate edge_limit (λ e. cond (eqb e t.y) y-part
      (cond (eqb e t.x) x-part (f (departure_from (suc k) (after g t) ts d e))))
  stored f x-part y-part =
      ap (λ l. set l t.y y-part) (tabulate-set edge_limit _ t.x x-part) ∙ tabulate-set edge_limit _ t.y y-part

  pub rules-back : t.z < edge_limit
      → rules_back t.x t.y t.z (rule_column (suc k) (after g t) ts d) ≡ rule_column k g (t ∷ ts) d
  unfolding rule_column departure_from
  rules-back l =
      let later = departure_from (suc k) (after g t) ts d in
      stored (λ h. h.rule) _ KEPT_AS_Y
      ∙ ap (λ r. tabulate edge_limit (λ e. cond (eqb e t.y) KEPT_AS_Y
      (cond (eqb e t.x) (rule_of_x r) (later e).rule))) (tabulate-at edge_limit (λ e. (later e).rule) 0 t.z l)
      ∙ tabulate-ext edge_limit _ _ 0 (λ e. part_of (λ h. h.rule) (eqb e t.y) (eqb e t.x) _ _ _)

  pub steps-back : steps_back t.x t.y k (step_column (suc k) (after g t) ts d) ≡ step_column k g (t ∷ ts) d
  unfolding step_column departure_from
  steps-back =
      stored (λ h. h.step) k k
      ∙ tabulate-ext edge_limit _ _ 0 (λ e. part_of (λ h. h.step) (eqb e t.y) (eqb e t.x) _ _ _)

-- ── marks ──

-- the edges below i are marked by their rules, and none from i on
pub record Marked (rules : List ℕ) (n i : ℕ) (marks : List Bool) : Type 0 where
  pub within : i ≤ n
  pub size : length marks ≡ edge_limit
  pub done : (e : ℕ) → e < i → kept marks e ≡ keeps (at rules e)
  pub rest : (e : ℕ) → i ≤ e → e < edge_limit → kept marks e ≡ false

module _ {rules : List ℕ} {n : ℕ} where
  pub marked-none : Marked rules n 0 no_marks
  marked-none = record {
    within = omega arith;
    size = length-replicate edge_limit false;
    done = λ e l. absurd (omega arith);
    rest = λ e l h. get_or-replicate edge_limit e false false h;
  }

  pub marked_next : {i : ℕ} {marks : List Bool} → Marked rules n i marks → i < n → n ≤ edge_limit
      → {b : Bool} → b ≡ keeps (at rules i) → Marked rules n (i + 1) (set marks i b)
  marked_next {i} {marks} m l room {b} q = record {
    within = omega arith;
    size = length-set marks i b ∙ m.size;
    done = λ e h. elim (ℕ_discrete e i) [
      | yes p ↦ rw p (get_or-set_same marks i b false (omega (arith, m.size)) ∙ q)
      | no ne ↦ get_or-set_other marks i e b false ne ∙ m.done e (omega arith)
    ];
    rest = λ e h k. get_or-set_other marks i e b false (λ p. omega arith) ∙ m.rest e (omega arith) k;
  }

  pub marked_all : {i : ℕ} {marks : List Bool} → Marked rules n i marks → n ≤ i → marks ≡ kept_by n rules
  unfolding kept_by
  marked_all {marks = marks} m h =
      tabulate-is edge_limit (λ e. ltb e n && keeps (at rules e)) false marks m.size
      (λ e l. elim (dec_lt e n) [
        | yes k ↦ rw (lt-ltb e n k) (m.done e (omega (arith, m.within)))
        | no k ↦ rw (le-ltb e n (omega arith)) (m.rest e (omega (arith, m.within)) l)
      ])
