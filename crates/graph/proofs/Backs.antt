-- Going back gives exactly one set of marks for a chain by the
-- rules: the set that the check of the chain keeps. It is good.
use mathlib.Core.Path.{◌≡◌, refl, sym, ◌∙◌, ap}
use mathlib.Core.Logic.{◌≢◌}
use mathlib.Core.Bool.{Bool, true, false}
use mathlib.Core.List.{List, [], ◌∷◌}
use Prim.Native.Nat.{ℕ, ◌≤◌, ◌<◌}
use native.Mathlib.Omega.{arith}
use native.Mathlib.Decide.{ℕ_discrete, dec_lt}
use lib.Dec.{eqb}
use lib.ListN.{length, set, length-set, get_or-eq_default}
use lib.Seq.{ext_get_or, get_or-set_same, get_or-set_other, lt-length-set}
use Rattle.base.specs.Answer.{answer}
use Rattle.base.specs.Fold.{only, without, among}
use Rattle.graph.specs.Network.{kept}
use Rattle.graph.specs.Split.{split, after}
use Rattle.graph.specs.Chain.{last_edges, marks, end_kept, lift, check, LastEdge, StepByRule, ByRules, ending, step}
use Rattle.graph.specs.Back.{EndKeeps, StepKeeps, Back, ending as ends, step as goes}
use Rattle.graph.specs.Sound.{Formed, Sound}
use Rattle.graph.specs.Condition.{Good}
use Rattle.graph.specs.declared.Network.{Network}
use Rattle.graph.specs.declared.Step.{Step}
use Rattle.base.proofs.Bools.{never, eqb-self, eqb_no}
use Rattle.base.proofs.Sums.{tabulate-length, tabulate-at}
use Rattle.graph.proofs.Partners.{among-without}
use Rattle.graph.proofs.Lifting.{lift-cuts, ratio-step}
use Rattle.graph.proofs.Endings.{last_of, of-last, not_last, end-good}
use Rattle.graph.proofs.Rules.{Stepped, stepped, sound-step}
use Rattle.graph.proofs.Checking.{check-ended, check-began, passes-ruled, ruled-passes}

-- ── the ending ──
module _ (g : Network) (is : List ℕ) where
  marks-long : length (marks g is) ≡ length g.low
  unfolding marks
  marks-long = tabulate-length (length g.low) (λ e. among e is)

  marked : (e : ℕ) → e < length g.low → kept (marks g is) e ≡ among e is
  unfolding marks
  marked e l = tabulate-at (length g.low) (λ e. among e is) false e l

  -- what is not listed has no mark
  unmarked : (e : ℕ) → among e is ≡ false → kept (marks g is) e ≡ false
  unmarked e h = elim (dec_lt e (length g.low)) [
    | yes l ↦ marked e l ∙ h
    | no l ↦ get_or-eq_default (marks g is) false (omega (arith, marks-long))
  ]

-- an edge that is left out of a list does not stand in it
among-gone : (d : ℕ) (is : List ℕ) → among d (without d is) ≡ false
unfolding among only
among-gone d [] = refl
among-gone d (i ∷ is) = go (eqb i d) refl (among-gone d is)
  where
    go : (t : Bool) → eqb i d ≡ t → among d (without d is) ≡ false → among d (without d (i ∷ is)) ≡ false
    go true e ih = rw e ih
    go false e ih = rw (e, eqb_no {a = d} {b = i} (λ q. never (sym e ∙ rw q (eqb-self i))), ih)

-- the ending's marks are those of the other two
pub end-marks : (g : Network) (d : ℕ) → end_kept g d ≡ marks g (without d (last_edges g))
unfolding end_kept
end-marks g d = ext_get_or false _ _ (simp length-set (marks-long g is ∙ sym (marks-long g (without d is)))) (λ e l.
    at e (omega (arith, simp length-set at l, marks-long g is)) (ℕ_discrete e d))
  where
    is : List ℕ
    is = last_edges g

    at : (e : ℕ) → e < length g.low → Dec (e ≡ d)
        → kept (set (marks g is) d false) e ≡ kept (marks g (without d is)) e
    at e l (yes q) = rw q
        (get_or-set_same (marks g is) d false false (omega (arith, q, marks-long g is))
        ∙ sym (unmarked g (without d is) d (among-gone d is)))
    at e l (no q) = get_or-set_other (marks g is) d e false false q ∙ marked g is e l
        ∙ sym (marked g (without d is) e l ∙ among-without d e q is)

-- the check's ending keeps what the rule says
end-keeps : {g : Network} → Formed g → {d : ℕ} → d < g.edges → EndKeeps g d (end_kept g d)
unfolding end_kept
end-keeps {g} formed {d} l =
    let is = last_edges g in
    let place : d < length (marks g is) = omega (arith, marks-long g is, formed.low_room) in
    record {
      sized = simp length-set (marks-long g is);
      dropped = simp get_or-set_same;
      others = λ e p ne. simp get_or-set_other
          (marked g is e (omega (arith, p.number, formed.low_room)) ∙ of-last g e p);
      rest = λ e out ne. simp get_or-set_other (unmarked g is e (unlisted e out (among e is) refl));
    }
  where
    unlisted : (e : ℕ) → (LastEdge g e → ⊥) → (t : Bool) → among e (last_edges g) ≡ t → among e (last_edges g) ≡ false
    unlisted e out true h = absurd (out (last_of g e h))
    unlisted e out false h = h

end-one : {g : Network} {d : ℕ} {K L : List Bool} → EndKeeps g d K → EndKeeps g d L → K ≡ L
end-one {g} {d} {K} {L} k l = ext_get_or false K L (k.sized ∙ sym l.sized) (λ e _. elim (ℕ_discrete e d) [
  | yes q ↦ rw q (k.dropped ∙ sym l.dropped)
  | no q ↦ at e q (among e (last_edges g)) refl
])
  where
    at : (e : ℕ) → e ≢ d → (t : Bool) → among e (last_edges g) ≡ t → kept K e ≡ kept L e
    at e q true h = let p = last_of g e h in k.others e p q ∙ sym (l.others e p q)
    at e q false h = k.rest e (not_last g e h) q ∙ sym (l.rest e (not_last g e h) q)

-- ── a step ──
module _ {g : Network} {t : Step} (w : Stepped g t) where
  -- the check goes back as the rule says
  lift-ruled : (later : List Bool) → g.edges ≤ length later
      → StepKeeps t.x t.y t.z later (lift t.x t.y t.z later)
  unfolding lift
  lift-ruled later room =
      let x-place : t.x < length later = omega (arith, w.at.four.x<) in
      let y-place : t.y < length later = omega (arith, w.at.four.y<) in
      let ne : t.y ≢ t.x = λ e. w.at.four.xy (sym e) in
      record {
        sized = simp length-set;
        y_kept = simp (get_or-set_same, get_or-set_other);
        x_kept = simp (get_or-set_same, lt-length-set);
        others = λ e nx ny. simp get_or-set_other;
      }

step-one : {x y z : ℕ} {later K L : List Bool} → StepKeeps x y z later K → StepKeeps x y z later L → K ≡ L
step-one {x} {y} {K = K} {L = L} k l = ext_get_or false K L (k.sized ∙ sym l.sized) (λ e _. elim (ℕ_discrete e x) [
  | yes q ↦ rw q (k.x_kept ∙ sym l.x_kept)
  | no nx ↦ elim (ℕ_discrete e y) [
    | yes q ↦ rw q (k.y_kept ∙ sym l.y_kept)
    | no ny ↦ k.others e nx ny ∙ sym (l.others e nx ny)
  ]
])

-- going back through a step keeps a good set good: cuts by `lift-cuts`, the ratio by `ratio-step`
good-step : {g : Network} → Sound g → {t : Step} → StepByRule g t → (w : Stepped g t) {later K : List Bool}
    → StepKeeps t.x t.y t.z later K
    → Good (after g t) later → Good g K
unfolding after
good-step {g} sound r w {later} {K} k q =
    let free : kept later g.reserved ≡ false = unfold split in q.leaves_out in
    record {
      sized = k.sized ∙ q.sized ∙ unfold split in simp length-set;
      leaves_out = k.others g.reserved w.at.four.rx w.at.four.ry ∙ free;
      twice = lift-cuts sound w.at w.v_here k free q.twice;
      ratio = ratio-step sound.formed w.at k r.no_cheaper q.ratio;
    }

-- ── a chain ──

-- what going back gives is good: the ending's set is, and each step keeps it so, on sound networks all along
pub back-good : {g : Network} {ts : List Step} {d : ℕ} {K : List Bool} → Sound g → ByRules g ts d → Back g ts d K
    → Good g K
back-good sound (ending two r) (ends k) = end-good sound two r k
back-good {ts = t ∷ ts} sound (step more r rest) (goes b k) =
    let w = stepped sound (omega arith) t r in
    good-step sound r w k (back-good (sound-step sound t w) rest b)

-- it is a set of the network's edges
pub back_below : {g : Network} {ts : List Step} {d : ℕ} {K : List Bool} → Sound g → ByRules g ts d → Back g ts d K
    → (e : ℕ) → kept K e ≡ true → e < g.edges
back_below {g} {d = d} {K = K} sound (ending two r) (ends k) e h = elim (ℕ_discrete e d) [
  | yes q ↦ never (sym k.dropped ∙ rw q at h)
  | no q ↦ go (among e (last_edges g)) refl q
]
  where
    go : (t : Bool) → among e (last_edges g) ≡ t → e ≢ d → e < g.edges
    go true m q = (last_of g e m).number
    go false m q = never (sym (k.rest e (not_last g e m) q) ∙ h)
back_below {g} {ts = t ∷ ts} {K = K} sound (step more r rest) (goes b k) e h =
    let w = stepped sound (omega arith) t r in
    elim (ℕ_discrete e t.x) [
      | yes q ↦ rw q w.at.four.x<
      | no nx ↦ elim (ℕ_discrete e t.y) [
        | yes q ↦ rw q w.at.four.y<
        | no ny ↦ let l = back_below (sound-step sound t w) rest b e (sym (k.others e nx ny) ∙ h) in rw edges-stay at l
      ]
    ]
  where
    edges-stay : (after g t).edges ≡ g.edges
    edges-stay = unfold after split in refl

-- the check of a chain keeps what going back gives
pub check-back : {g : Network} {ts : List Step} {d : ℕ} {K : List Bool} → Sound g → ByRules g ts d
    → check g ts d ≡ answer K → Back g ts d K
check-back {g} {d = d} {K = K} sound (ending two r) h =
    rw (← (check-ended g d K h).marks_are) (ends (end-keeps sound.formed r.one.number))
check-back {g} {ts = t ∷ ts} {d = d} {K = K} sound (step more r rest) h =
    let c = check-began g t ts d K h in
    let w = stepped sound (omega arith) t r in
    let next = sound-step sound t w in
    let b = check-back next rest c.later_keeps in
    rw (← c.marks_are) (goes b (lift-ruled w c.later (room c.later (back-good next rest b).sized)))
  where
    room : (K : List Bool) → length K ≡ length (after g t).low → g.edges ≤ length K
    room K e = unfold after split in omega (arith, simp length-set at e, sound.formed.low_room)

-- going back gives one set of marks at most: the ending settles each mark, and so does a step
pub back_one : {g : Network} {ts : List Step} {d : ℕ} {K L : List Bool} → Sound g → ByRules g ts d → Back g ts d K
    → Back g ts d L → K ≡ L
back_one sound (ending two r) (ends k) (ends l) = end-one k l
back_one {ts = t ∷ ts} sound (step more r rest) (goes b k) (goes c l) =
    let w = stepped sound (omega arith) t r in
    let same = back_one (sound-step sound t w) rest b c in
    step-one (rw same at k) l

-- a chain by the rules passes its check, which keeps what going back gives
pub back-check : {g : Network} {ts : List Step} {d : ℕ} {K : List Bool} → Sound g → ByRules g ts d → Back g ts d K
    → check g ts d ≡ answer K
back-check sound r b = let w = ruled-passes sound r in w.1 ∙ ap answer (back_one sound r (check-back sound r w.1) b)

-- what a passing chain keeps is good
pub passes-good : (ts : List Step) {g : Network} → Sound g → (d : ℕ) (K : List Bool) → check g ts d ≡ answer K
    → Good g K
passes-good ts sound d K h = let r = passes-ruled ts sound d K h in back-good sound r (check-back sound r h)
