-- The two roles in which an edge leaves at a step, y and x: the step's own edge has its role and number, and no other.
use mathlib.Core.Path.{◌≡◌, refl, sym, ◌∙◌, ap}
use mathlib.Core.Logic.{◌≢◌, ◌⊎◌, inl, inr, ⊎_elim}
use mathlib.Core.Bool.{Bool, true, false, ◌||◌}
use mathlib.Core.List.{List, [], ◌∷◌}
use Prim.Native.Nat.{ℕ, suc, ◌+◌, ◌≤◌, ◌<◌}
use native.Mathlib.Omega.{arith}
use native.Mathlib.Decide.{ℕ_discrete}
use lib.Dec.{eqb}
use lib.ListN.{length}
use Rattle.base.proofs.Bools.{never, eqb_is, or_right}
use Rattle.graph.specs.Split.{after}
use Rattle.graph.specs.Chain.{ByRules, ending, step}
use Rattle.graph.specs.Sound.{Sound}
use Rattle.graph.specs.declared.Network.{Network}
use Rattle.graph.specs.declared.Step.{Step}
use Rattle.graph.proofs.Rules.{Stepped, stepped, sound-step}
use Rattle.departures.specs.Departures.{KEPT_AS_Y, KEPT_AS_X, OUT_AS_X, rule_of_x, departure_from}
use Rattle.departures.specs.Explained.{Numbered, first, later}
use Rattle.departures.proofs.Retiring.{live, was-live, x-live, y-live, edges-stay}
use Rattle.departures.proofs.Leaving.{x-rule, Part, as_y, as_x, apart, part, all, behind, leaves-y, leaves-x}
use Rattle.departures.proofs.Leaving.{leaves_later, Form, at_none, at_step, form, live-later}

-- ── numbered steps ──
pub numbered-from : {j k : ℕ} {t : Step} {ts : List Step} → Numbered j ts k t → j ≤ k
numbered-from first = omega arith
numbered-from (later n) = omega (arith, numbered-from n)

pub numbered-at : (ts : List Step) (j k : ℕ) → j ≤ k → k < j + length ts → (t : Step) × Numbered j ts k t
numbered-at [] j k h l = absurd (omega arith)
numbered-at (t ∷ ts) j k h l = elim (ℕ_discrete j k) [
  | yes q ↦ (t, rw q first)
  | no ne ↦ let w = numbered-at ts (suc j) k (omega arith) (omega arith) in (w.0, later w.1)
]

-- ── a role: which edge of a step has it, and the rules that show it ──
pub record Role (who : Step → ℕ) (shown : ℕ → Bool) : Type 0 where
  pub stepped_rule : (n : ℕ) → shown n ≡ true → (KEPT_AS_Y ≤ n) × (n ≤ OUT_AS_X)
  pub its_rule : (k : ℕ) (g : Network) (t : Step) (ts : List Step) (d : ℕ) → t.x ≢ t.y
      → shown (all k g t ts d (who t)).rule ≡ true
  pub its_step : (k : ℕ) (g : Network) (t : Step) (ts : List Step) (d : ℕ) → t.x ≢ t.y
      → (all k g t ts d (who t)).step ≡ k
  pub no_other : (k : ℕ) (g : Network) (t : Step) (ts : List Step) (d e : ℕ) → shown (all k g t ts d e).rule ≡ true
      → (e ≡ who t) ⊎ (all k g t ts d e ≡ behind k g t ts d e)
  pub its_edge : {g : Network} {t : Step} → Stepped g t → who t < g.edges
  pub its_live : {g : Network} {t : Step} → Sound g → Stepped g t → live g (who t) ≡ true

-- the rules of x and y are told apart
abbrev shows-x : ℕ → Bool
shows-x n = eqb n KEPT_AS_X || eqb n OUT_AS_X

x-shown : (z-rule : ℕ) → (shows-x (rule_of_x z-rule) ≡ true) × (eqb (rule_of_x z-rule) KEPT_AS_Y ≡ false)
x-shown z-rule = ⊎_elim (λ q. rw q (refl, refl)) (λ q. rw q (refl, refl)) (x-rule z-rule)

pub role-y : Role (λ t. t.y) (λ n. eqb n KEPT_AS_Y)
role-y = record {
  stepped_rule = λ n h. let q = eqb_is {a = n} {b = KEPT_AS_Y} h in (omega arith, omega arith);
  its_rule = λ k g t ts d ne. rw (leaves-y k g t ts d) refl;
  its_step = λ k g t ts d ne. ap (λ h. h.step) (leaves-y k g t ts d);
  no_other = no_other;
  its_edge = λ w. w.at.four.y<;
  its_live = λ sound w. y-live sound w;
}
  where
    no_other : (k : ℕ) (g : Network) (t : Step) (ts : List Step) (d e : ℕ)
        → eqb (all k g t ts d e).rule KEPT_AS_Y ≡ true → (e ≡ t.y) ⊎ (all k g t ts d e ≡ behind k g t ts d e)
    no_other k g t ts d e h = go (part t e)
      where
        go : Part t e → (e ≡ t.y) ⊎ (all k g t ts d e ≡ behind k g t ts d e)
        go (as_y q) = inl q
        go (as_x ny q) =
            never (sym (x-shown (behind k g t ts d t.z).rule).1
            ∙ ap (λ h. eqb h.rule KEPT_AS_Y) (sym (leaves-x k g t ts d (λ p. ny (q ∙ p)))) ∙ (rw q at h))
        go (apart nx ny) = inr (leaves_later k g t ts d nx ny)

pub role-x : Role (λ t. t.x) (λ n. eqb n KEPT_AS_X || eqb n OUT_AS_X)
role-x = record {
  stepped_rule = stepped_rule;
  its_rule = λ k g t ts d ne. rw (leaves-x k g t ts d ne) (x-shown (behind k g t ts d t.z).rule).0;
  its_step = λ k g t ts d ne. ap (λ h. h.step) (leaves-x k g t ts d ne);
  no_other = no_other;
  its_edge = λ w. w.at.four.x<;
  its_live = λ sound w. x-live sound w;
}
  where
    stepped_rule : (n : ℕ) → shows-x n ≡ true → (KEPT_AS_Y ≤ n) × (n ≤ OUT_AS_X)
    stepped_rule n h = go (eqb n KEPT_AS_X) refl
      where
        go : (t : Bool) → eqb n KEPT_AS_X ≡ t → (KEPT_AS_Y ≤ n) × (n ≤ OUT_AS_X)
        go true q = let w = eqb_is {a = n} {b = KEPT_AS_X} q in (omega arith, omega arith)
        go false q =
            let w = eqb_is {a = n} {b = OUT_AS_X} (or_right (eqb n KEPT_AS_X) (eqb n OUT_AS_X) h q) in
            (omega arith, omega arith)

    no_other : (k : ℕ) (g : Network) (t : Step) (ts : List Step) (d e : ℕ)
        → shows-x (all k g t ts d e).rule ≡ true → (e ≡ t.x) ⊎ (all k g t ts d e ≡ behind k g t ts d e)
    no_other k g t ts d e h = go (part t e)
      where
        go : Part t e → (e ≡ t.x) ⊎ (all k g t ts d e ≡ behind k g t ts d e)
        go (as_y q) = never (ap (λ h. shows-x h.rule) (sym (leaves-y k g t ts d)) ∙ (rw q at h))
        go (as_x ny q) = inl q
        go (apart nx ny) = inr (leaves_later k g t ts d nx ny)

module _ {who : Step → ℕ} {shown : ℕ → Bool} (role : Role who shown) where
  -- an edge that a later step names is not retired before it
  pub role-live : {g : Network} {ts : List Step} {d j k : ℕ} {t : Step} → Sound g → ByRules g ts d → Numbered j ts k t
      → (who t < g.edges) × (live g (who t) ≡ true)
  role-live sound (step more r rest) first =
      let w = stepped sound (omega arith) _ r in (role.its_edge w, role.its_live sound w)
  role-live {j = j} {k = k} {t = t} sound (ending {g = g} {d = d} _ _) n = elim n [ ]
  role-live {g} {ts = s ∷ ts} {t = t} sound (step more r rest) (later n) =
      let w = stepped sound (omega arith) s r in
      let q = role-live (sound-step sound s w) rest n in
      let l : who t < g.edges = rw (edges-stay g s) at q.0 in
      (l, (was-live sound w (who t) l q.1).2)

  -- it leaves in its role, with the step's number
  pub role-leaves : {g : Network} {ts : List Step} {d j k : ℕ} {t : Step} → Sound g → ByRules g ts d → Numbered j ts k t
      → (shown (departure_from j g ts d (who t)).rule ≡ true) × ((departure_from j g ts d (who t)).step ≡ k)
  role-leaves {ts = []} {j = j} {k = k} {t = t} sound _ n = elim n [ ]
  role-leaves {g} {ts = s ∷ ts} {d = d} {j = j} sound (step more r rest) first =
      (role.its_rule j g s ts d r.different, role.its_step j g s ts d r.different)
  role-leaves {g} {ts = s ∷ ts} {d = d} {j = j} {t = t} sound (step more r rest) (later n) =
      let w = stepped sound (omega arith) s r in
      let next = sound-step sound s w in
      let q = role-live next rest n in
      rw (live-later sound w j ts d (who t) (rw (edges-stay g s) at q.0) q.1) (role-leaves next rest n)

  -- and no other edge does
  pub role-only : {g : Network} {ts : List Step} {d j k : ℕ} {t : Step} → ByRules g ts d → Numbered j ts k t → (e : ℕ)
      → shown (departure_from j g ts d e).rule ≡ true → (departure_from j g ts d e).step ≡ k → e ≡ who t
  role-only {ts = []} {j = j} {k = k} {t = t} _ n e h q = elim n [ ]
  role-only {g} {ts = s ∷ ts} {d = d} {j = j} (step more r rest) first e h q =
      ⊎_elim (λ p. p) (λ p. absurd (too-late (form (suc j) (after g s) ts d e) (rw p at h) (rw p at q)))
      (role.no_other j g s ts d e h)
    where
      too-late : Form (suc j) (behind j g s ts d e) → shown (behind j g s ts d e).rule ≡ true
          → (behind j g s ts d e).step ≡ j → ⊥
      too-late (at_none z (inl a)) h q = omega (arith, role.stepped_rule _ h)
      too-late (at_none z (inr (inl a))) h q = omega (arith, role.stepped_rule _ h)
      too-late (at_none z (inr (inr a))) h q = omega (arith, role.stepped_rule _ h)
      too-late (at_step l a b) h q = omega arith
  role-only {g} {ts = s ∷ ts} {d = d} {j = j} {k = k} (step more r rest) (later n) e h q =
      ⊎_elim
      (λ p. absurd (omega (
        arith,
        numbered-from n,
        sym q ∙ ap (λ e. (departure_from j g (s ∷ ts) d e).step) p ∙ role.its_step j g s ts d r.different,
      )))
      (λ p. role-only rest n e (rw p at h) (rw p at q)) (role.no_other j g s ts d e h)
