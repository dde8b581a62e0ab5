-- How an edge leaves, case by case: at the next step, later, or at no step.
use mathlib.Core.Path.{◌≡◌, refl, sym, ◌∙◌, ap}
use mathlib.Core.Logic.{◌≢◌, ◌⊎◌, inl, inr, ⊎_elim}
use mathlib.Core.Bool.{Bool, true, false, not, cond}
use mathlib.Core.List.{List, [], ◌∷◌}
use Prim.Native.Nat.{ℕ, suc, ◌+◌, ◌≤◌, ◌<◌}
use native.Mathlib.Omega.{arith}
use native.Mathlib.Decide.{ℕ_discrete}
use lib.Dec.{eqb}
use lib.ListN.{length}
use Rattle.base.proofs.Bools.{eqb-self, eqb_no, eqb_is}
use Rattle.graph.specs.Split.{split, after}
use Rattle.graph.specs.Chain.{ByRules, ending, step}
use Rattle.graph.specs.Sound.{Sound}
use Rattle.graph.specs.declared.Network.{Network}
use Rattle.graph.specs.declared.Step.{Step}
use Rattle.graph.proofs.Rules.{Stepped, stepped, sound-step}
use Rattle.departures.specs.Departures.{RESERVED_EDGE, KEPT_AS_Y, KEPT_AS_X, OUT_AS_X, KEPT_LAST, DROPPED_LAST}
use Rattle.departures.specs.Departures.{Departure, keeps, rule_of_x, end_rule, departure_from}
use Rattle.departures.proofs.Retiring.{live, was-live, edges-stay, dropped-live}

-- ── the rule of x ──
-- x is kept exactly if z is not
pub x-keeps : (z-rule : ℕ) → keeps (rule_of_x z-rule) ≡ not (keeps z-rule)
x-keeps z-rule = go (keeps z-rule)
  where
    go : (t : Bool) → keeps (cond t OUT_AS_X KEPT_AS_X) ≡ not t
    go true = unfold keeps in refl
    go false = unfold keeps in refl

-- it is one of two
pub x-rule : (z-rule : ℕ) → (rule_of_x z-rule ≡ KEPT_AS_X) ⊎ (rule_of_x z-rule ≡ OUT_AS_X)
x-rule z-rule = go (keeps z-rule)
  where
    go : (t : Bool) → (cond t OUT_AS_X KEPT_AS_X ≡ KEPT_AS_X) ⊎ (cond t OUT_AS_X KEPT_AS_X ≡ OUT_AS_X)
    go true = inr refl
    go false = inl refl

-- ── one step ──

-- an edge is a step's y, or its x, or neither
pub data Part (t : Step) (e : ℕ) : Type 0 where
  as_y : e ≡ t.y → Part t e
  as_x : e ≢ t.y → e ≡ t.x → Part t e
  apart : e ≢ t.x → e ≢ t.y → Part t e

pub part : (t : Step) (e : ℕ) → Part t e
part t e = elim (ℕ_discrete e t.y) [
  | yes q ↦ as_y q
  | no ny ↦ elim (ℕ_discrete e t.x) [ yes q ↦ as_x ny q | no nx ↦ apart nx ny ]
]

module _ (k : ℕ) (g : Network) (t : Step) (ts : List Step) (d : ℕ) where
  -- how edges leave, and how they do in what follows the step
  abbrev pub all : ℕ → Departure
  all = departure_from k g (t ∷ ts) d

  abbrev pub behind : ℕ → Departure
  behind = departure_from (suc k) (after g t) ts d

  pub leaves-y : all t.y ≡ record { rule = KEPT_AS_Y; step = k }
  unfolding departure_from
  leaves-y = rw (eqb-self t.y)

  pub leaves-x : t.x ≢ t.y → all t.x ≡ record { rule = rule_of_x (behind t.z).rule; step = k }
  unfolding departure_from
  leaves-x ne = rw (eqb_no ne, eqb-self t.x)

  pub leaves_later : {e : ℕ} → e ≢ t.x → e ≢ t.y → all e ≡ behind e
  unfolding departure_from
  leaves_later nx ny = rw (eqb_no ny, eqb_no nx)

  -- at this step, by 1, 2 or 3, or later
  pub record Now (e : ℕ) : Type 0 where
    pub step_is : (all e).step ≡ k
    pub low : KEPT_AS_Y ≤ (all e).rule
    pub high : (all e).rule ≤ OUT_AS_X

  pub now-y : {e : ℕ} → e ≡ t.y → Now e
  now-y q =
      let h = ap all q ∙ leaves-y in
      let r = ap (λ h. h.rule) h in
      record { step_is = ap (λ h. h.step) h; low = omega (arith, r); high = omega (arith, r) }

  pub now-x : {e : ℕ} → e ≢ t.y → e ≡ t.x → Now e
  now-x ny q =
      let h = ap all q ∙ leaves-x (λ p. ny (q ∙ p)) in
      let r = ap (λ h. h.rule) h in
      let x = x-rule (behind t.z).rule in
      record {
        step_is = ap (λ h. h.step) h;
        low = ⊎_elim (λ x. omega (arith, r, x)) (λ x. omega (arith, r, x)) x;
        high = ⊎_elim (λ x. omega (arith, r, x)) (λ x. omega (arith, r, x)) x;
      }

  pub now-or-later : (e : ℕ) → Now e ⊎ ((e ≢ t.x) × (e ≢ t.y) × (all e ≡ behind e))
  now-or-later e = go (part t e)
    where
      go : Part t e → Now e ⊎ ((e ≢ t.x) × (e ≢ t.y) × (all e ≡ behind e))
      go (as_y q) = inl (now-y q)
      go (as_x ny q) = inl (now-x ny q)
      go (apart nx ny) = inr (nx, ny, leaves_later nx ny)

-- ── which rules come with a step ──

-- no step, by rule 0, 4 or 5; or a step from k on, by 1, 2 or 3
pub data Form (k : ℕ) (h : Departure) : Type 0 where
  at_none : h.step ≡ 0 → (h.rule ≡ RESERVED_EDGE) ⊎ (h.rule ≡ KEPT_LAST) ⊎ (h.rule ≡ DROPPED_LAST) → Form k h
  at_step : k ≤ h.step → KEPT_AS_Y ≤ h.rule → h.rule ≤ OUT_AS_X → Form k h

pub form : (k : ℕ) (g : Network) (ts : List Step) (d e : ℕ) → Form k (departure_from k g ts d e)
unfolding departure_from
form k g [] d e = at_none refl (go (eqb e g.reserved) (eqb e d))
  where
    go : (a b : Bool) → let r = cond a RESERVED_EDGE (cond b DROPPED_LAST KEPT_LAST) in
        (r ≡ RESERVED_EDGE) ⊎ (r ≡ KEPT_LAST) ⊎ (r ≡ DROPPED_LAST)
    go true b = inl refl
    go false true = inr (inr refl)
    go false false = inr (inl refl)
form k g (t ∷ ts) d e =
    ⊎_elim (λ n. at_step (omega (arith, n.step_is)) n.low n.high)
    (λ p. rw p.2 (from (form (suc k) (after g t) ts d e))) (now-or-later k g t ts d e)
  where
    from : {h : Departure} → Form (suc k) h → Form k h
    from (at_none s r) = at_none s r
    from (at_step s a b) = at_step (omega arith) a b

-- an edge that leaves by 0, 4 or 5 has the rule that the ending gives it
pub unstepped : (k : ℕ) (g : Network) (ts : List Step) (d e : ℕ)
    → ((departure_from k g ts d e).rule < KEPT_AS_Y) ⊎ (OUT_AS_X < (departure_from k g ts d e).rule)
    → (departure_from k g ts d e).rule ≡ end_rule g.reserved d e
unstepped k g [] d e h = unfold departure_from in refl
unstepped k g (t ∷ ts) d e h =
    ⊎_elim (λ n. absurd (⊎_elim (λ l. omega (arith, n.low)) (λ l. omega (arith, n.high)) h))
    (λ p. ap (λ h. h.rule) p.2 ∙ same (unstepped (suc k) (after g t) ts d e (rw p.2 at h)))
    (now-or-later k g t ts d e)
  where
    same : {r : ℕ} → r ≡ end_rule (after g t).reserved d e → r ≡ end_rule g.reserved d e
    same q = unfold after split in q

-- ── the reserved edge, and the dropped one ──

-- an edge that a step leaves in the network leaves as what follows says
pub live-later : {g : Network} {t : Step} → Sound g → Stepped g t → (k : ℕ) (ts : List Step) (d e : ℕ) → e < g.edges
    → live (after g t) e ≡ true → departure_from k g (t ∷ ts) d e ≡ departure_from (suc k) (after g t) ts d e
live-later {g} {t} sound w k ts d e l h =
    let p = was-live sound w e l h in leaves_later k g t ts d p.0 p.1

pub reserved-leaves : {g : Network} {ts : List Step} {d : ℕ} (k : ℕ) → Sound g → ByRules g ts d
    → (departure_from k g ts d g.reserved).rule ≡ RESERVED_EDGE
reserved-leaves {g} k sound (ending two r) = unfold departure_from in rw (eqb-self g.reserved)
reserved-leaves {g} {ts = t ∷ ts} {d = d} k sound (step more r rest) =
    let w = stepped sound (omega arith) t r in
    let next = sound-step sound t w in
    ap (λ h. h.rule) (live-later sound w k ts d g.reserved w.at.four.r< (held next.held))
    ∙ same (reserved-leaves (suc k) next rest)
  where
    held : live (after g t) (after g t).reserved ≡ true → live (after g t) g.reserved ≡ true
    held h = unfold after split in h

    same : (departure_from (suc k) (after g t) ts d (after g t).reserved).rule ≡ RESERVED_EDGE
        → (departure_from (suc k) (after g t) ts d g.reserved).rule ≡ RESERVED_EDGE
    same h = unfold after split in h

pub only-reserved : (k : ℕ) (g : Network) (ts : List Step) (d e : ℕ)
    → (departure_from k g ts d e).rule ≡ RESERVED_EDGE → e ≡ g.reserved
only-reserved k g ts d e h = go (eqb e g.reserved) (eqb e d) refl
    (sym (unstepped k g ts d e (inl (omega arith))) ∙ h)
  where
    go : (a b : Bool) → eqb e g.reserved ≡ a → cond a RESERVED_EDGE (cond b DROPPED_LAST KEPT_LAST) ≡ RESERVED_EDGE
        → e ≡ g.reserved
    go true b q h = eqb_is q
    go false true q h = absurd (omega arith)
    go false false q h = absurd (omega arith)

pub dropped-leaves : {g : Network} {ts : List Step} {d : ℕ} (k : ℕ) → Sound g → ByRules g ts d
    → (departure_from k g ts d d).rule ≡ DROPPED_LAST
dropped-leaves {d = d} k sound (ending two r) =
    unfold departure_from in rw (eqb_no r.one.not_reserved, eqb-self d)
dropped-leaves {g} {ts = t ∷ ts} {d = d} k sound (step more r rest) =
    let w = stepped sound (omega arith) t r in
    let next = sound-step sound t w in
    let l = dropped-live next rest in
    ap (λ h. h.rule) (live-later sound w k ts d d (rw (edges-stay g t) at l.0) l.1)
    ∙ dropped-leaves (suc k) next rest

pub only-dropped : (k : ℕ) (g : Network) (ts : List Step) (d e : ℕ)
    → (departure_from k g ts d e).rule ≡ DROPPED_LAST → e ≡ d
only-dropped k g ts d e h = go (eqb e g.reserved) (eqb e d) refl
    (sym (unstepped k g ts d e (inr (omega arith))) ∙ h)
  where
    go : (a b : Bool) → eqb e d ≡ b → cond a RESERVED_EDGE (cond b DROPPED_LAST KEPT_LAST) ≡ DROPPED_LAST → e ≡ d
    go true b q h = absurd (omega arith)
    go false true q h = eqb_is q
    go false false q h = absurd (omega arith)

-- ── steps are numbered on from the next one ──
pub steps-within : (k : ℕ) (g : Network) (ts : List Step) (d e : ℕ) → (departure_from k g ts d e).step ≤ k + length ts
unfolding departure_from
steps-within k g [] d e = omega arith
steps-within k g (t ∷ ts) d e =
    ⊎_elim (λ n. omega (arith, n.step_is))
    (λ p. omega (arith, ap (λ h. h.step) p.2, steps-within (suc k) (after g t) ts d e)) (now-or-later k g t ts d e)
