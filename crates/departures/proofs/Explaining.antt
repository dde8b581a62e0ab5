-- What is owed of the reasons of a chain holds of how its edges leave.
use mathlib.Core.Path.{◌≡◌, refl, sym, ◌∙◌, ap}
use mathlib.Core.Logic.{◌≢◌, ◌⊎◌, ◌↔◌, inl, inr, ⊎_elim}
use mathlib.Core.Bool.{Bool, true, false, not, cond, ◌&&◌, or-true, or-false}
use mathlib.Core.List.{List, [], ◌∷◌}
use Prim.Native.Nat.{ℕ, suc, ◌+◌, ◌≤◌, ◌<◌}
use native.Mathlib.Omega.{arith}
use native.Mathlib.Decide.{ℕ_discrete, dec_lt}
use lib.Dec.{eqb}
use lib.ListN.{length}
use borrow.Author.Tests.{eq-eqb, lt-ltb, le-ltb}
use Rattle.base.specs.Fold.{among, bit}
use Rattle.base.specs.Limits.{fewest_vertices, edge_limit}
use Rattle.base.proofs.Bools.{never, eqb-self, eqb_no, eqb_is, and_left, and_right, and_both, same_test}
use Rattle.base.proofs.Sums.{sum-ext, tabulate-at, tabulate-is}
use Rattle.graph.specs.Network.{kept}
use Rattle.graph.specs.Split.{partners, after}
use Rattle.graph.specs.Chain.{LastEdge, ByRules, EndingByRule, ending, step}
use Rattle.graph.specs.Back.{Back, EndKeeps, ending as ends, step as goes}
use Rattle.graph.specs.Sound.{Sound, Fresh}
use Rattle.graph.specs.declared.Network.{Network}
use Rattle.graph.specs.declared.Step.{Step}
use Rattle.graph.proofs.Backs.{back-good, back_below}
use Rattle.graph.proofs.Partners.{among-without, Chosen}
use Rattle.graph.proofs.Endings.{v, held-v, last-is, last_of, of-last}
use Rattle.graph.proofs.Rules.{Stepped, stepped, sound-step, named}
use Rattle.graph.proofs.Condition.{fresh-remaining}
use Rattle.departures.specs.Departures.{RESERVED_EDGE, KEPT_LAST, DROPPED_LAST, FIRST_STEP}
use Rattle.departures.specs.Departures.{Departure, keeps, end_rule, departure_from, departure}
use Rattle.departures.specs.Columns.{rule_column, kept_by}
use Rattle.departures.specs.Explained.{how_many, leaves_by, Numbered, Explained}
use Rattle.departures.proofs.Counting.{one_passes, two-pass}
use Rattle.departures.proofs.Retiring.{live, was-live, stays-live, z-stays, edges-stay, dropped-live}
use Rattle.departures.proofs.Retiring.{steps-counted}
use Rattle.departures.proofs.Leaving.{x-keeps, Part, as_y, as_x, apart, part, all, behind, leaves-y, leaves-x}
use Rattle.departures.proofs.Leaving.{leaves_later, now-or-later, Form, at_none, at_step, form}
use Rattle.departures.proofs.Leaving.{reserved-leaves, only-reserved, dropped-leaves, only-dropped}
use Rattle.departures.proofs.Roles.{Role, role-y, role-x, role-live, role-leaves, role-only, numbered-at}

-- ── the kept edges are those that leave by a rule that keeps them ──

-- at the ending: the reserved and the dropped edge are out, the other two are kept
ending-exactly : {g : Network} {d : ℕ} {K : List Bool} → EndingByRule g d → EndKeeps g d K → (e : ℕ) → e < g.edges
    → live g e ≡ true → keeps (end_rule g.reserved d e) ≡ kept K e
unfolding keeps
ending-exactly {g} {d} r k e l h = elim (ℕ_discrete e g.reserved) [
  | yes q ↦ rw (q, eqb-self g.reserved)
      (sym (k.rest g.reserved (λ p. p.not_reserved refl) (λ p. r.one.not_reserved (sym p))))
  | no nr ↦ elim (ℕ_discrete e d) [
    | yes q ↦ rw (q, eqb_no r.one.not_reserved, eqb-self d) (sym k.dropped)
    | no nd ↦ rw (eqb_no nr, eqb_no nd)
        (sym (k.others e (record { number = l; not_retired = h; not_reserved = nr }) nd))
  ]
]

-- at a step: y is kept, x exactly if z is not, and the others as what follows says
pub leaves-exactly : {g : Network} {ts : List Step} {d : ℕ} {K : List Bool} (j : ℕ) → Sound g → ByRules g ts d
    → Back g ts d K → (e : ℕ) → e < g.edges → live g e ≡ true → keeps (departure_from j g ts d e).rule ≡ kept K e
leaves-exactly j sound (ending two r) (ends k) e l h = unfold departure_from in ending-exactly r k e l h
leaves-exactly {g} {ts = t ∷ ts} {d = d} {K = K} j sound (step more r rest) (goes {later = L} b k) e l h =
    let w = stepped sound (omega arith) t r in
    let next = sound-step sound t w in
    go w (part t e) (leaves-exactly (suc j) next rest b)
  where
    go : Stepped g t → Part t e
        → ((i : ℕ) → i < (after g t).edges → live (after g t) i ≡ true → keeps (behind j g t ts d i).rule ≡ kept L i)
        → keeps (all j g t ts d e).rule ≡ kept K e
    go w (as_y q) ih = rw (q, leaves-y j g t ts d) (unfold keeps in sym k.y_kept)
    go w (as_x ny q) ih =
        let z-kept = ih t.z (rw edges-stay w.at.four.z<) (z-stays sound w) in
        rw (q, leaves-x j g t ts d r.different)
        (x-keeps (behind j g t ts d t.z).rule ∙ ap not z-kept ∙ sym k.x_kept)
    go w (apart nx ny) ih =
        rw (leaves_later j g t ts d nx ny)
        (ih e (rw edges-stay l) (stays-live sound w e l h nx ny) ∙ sym (k.others e nx ny))

-- ── two edges are kept at the ending ──

-- an edge of the network that is kept at the ending
abbrev kept_last : (j : ℕ) → Network → List Step → ℕ → ℕ → Bool
kept_last j g ts d e = live g e && eqb (departure_from j g ts d e).rule KEPT_LAST

ending-two : {g : Network} {d : ℕ} (j : ℕ) → Sound g → g.remaining ≡ 2 → EndingByRule g d
    → how_many g.edges (kept_last j g [] d) ≡ 2
unfolding departure_from
ending-two {g} {d} j sound two r =
    let w = named sound (omega arith) (v sound two) (held-v sound two) d in-partners in
    let f = w.at.four in
    two-pass g.edges w.y w.z (kept_last j g [] d) f.y< f.z< f.yz
    (passes w.y (λ q. f.ry (sym q)) (λ q. f.xy (sym q)) (listed w w.y (λ q. f.xy (sym q)) (first_of w)))
    (passes w.z (λ q. f.rz (sym q)) (λ q. f.xz (sym q)) (listed w w.z (λ q. f.xz (sym q)) (second-of w)))
    (λ e l h. only w e l h)
  where
    in-partners : among d (partners g (v sound two)) ≡ true
    in-partners = rw (last-is sound two) at (of-last g d r.one)

    -- one of the other two is one of the last three
    listed : {u : ℕ} (w : Chosen g (v sound two) u d) (e : ℕ) → e ≢ d → among e (w.y ∷ w.z ∷ []) ≡ true
        → LastEdge g e
    listed w e ne h =
        last_of g e (ap (among e) (last-is sound two) ∙ sym (among-without d e ne (partners g (v sound two)))
        ∙ ap (among e) w.others ∙ h)

    first_of : {u : ℕ} (w : Chosen g (v sound two) u d) → among w.y (w.y ∷ w.z ∷ []) ≡ true
    first_of w = unfold among in rw (eqb-self w.y)

    second-of : {u : ℕ} (w : Chosen g (v sound two) u d) → among w.z (w.y ∷ w.z ∷ []) ≡ true
    second-of w = unfold among in rw (eqb-self w.z, or-true)

    second_is : {u : ℕ} (w : Chosen g (v sound two) u d) (e : ℕ) → e ≢ w.y → among e (w.y ∷ w.z ∷ []) ≡ true
        → e ≡ w.z
    second_is w e ny m = unfold among in eqb_is (rw (eqb_no ny, or-false) at m)

    passes : (e : ℕ) → e ≢ g.reserved → e ≢ d → LastEdge g e → kept_last j g [] d e ≡ true
    passes e nr nd p = unfold departure_from in rw (p.not_retired, eqb_no nr, eqb_no nd)

    -- an edge that the ending keeps is neither the reserved nor the dropped one
    kept-last : (e : ℕ) → end_rule g.reserved d e ≡ KEPT_LAST → (e ≢ g.reserved) × (e ≢ d)
    kept-last e h = go (eqb e g.reserved) (eqb e d) refl refl h
      where
        go : (a b : Bool) → eqb e g.reserved ≡ a → eqb e d ≡ b
            → cond a RESERVED_EDGE (cond b DROPPED_LAST KEPT_LAST) ≡ KEPT_LAST → (e ≢ g.reserved) × (e ≢ d)
        go true b p q h = absurd (omega arith)
        go false true p q h = absurd (omega arith)
        go false false p q h =
            (λ k. never (sym p ∙ eq-eqb e g.reserved k), λ k. never (sym q ∙ eq-eqb e d k))

    only : {u : ℕ} (w : Chosen g (v sound two) u d) (e : ℕ) → e < g.edges → kept_last j g [] d e ≡ true
        → (e ≡ w.y) ⊎ (e ≡ w.z)
    only w e l h =
        let here-e = and_left (live g e) _ h in
        let last = eqb_is (and_right (live g e) _ h) in
        let not-out = kept-last e last in
        let nr : e ≢ g.reserved = not-out.0 in
        let nd : e ≢ d = not-out.1 in
        let p : LastEdge g e = record { number = l; not_retired = here-e; not_reserved = nr } in
        let m : among e (w.y ∷ w.z ∷ []) ≡ true =
        ap (among e) (sym w.others) ∙ among-without d e nd (partners g (v sound two))
        ∙ ap (among e) (sym (last-is sound two)) ∙ of-last g e p in
        elim (ℕ_discrete e w.y) [
          | yes q ↦ inl q
          | no ny ↦ inr (second_is w e ny m)
        ]

-- the edges that leave so stay the same through a step: x and y retire at it, and no other edge does
pub leaves-two : {g : Network} {ts : List Step} {d : ℕ} (j : ℕ) → Sound g → ByRules g ts d
    → how_many g.edges (kept_last j g ts d) ≡ 2
leaves-two j sound (ending two r) = ending-two j sound two r
leaves-two {g} {ts = t ∷ ts} {d = d} j sound (step more r rest) =
    let w = stepped sound (omega arith) t r in
    let ih = leaves-two (suc j) (sound-step sound t w) rest in
    sum-ext g.edges _ _ (λ e l. ap bit (same w e l))
    ∙ ap (λ n. how_many n (kept_last (suc j) (after g t) ts d)) (sym (edges-stay g t))
    ∙ ih
  where
    same : Stepped g t → (e : ℕ) → e < g.edges → kept_last j g (t ∷ ts) d e ≡ kept_last (suc j) (after g t) ts d e
    same w e l = same_test _ _ (λ h. down (and_left (live g e) _ h) (eqb_is (and_right (live g e) _ h)))
        (λ h. let p = was-live sound w e l (and_left (live (after g t) e) _ h) in
        rw (p.2, leaves_later j g t ts d p.0 p.1) (and_right (live (after g t) e) _ h))
      where
        down : live g e ≡ true → (departure_from j g (t ∷ ts) d e).rule ≡ KEPT_LAST
            → kept_last (suc j) (after g t) ts d e ≡ true
        down a b =
            ⊎_elim (λ n. absurd (omega (arith, n.high)))
            (λ p. and_both (stays-live sound w e l a p.0 p.1)
            (eq-eqb (departure_from (suc j) (after g t) ts d e).rule KEPT_LAST (sym (ap (λ h. h.rule) p.2) ∙ b)))
            (now-or-later j g t ts d e)

-- ── the rules are six ──
pub rules-few : (k : ℕ) (g : Network) (ts : List Step) (d e : ℕ) → (departure_from k g ts d e).rule ≤ DROPPED_LAST
rules-few k g ts d e = go (form k g ts d e)
  where
    go : {h : Departure} → Form k h → h.rule ≤ DROPPED_LAST
    go (at_none s (inl r)) = omega arith
    go (at_none s (inr (inl r))) = omega arith
    go (at_none s (inr (inr r))) = omega arith
    go (at_step s a b) = omega arith

-- ── what is owed ──

-- an account that agrees with the definition at the edges of a network as it is read
pub explained : {g : Network} {ts : List Step} {d : ℕ} {K : List Bool} → Sound g → Fresh g → ByRules g ts d
    → Back g ts d K → (how : ℕ → Departure) → ((e : ℕ) → e < g.edges → how e ≡ departure g ts d e)
    → Explained g ts d K how
explained {g} {ts} {d} {K} sound fresh ruled back how agrees = record {
  ruled = λ e l. rw (agrees e l) (rules-few FIRST_STEP g ts d e);
  exactly = λ e l. rw (agrees e l) (leaves-exactly FIRST_STEP sound ruled back e l (all_live e l));
  reserved = rw (agrees g.reserved reserved<) (reserved-leaves FIRST_STEP sound ruled);
  one_reserved = one-by RESERVED_EDGE g.reserved reserved< (reserved-leaves FIRST_STEP sound ruled)
      (λ e h. only-reserved FIRST_STEP g ts d e h);
  dropped = rw (agrees d (dropped-live sound ruled).0) (dropped-leaves FIRST_STEP sound ruled);
  one_dropped = one-by DROPPED_LAST d (dropped-live sound ruled).0 (dropped-leaves FIRST_STEP sound ruled)
      (λ e h. only-dropped FIRST_STEP g ts d e h);
  two_last = sum-ext g.edges _ _ (λ e l. ap bit (same-last e l)) ∙ leaves-two FIRST_STEP sound ruled;
  no_step = λ e l. rw (agrees e l) (none (form FIRST_STEP g ts d e));
  y_leaves = λ n. leaves role-y n;
  x_leaves = λ n. leaves role-x n;
  one_y = λ k a b. one role-y k a b;
  one_x = λ k a b. one role-x k a b;
}
  where
    reserved< : g.reserved < g.edges
    reserved< = sound.formed.reserved_below

    all_live : (e : ℕ) → e < g.edges → live g e ≡ true
    all_live e l = fresh.all_here _ (sound.formed.low_below e l)

    same-last : (e : ℕ) → e < g.edges → leaves_by how KEPT_LAST e ≡ kept_last FIRST_STEP g ts d e
    same-last e l = rw (agrees e l, all_live e l)

    none : {h : Departure} → Form FIRST_STEP h
        → (h.step ≡ 0) ↔ ((h.rule ≡ RESERVED_EDGE) ⊎ (h.rule ≡ KEPT_LAST) ⊎ (h.rule ≡ DROPPED_LAST))
    none (at_none s r) = (λ _. r, λ _. s)
    none (at_step s a b) = (
      λ q. absurd (omega arith),
      ⊎_elim (λ q. absurd (omega arith)) (⊎_elim (λ q. absurd (omega arith)) (λ q. absurd (omega arith))),
    )

    -- one edge leaves by a rule, where one does and no other
    one-by : (rule i : ℕ) → i < g.edges → (departure g ts d i).rule ≡ rule
        → ((e : ℕ) → (departure g ts d e).rule ≡ rule → e ≡ i) → how_many g.edges (leaves_by how rule) ≡ 1
    one-by rule i l h only =
        one_passes g.edges i (leaves_by how rule) l (rw (agrees i l) (eq-eqb _ rule h))
        (λ e k q. only e (sym (ap (λ h. h.rule) (agrees e k)) ∙ eqb_is q))

    -- a step's edge leaves in its role
    leaves : {who : Step → ℕ} {shown : ℕ → Bool} → Role who shown → {k : ℕ} {t : Step} → Numbered FIRST_STEP ts k t
        → (shown (how (who t)).rule && eqb (how (who t)).step k) ≡ true
    leaves {who} role {k} {t} n =
        let w = role-leaves role sound ruled n in
        rw (agrees (who t) (role-live role sound ruled n).0) (and_both w.0 (eq-eqb _ k w.1))

    one : {who : Step → ℕ} {shown : ℕ → Bool} → Role who shown → (k : ℕ) → FIRST_STEP ≤ k
        → k + fewest_vertices ≤ g.vertices → how_many g.edges (λ e. shown (how e).rule && eqb (how e).step k) ≡ 1
    one {who} {shown} role k a b =
        let s = numbered-at ts FIRST_STEP k a (omega (arith, steps-counted ruled, fresh-remaining fresh)) in
        one_passes g.edges (who s.0) (λ e. shown (how e).rule && eqb (how e).step k)
        (role-live role sound ruled s.1).0 (leaves role s.1)
        (λ e l h. let p = rw (agrees e l) at h in role-only role ruled s.1 e
        (and_left _ (eqb (departure g ts d e).step k) p) (eqb_is (and_right (shown (departure g ts d e).rule) _ p)))

-- ── the marks that the rules give are those of going back ──
pub kept-by-rules : {g : Network} {ts : List Step} {d : ℕ} {K : List Bool} → Sound g → Fresh g → ByRules g ts d
    → Back g ts d K → g.edges ≤ edge_limit → length g.low ≡ edge_limit
    → kept_by g.edges (rule_column FIRST_STEP g ts d) ≡ K
unfolding kept_by rule_column
kept-by-rules {g} {ts} {d} {K} sound fresh ruled back room long =
    sym (tabulate-is edge_limit _ false K ((back-good sound ruled back).sized ∙ long) (λ e l. elim (dec_lt e g.edges) [
      | yes k ↦ rw (lt-ltb e g.edges k, tabulate-at edge_limit (λ e. (departure g ts d e).rule) 0 e l)
          (sym (leaves-exactly FIRST_STEP sound ruled back e k (fresh.all_here _ (sound.formed.low_below e k))))
      | no k ↦ rw (le-ltb e g.edges (omega arith)) (beyond e k)
    ]))
  where
    beyond : (e : ℕ) → (e < g.edges → ⊥) → kept K e ≡ false
    beyond e k = go (kept K e) refl
      where
        go : (t : Bool) → kept K e ≡ t → kept K e ≡ false
        go true h = absurd (k (back_below sound ruled back e h))
        go false h = h
