-- What is claimed of bridges holds.
use mathlib.Core.Path.{◌≡◌, refl, sym, ◌∙◌, ap}
use mathlib.Core.Logic.{◌↔◌}
use mathlib.Core.Bool.{Bool, true, false, not, ◌&&◌}
use mathlib.Core.List.{List}
use Prim.Native.Nat.{ℕ, ◌<◌}
use native.Mathlib.Decide.{ℕ_discrete}
use borrow.Author.Tests.{not-true, not-false}
use Rattle.base.specs.Fold.{bit}
use Rattle.base.proofs.Bools.{never, and_left, and_right, and_both, unless-false, same_test}
use Rattle.base.proofs.Sums.{sum-ext, each_at, each_in}
use Rattle.graph.specs.Network.{low_end, high_end, kept}
use Rattle.graph.specs.declared.Network.{Network}
use Rattle.connection.specs.Connection.{joined, connected}
use Rattle.connection.specs.Searchable.{Searchable}
use Rattle.connection.specs.Walk.{Walk}
use Rattle.connection.proofs.Reaching.{joined-least, joined-by-walks}
use Rattle.bridges.specs.Bridge.{without, ends_joined, bridge, bridge_count, BridgeClaim}
use Rattle.bridges.proofs.Cutting.{without_other, joined-beside, bridge-listed}

module _ (g : Network) (w : Searchable g) (K : List Bool) (e : ℕ) (l : e < g.edges) where
  abbrev rest : List Bool
  rest = without K e

  -- ── by walks ──

  abbrev Leads : List Bool → Type 0
  Leads L = Walk g L (low_end g e) (high_end g e)

  ends-walk : (L : List Bool) → (ends_joined g L e ≡ true) ↔ Leads L
  ends-walk L = joined-by-walks g L (low_end g e) (high_end g e) w (w.low_below e l)

  bridge-walks : (bridge g K e ≡ true) ↔ ((kept K e ≡ true) × Leads K × (Leads rest → ⊥))
  unfolding bridge
  bridge-walks = (there, back)
    where
      joins : Bool
      joins = ends_joined g rest e

      here : Bool
      here = kept K e && ends_joined g K e

      there : (here && not joins) ≡ true → (kept K e ≡ true) × Leads K × (Leads rest → ⊥)
      there h =
          let k = and_left here (not joins) h in (
            and_left (kept K e) (ends_joined g K e) k,
            (ends-walk K).0 (and_right (kept K e) (ends_joined g K e) k),
            λ walk. never (sym (not-true joins (and_right here (not joins) h)) ∙ (ends-walk rest).1 walk),
          )

      back : (kept K e ≡ true) × Leads K × (Leads rest → ⊥) → (here && not joins) ≡ true
      back (k, walk, none) =
          and_both (and_both k ((ends-walk K).1 walk))
          (unless-false (not joins) (λ h. none ((ends-walk rest).0 (not-false joins h))))

  -- ── where the list joins all vertices ──

  module _ (all : connected g K ≡ true) where
    -- the rest joins the ends of an edge exactly if it joins all vertices
    rest-joins : ends_joined g rest e ≡ connected g rest
    unfolding connected
    rest-joins = same_test (ends_joined g rest e) (connected g rest) widely narrowly
      where
        widely : ends_joined g rest e ≡ true → connected g rest ≡ true
        widely h =
            let least = joined-least g rest 0 w w.some in
            let side = joined g rest 0 in
            let whole = (joined-least g K 0 w w.some).inside side least.holds_start
            (λ d k listed. elim (ℕ_discrete d e) [
              | no other ↦ least.closed d k (without_other K e d other ∙ listed)
              | yes q ↦
                  rw q (joined-beside g w rest (low_end g e) (high_end g e) (w.low_below e l) h side least.closed)
            ]) in
            each_in g.vertices side (λ v k. whole v (each_at g.vertices (joined g K 0) all v k))

        narrowly : connected g rest ≡ true → ends_joined g rest e ≡ true
        narrowly h =
            let least = joined-least g rest (low_end g e) w (w.low_below e l) in
            let side = joined g rest (low_end g e) in
            let beside : (v : ℕ) → v < g.vertices → side 0 ≡ side v =
            λ v k.
            let reached = each_at g.vertices (joined g rest 0) h v k in
            joined-beside g w rest 0 v w.some reached side least.closed in
            sym (beside (high_end g e) (w.high_below e l)) ∙ beside (low_end g e) (w.low_below e l) ∙ least.holds_start

    bridge-before : bridge g K e ≡ (kept K e && not (connected g rest))
    bridge-before = go (kept K e) refl
      where
        go : (b : Bool) → kept K e ≡ b → bridge g K e ≡ (b && not (connected g rest))
        go true h = bridge-listed g w K e l h ∙ ap not rest-joins
        go false h = unfold bridge in rw h

pub bridge-claim : BridgeClaim
unfolding bridge_count
bridge-claim = record {
  by_walks = λ g K e w l. bridge-walks g w K e l;
  as_before = λ g K w all. sum-ext g.edges _ _ (λ e l. ap bit (bridge-before g w K e l all));
}
