-- A list without an edge; and a listed edge is a bridge exactly if a side that no other one leaves parts its ends.
use mathlib.Core.Path.{◌≡◌, refl, sym, ◌∙◌, ap}
use mathlib.Core.Logic.{◌≢◌}
use mathlib.Core.Bool.{Bool, true, false, not}
use mathlib.Core.List.{List}
use Prim.Native.Nat.{ℕ, ◌≤◌, ◌<◌}
use native.Mathlib.Omega.{arith}
use native.Mathlib.Decide.{dec_lt}
use borrow.Author.Tests.{not-true}
use lib.ListN.{length, get_or-eq_default}
use lib.Seq.{get_or-set_same, get_or-set_other, set_out}
use Rattle.base.proofs.Bools.{never}
use Rattle.graph.specs.Network.{low_end, high_end, kept}
use Rattle.graph.specs.Cut.{Side}
use Rattle.graph.specs.declared.Network.{Network}
use Rattle.connection.specs.Connection.{joined}
use Rattle.connection.specs.Searchable.{Searchable}
use Rattle.connection.specs.Search.{Closed, Least}
use Rattle.connection.proofs.Reaching.{joined-least}
use Rattle.bridges.specs.Bridge.{without, ends_joined, bridge}

-- ── a list without an edge ──

module _ (K : List Bool) (e : ℕ) where
  -- it has the other edges as before, and not this one
  pub without_other : (i : ℕ) → i ≢ e → kept (without K e) i ≡ kept K i
  without_other i ne = get_or-set_other K e i false false ne

  without-same : kept (without K e) e ≡ false
  without-same = elim (dec_lt e (length K)) [
    | yes l ↦ get_or-set_same K e false false l
    | no l ↦
        let out : length K ≤ e = omega arith in
        ap (λ L. kept L e) (set_out K e false out) ∙ get_or-eq_default K false out
  ]

  pub without-differs : (i : ℕ) → kept (without K e) i ≡ true → i ≢ e
  without-differs i h q = never (sym without-same ∙ ap (kept (without K e)) (sym q) ∙ h)

  pub without-kept : (i : ℕ) → kept (without K e) i ≡ true → kept K i ≡ true
  without-kept i h = sym (without_other i (without-differs i h)) ∙ h

-- ── sides that no listed edge leaves ──

-- no listed edge but e leaves the side
abbrev pub Uncrossed : Network → List Bool → ℕ → Side → Type 0
Uncrossed g K e = Closed g.low g.high (without K e) g.edges

module _ (g : Network) (w : Searchable g) where
  -- what is joined is on one side
  pub joined-beside : (K : List Bool) (start v : ℕ) → start < g.vertices → joined g K start v ≡ true
      → (S : Side) → Closed g.low g.high K g.edges S → S start ≡ S v
  joined-beside K start v l h S closed = go (S start) refl
    where
      least : Least g.low g.high K g.edges start (joined g K start)
      least = joined-least g K start w l

      go : (b : Bool) → S start ≡ b → b ≡ S v
      go true q = sym (least.inside S q closed v h)
      go false q =
          let outside : Side = λ u. not (S u) in
          let rest = least.inside outside (ap not q) (λ e k listed. ap not (closed e k listed)) v h in
          sym (not-true (S v) rest)

  module _ (K : List Bool) (e : ℕ) (l : e < g.edges) (listed : kept K e ≡ true) where
    -- a listed edge joins its ends, so it is a bridge if the others do not
    pub bridge-listed : bridge g K e ≡ not (ends_joined g (without K e) e)
    unfolding bridge
    bridge-listed =
        let least = joined-least g K (low_end g e) w (w.low_below e l) in
        let ends : ends_joined g K e ≡ true = sym (least.closed e l listed) ∙ least.holds_start in
        rw (listed, ends)

    -- it is one if a side that no other listed edge leaves parts its ends
    pub parted-bridge : (S : Side) → Uncrossed g K e S → S (low_end g e) ≢ S (high_end g e) → bridge g K e ≡ true
    parted-bridge S closed parted = bridge-listed ∙ go (ends_joined g (without K e) e) refl
      where
        go : (b : Bool) → ends_joined g (without K e) e ≡ b → not b ≡ true
        go true h = absurd (parted (joined-beside (without K e) (low_end g e) _ (w.low_below e l) h S closed))
        go false h = refl

    -- and none if no such side does
    pub united-spared : ((S : Side) → Uncrossed g K e S → S (low_end g e) ≡ S (high_end g e)) → bridge g K e ≡ false
    united-spared united =
        let least = joined-least g (without K e) (low_end g e) w (w.low_below e l) in
        bridge-listed ∙ ap not (sym (united (joined g (without K e) (low_end g e)) least.closed) ∙ least.holds_start)
