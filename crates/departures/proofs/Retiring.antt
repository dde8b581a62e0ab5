-- Which edges are left in the network of a chain: a step's x and y retire at it, and nothing else does.
use mathlib.Core.Path.{◌≡◌, refl, sym}
use mathlib.Core.Logic.{◌≢◌}
use mathlib.Core.Bool.{Bool, true}
use mathlib.Core.List.{List, ◌∷◌}
use Prim.Native.Nat.{ℕ, ◌+◌, ◌<◌}
use lib.ListN.{length}
use native.Mathlib.Omega.{arith}
use Rattle.graph.specs.Network.{low_end, here}
use Rattle.graph.specs.Split.{split, after}
use Rattle.graph.specs.Chain.{ByRules, ending, step}
use Rattle.graph.specs.Sound.{Sound}
use Rattle.graph.specs.declared.Network.{Network}
use Rattle.graph.specs.declared.Step.{Step}
use Rattle.graph.proofs.Splitting.{runs-low, far-here, live-before, live-after}
use Rattle.graph.proofs.Rules.{Stepped, stepped, sound-step}

-- an edge that is not retired
abbrev pub live : Network → ℕ → Bool
live g e = here g (low_end g e)

module _ {g : Network} {t : Step} (sound : Sound g) (w : Stepped g t) where
  pub was-live : (e : ℕ) → e < g.edges → live (after g t) e ≡ true → (e ≢ t.x) × (e ≢ t.y) × (live g e ≡ true)
  unfolding after
  was-live = live-before sound w.at w.v_here

  pub stays-live : (e : ℕ) → e < g.edges → live g e ≡ true → e ≢ t.x → e ≢ t.y → live (after g t) e ≡ true
  unfolding after
  stays-live = live-after sound w.at w.v_here

  -- the edges that a step names are not retired before it
  pub x-live : live g t.x ≡ true
  x-live = runs-low w.at.to_a w.v_here (far-here sound w.at w.v_here w.at.four.x< w.at.to_a)

  pub y-live : live g t.y ≡ true
  y-live = runs-low w.at.to_b w.v_here (far-here sound w.at w.v_here w.at.four.y< w.at.to_b)

  pub z-live : live g t.z ≡ true
  z-live = runs-low w.at.to_c w.v_here (far-here sound w.at w.v_here w.at.four.z< w.at.to_c)

  -- and z is not after it
  pub z-stays : live (after g t) t.z ≡ true
  z-stays = stays-live t.z w.at.four.z< z-live (λ q. w.at.four.xz (sym q)) (λ q. w.at.four.yz (sym q))

-- the edges are those of the network before a step
pub edges-stay : (g : Network) (t : Step) → (after g t).edges ≡ g.edges
unfolding after split
edges-stay g t = refl

-- the edge that an ending drops was never retired
pub dropped-live : {g : Network} {ts : List Step} {d : ℕ} → Sound g → ByRules g ts d → (d < g.edges) × (live g d ≡ true)
dropped-live sound (ending two r) = (r.one.number, r.one.not_retired)
dropped-live {g} {ts = t ∷ ts} {d = d} sound (step more r rest) =
    let w = stepped sound (omega arith) t r in
    let later = dropped-live (sound-step sound t w) rest in
    let l : d < g.edges = rw (edges-stay g t) at later.0 in
    (l, (was-live sound w d l later.1).2)

-- a chain has a step for each vertex but two
pub steps-counted : {g : Network} {ts : List Step} {d : ℕ} → ByRules g ts d → length ts + 2 ≡ g.remaining
unfolding after split
steps-counted (ending two r) = omega arith
steps-counted (step more r rest) = omega (arith, steps-counted rest)
