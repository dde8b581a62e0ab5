-- A partner at an end of the reserved edge, with the two others.
use Rattle.std.specs.Prelude.{true, [], ◌∷◌, ◌≡◌, ℕ, ◌≤◌}
use Rattle.base.specs.Fold.{among, without}
use Rattle.graph.specs.Network.{touches}
use Rattle.graph.specs.Sound.{Sound, Light}
use Rattle.graph.specs.Split.{partners}
use Rattle.graph.specs.declared.Network.{Network}

-- v is an end of the reserved edge of a sound network, and x a
-- partner there; y and z are the other two, in rising order
pub record Partnered (g : Network) (v x y z : ℕ) : Type 0 where
  pub sound : Sound g
  pub light : Light g
  pub several : 2 ≤ g.remaining
  pub at_end : touches g v g.reserved ≡ true
  pub partner : among x (partners g v) ≡ true
  pub others : without x (partners g v) ≡ y ∷ z ∷ []
