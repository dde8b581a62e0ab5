-- Partners, splitting off a vertex, and admissible partners.
use Rattle.std.specs.Prelude.{Bool, false, not, ◌&&◌, List, ℕ, ◌-◌, eqb, get_or, set, ℤ, pos, ◌-ℤ◌}
use Rattle.base.specs.Fold.{pick, without}
use Rattle.graph.specs.Network.{cost_of, touches, far}
use Rattle.graph.specs.Cut.{EveryCut, every_cut}
use Rattle.graph.specs.declared.Network.{Network}
use Rattle.graph.specs.declared.Step.{Step}

-- an edge other than the reserved one that ends at v
unfoldable pub is_partner : Network → ℕ → ℕ → Bool
is_partner g v e = touches g v e && not (eqb e g.reserved)

-- the partners at v, in rising order
unfoldable pub partners : Network → ℕ → List ℕ
partners g v = pick g.edges 0 (is_partner g v)

-- a column of ends after a split: r and z end elsewhere, x and y are loops at v
abbrev pub split_ends : List ℕ → ℕ → ℕ → ℕ → ℕ → ℕ → ℕ → ℕ → List ℕ
split_ends column r newR z newZ x y v = set (set (set (set column r newR) z newZ) x v) y v

-- what z costs after a split, from the costs of x, y and z before it: c(z) - c(x)
abbrev pub cost_after : ℤ → ℤ → ℤ → ℤ
cost_after cx cy cz = cz -ℤ cx

-- the costs after a split: z's new one, and nothing for retired edges
abbrev pub split_costs : List ℤ → ℕ → ℕ → ℕ → List ℤ
split_costs costs x y z =
    set (set (set costs z (cost_after (get_or costs x (pos 0)) (get_or costs y (pos 0)) (get_or costs z (pos 0)))) x (pos 0)) y
    (pos 0)

-- splitting off v with partner x, the others being y and z: the reserved edge runs on to the far end of x,
-- z runs from the far end of y to its own, x and y retire, and v leaves
unfoldable pub split : Network → ℕ → ℕ → ℕ → ℕ → Network
split g v x y z =
    let r = g.reserved in
    record {
      low = split_ends g.low r (far g v r) z (far g v y) x y v;
      high = split_ends g.high r (far g v x) z (far g v z) x y v;
      cost = split_costs g.cost x y z;
      present = set g.present v false;
      reserved = r;
      edges = g.edges;
      vertices = g.vertices;
      remaining = g.remaining - 1;
    }

-- splitting off v with partner x, the other two in rising order
unfoldable pub split_with : Network → ℕ → ℕ → Network
split_with g v x = let others = without x (partners g v) in split g v x (get_or others 0 0) (get_or others 1 0)

-- document 01: admissible. After splitting with partner x every cut is crossed by at least four
abbrev pub Admissible : Network → ℕ → ℕ → Type 0
Admissible g v x = EveryCut 4 (split_with g v x)

-- the same as a test that computes
unfoldable pub admissible : Network → ℕ → ℕ → Bool
admissible g v x = every_cut 4 (split_with g v x)

-- the third partner at v, beside x and y
unfoldable pub third : Network → ℕ → ℕ → ℕ → ℕ
third g v x y = get_or (without y (without x (partners g v))) 0 0

-- the step at v with x, y and z, with what z costs after it
abbrev pub step_with : Network → ℕ → ℕ → ℕ → ℕ → Step
step_with g v x y z = record { v = v; x = x; y = y; z = z; cost = cost_after (cost_of g x) (cost_of g y) (cost_of g z) }

-- the step at v with x and y, and with what it gives: the third partner as z, and its cost
abbrev pub step_given : Network → ℕ → ℕ → ℕ → Step
step_given g v x y = step_with g v x y (third g v x y)

-- the network after a step
unfoldable pub after : Network → Step → Network
after g t = split g t.v t.x t.y t.z

-- a step with x and y exchanged: it splits with y, and x retires with it
abbrev pub swapped : Step → Step
swapped t = record { v = t.v; x = t.y; y = t.x; z = t.z; cost = t.cost }
