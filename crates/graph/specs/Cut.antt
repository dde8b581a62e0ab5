-- Cuts (document 01: divisions), crossing counts, and when a network is accepted.
use Rattle.std.specs.Prelude.{Bool, true, false, not, cond, ◌&&◌, ◌||◌, List, [], ◌∷◌, ◌≡◌, ℕ, zero, suc, ◌≤◌, eqb, leb, get_or}
use Rattle.std.specs.Bool.{beq}
use Rattle.base.specs.Refusals.{DEGREE, CUT}
use Rattle.base.specs.Fold.{sum, each}
use Rattle.graph.specs.Network.{low_end, high_end, here, degree, kept}
use Rattle.graph.specs.declared.Network.{Network}

-- one part of a cut: the vertices of which it is true
abbrev pub Side : Type 0
Side = ℕ → Bool

-- 1 where two parts differ
unfoldable pub differ : Bool → Bool → ℕ
differ true true = 0
differ true false = 1
differ false true = 1
differ false false = 0

-- 1 for an edge that crosses: its ends lie in different parts
unfoldable pub crosses : Network → Side → ℕ → ℕ
crosses g S e = differ (S (low_end g e)) (S (high_end g e))

-- how many edges of a set cross
unfoldable pub crossings_of : Network → (ℕ → Bool) → Side → ℕ
crossings_of g K S = sum g.edges (λ e. cond (K e) (crosses g S e) 0)

abbrev pub crossings : Network → Side → ℕ
crossings g S = crossings_of g (λ e. true) S

abbrev pub kept_crossings : Network → List Bool → Side → ℕ
kept_crossings g K S = crossings_of g (kept K) S

-- a side with a present vertex in either part makes a cut
pub record Divides (g : Network) (S : Side) : Type 0 where
  pub inner : ℕ
  pub outer : ℕ
  pub inner_here : here g inner ≡ true
  pub outer_here : here g outer ≡ true
  pub inner_in : S inner ≡ true
  pub outer_out : S outer ≡ false

-- every cut is crossed by at least k edges of a set
abbrev pub EveryCutOf : ℕ → Network → (ℕ → Bool) → Type 0
EveryCutOf k g K = (S : Side) → Divides g S → k ≤ crossings_of g K S

abbrev pub EveryCut : ℕ → Network → Type 0
EveryCut k g = EveryCutOf k g (λ e. true)

-- The same as a test that computes, over all sides of n vertices.
-- p of every list of n parts
unfoldable pub every_side : ℕ → (List Bool → Bool) → Bool
every_side zero p = p []
every_side (suc n) p = every_side n (λ d. p (true ∷ d)) && every_side n (λ d. p (false ∷ d))

-- a present vertex lies in part t
unfoldable pub somewhere : Bool → List Bool → List Bool → Bool
somewhere t (h ∷ hs) (d ∷ ds) = h && beq t d || somewhere t hs ds
somewhere t [] ds = false
somewhere t (h ∷ hs) [] = false

abbrev pub side_of : List Bool → Side
side_of d v = get_or d v false

unfoldable pub crossed_by : ℕ → Network → (ℕ → Bool) → List Bool → Bool
crossed_by k g K d = not (somewhere true g.present d && somewhere false g.present d) || leb k
    (crossings_of g K (side_of d))

unfoldable pub every_cut_of : ℕ → Network → (ℕ → Bool) → Bool
every_cut_of k g K = every_side g.vertices (crossed_by k g K)

abbrev pub every_cut : ℕ → Network → Bool
every_cut k g = every_cut_of k g (λ e. true)

-- every vertex has degree 4
unfoldable pub four_each : Network → Bool
four_each g = each g.vertices (λ v. eqb (degree g v) 4)

-- the refusal of a network that reads, 0 where it is accepted: 6 for a degree, 7 for a cut
unfoldable pub network_refusal : Network → ℕ
network_refusal g = let seven : ℕ = cond (every_cut 4 g) 0 CUT in cond (four_each g) seven DEGREE
