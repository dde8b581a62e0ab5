-- The computed test over all sides of n vertices says what the statement over every side says.
use mathlib.Core.Path.{◌≡◌, refl, sym, ◌∙◌, ap, ap₂}
use mathlib.Core.Bool.{Bool, true, false, not, cond, ◌&&◌, ◌||◌}
use mathlib.Core.List.{List, [], ◌∷◌}
use Prim.Native.Nat.{ℕ, zero, suc, ◌<◌}
use native.Mathlib.Omega.{arith}
use lib.Dec.{leb, leb→le}
use lib.ListN.{length, get_or}
use borrow.Author.Tests.{leb-false}
use Rattle.base.specs.Fold.{tabulate}
use Rattle.graph.specs.Network.{low_end, high_end}
use Rattle.graph.specs.Cut.{Side, differ, crosses, crossings_of, Divides, EveryCutOf, every_side, somewhere, side_of}
use Rattle.graph.specs.Cut.{crossed_by, every_cut_of}
use Rattle.graph.specs.Sound.{Formed}
use Rattle.graph.specs.declared.Network.{Network}
use Rattle.base.proofs.Bools.{never, true-T, and_left, and_right, unless-false}
use Rattle.base.proofs.Sums.{sum-ext, tabulate-length, tabulate-at}

every-at : (n : ℕ) (p : List Bool → Bool) → every_side n p ≡ true → (d : List Bool) → length d ≡ n → p d ≡ true
unfolding every_side
every-at zero p h [] l = h
every-at zero p h (b ∷ d) l = absurd (omega arith)
every-at (suc n) p h [] l = absurd (omega arith)
every-at (suc n) p h (true ∷ d) l = every-at n (λ d. p (true ∷ d)) (and_left _ _ h) d (omega arith)
every-at (suc n) p h (false ∷ d) l =
    every-at n (λ d. p (false ∷ d)) (and_right (every_side n (λ d. p (true ∷ d))) _ h) d (omega arith)

every-fails : (n : ℕ) (p : List Bool → Bool) → every_side n p ≡ false → (d : List Bool) × (length d ≡ n) × (p d ≡ false)
unfolding every_side
every-fails zero p h = ([], refl, h)
every-fails (suc n) p h =
    go (every_side n (λ d. p (true ∷ d))) refl (every-fails n (λ d. p (true ∷ d))) (every-fails n (λ d. p (false ∷ d)))
  where
    go : (t : Bool) → every_side n (λ d. p (true ∷ d)) ≡ t
        → (every_side n (λ d. p (true ∷ d)) ≡ false → (d : List Bool) × (length d ≡ n) × (p (true ∷ d) ≡ false))
        → (every_side n (λ d. p (false ∷ d)) ≡ false → (d : List Bool) × (length d ≡ n) × (p (false ∷ d) ≡ false))
        → (d : List Bool) × (length d ≡ suc n) × (p d ≡ false)
    go false e f g = let w = f e in (true ∷ w.0, ap suc w.1, w.2)
    go true e f g = let w = g (rw e at h) in (false ∷ w.0, ap suc w.1, w.2)

somewhere-out : (t : Bool) (hs d : List Bool) → somewhere t hs d ≡ true
    → (v : ℕ) × (get_or hs v false ≡ true) × (get_or d v false ≡ t)
unfolding somewhere
somewhere-out t [] d h = never h
somewhere-out t (p ∷ ps) [] h = never h
somewhere-out true (true ∷ ps) (true ∷ ds) h = (0, refl, refl)
somewhere-out true (true ∷ ps) (false ∷ ds) h = let w = somewhere-out true ps ds h in (suc w.0, w.1, w.2)
somewhere-out false (true ∷ ps) (true ∷ ds) h = let w = somewhere-out false ps ds h in (suc w.0, w.1, w.2)
somewhere-out false (true ∷ ps) (false ∷ ds) h = (0, refl, refl)
somewhere-out t (false ∷ ps) (d ∷ ds) h = let w = somewhere-out t ps ds h in (suc w.0, w.1, w.2)

somewhere-in : (t : Bool) (hs d : List Bool) (v : ℕ) → v < length d → get_or hs v false ≡ true → get_or d v false ≡ t
    → somewhere t hs d ≡ true
unfolding somewhere
somewhere-in t [] d v l h e = h
somewhere-in t (p ∷ ps) [] v l h e = absurd (omega arith)
somewhere-in true (true ∷ ps) (true ∷ ds) v l h e = refl
somewhere-in true (true ∷ ps) (false ∷ ds) zero l h e = never e
somewhere-in true (true ∷ ps) (false ∷ ds) (suc v) l h e = somewhere-in true ps ds v (omega arith) h e
somewhere-in false (true ∷ ps) (true ∷ ds) zero l h e = never (sym e)
somewhere-in false (true ∷ ps) (true ∷ ds) (suc v) l h e = somewhere-in false ps ds v (omega arith) h e
somewhere-in false (true ∷ ps) (false ∷ ds) v l h e = refl
somewhere-in t (false ∷ ps) (d ∷ ds) zero l h e = never h
somewhere-in t (false ∷ ps) (d ∷ ds) (suc v) l h e = somewhere-in t ps ds v (omega arith) h e

-- sides that agree on the vertices are crossed alike
pub crossings-agree : {g : Network} → Formed g → (K : ℕ → Bool) (S U : Side) → ((v : ℕ) → v < g.vertices → S v ≡ U v)
    → crossings_of g K S ≡ crossings_of g K U
unfolding crossings_of crosses
crossings-agree {g} f K S U h =
    sum-ext g.edges (λ e. cond (K e) (crosses g S e) 0) (λ e. cond (K e) (crosses g U e) 0)
    (λ e l. ap (λ k. cond (K e) k 0)
    (ap₂ differ (h (low_end g e) (f.low_below e l)) (h (high_end g e) (f.high_below e l))))

-- a cut in any side is one in the list of its parts below n, which the test tries; only vertices below n are ends
pub every-cut-sound : (k : ℕ) {g : Network} (K : ℕ → Bool) → Formed g → every_cut_of k g K ≡ true → EveryCutOf k g K
unfolding every_cut_of crossed_by
every-cut-sound k {g} K f h S w =
    let n = g.vertices in
    let d = tabulate n S in
    let at : (v : ℕ) → v < n → get_or d v false ≡ S v = λ v l. tabulate-at n S false v l in
    let i< = f.here_below w.inner w.inner_here in
    let o< = f.here_below w.outer w.outer_here in
    let len = tabulate-length n S in
    let i : somewhere true g.present d ≡ true =
    somewhere-in true g.present d w.inner (omega arith) w.inner_here (at w.inner i< ∙ w.inner_in) in
    let o : somewhere false g.present d ≡ true =
    somewhere-in false g.present d w.outer (omega arith) w.outer_here (at w.outer o< ∙ w.outer_out) in
    let c : crossed_by k g K d ≡ true = every-at n (crossed_by k g K) h d len in
    omega (arith, leb→le k (crossings_of g K (side_of d)) (true-T (rw (i, o) at c)), crossings-agree f K (side_of d) S at)

-- a cut that speaks against the test
pub every-cut-fails : (k : ℕ) (g : Network) (K : ℕ → Bool) → every_cut_of k g K ≡ false
    → (S : Side) × Divides g S × (crossings_of g K S < k)
unfolding every_cut_of crossed_by
every-cut-fails k g K h =
    let w = every-fails g.vertices (crossed_by k g K) h in
    let d = w.0 in
    go d (somewhere true g.present d) (somewhere false g.present d) (leb k (crossings_of g K (side_of d))) refl refl
    refl w.2
  where
    go : (d : List Bool) (t f l : Bool) → somewhere true g.present d ≡ t → somewhere false g.present d ≡ f
        → leb k (crossings_of g K (side_of d)) ≡ l
        → (not (t && f) || l) ≡ false → (S : Side) × Divides g S × (crossings_of g K S < k)
    go d true true false p q e h =
        let i = somewhere-out true g.present d p in
        let o = somewhere-out false g.present d q in (
          side_of d,
          record {
            inner = i.0;
            outer = o.0;
            inner_here = i.1;
            outer_here = o.1;
            inner_in = i.2;
            outer_out =
                o.2;
          },
          omega (arith, leb-false k (crossings_of g K (side_of d)) e),
        )
    go d true true true p q e h = never (sym h)
    go d true false l p q e h = never (sym h)
    go d false f l p q e h = never (sym h)

-- where the test fails there is a cut that speaks against it
pub every-cut-complete : (k : ℕ) (g : Network) (K : ℕ → Bool) → EveryCutOf k g K → every_cut_of k g K ≡ true
every-cut-complete k g K c =
    unless-false (every_cut_of k g K) (λ e. let w = every-cut-fails k g K e in omega (arith, w.2, c w.0 w.1))
