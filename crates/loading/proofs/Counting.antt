-- The tally of edges, one by one: what one more edge adds, and that the tally of a network's edges has its degrees.
use mathlib.Core.Bool.{Bool, true, false, ◌||◌}
use mathlib.Core.List.{List, [], ◌∷◌, ◌++◌, map}
use mathlib.Core.Path.{◌≡◌, refl, sym, ◌∙◌}
use Prim.Native.Nat.{ℕ, ◌+◌, ◌*◌, ◌≤◌, ◌<◌}
use native.Mathlib.Omega.{arith}
use borrow.Author.Tests.{eqb-true}
use lib.Dec.{eqb}
use lib.ListN.{length, get_or, replicate, length-map}
use lib.IntN.{pos}
use Rattle.base.specs.Columns.{at}
use Rattle.base.specs.Fold.{sum, bit, tabulate, fold}
use Rattle.base.specs.Limits.{vertex_limit}
use Rattle.base.proofs.Bools.{bit-low}
use Rattle.base.proofs.Parts.{over-at}
use Rattle.base.proofs.Sums.{sum-ext, sum_first, tabulate-length, tabulate-at, tabulate-is}
use Rattle.frame.specs.declared.kinds.Edge.{Edge}
use Rattle.graph.specs.Network.{low_end, high_end, cost_of, ends_at, degree, touches}
use Rattle.graph.specs.declared.Network.{Network}
use Rattle.incidence.specs.Degrees.{degrees_of, end_counted}
use Rattle.incidence.proofs.Tally.{tally-below, tally-next}
use Rattle.network_text.specs.Text.{Valid, meaning_of}
use Rattle.loading.specs.Loading.{state_of, no_ends, no_costs, network_of}
use Rattle.loading.specs.Pass.{edges_at, tally_of}

-- an edge with two ends is counted once for each
two_ends : (a b v : ℕ) → a < b → bit (eqb a v || eqb b v) ≡ bit (eqb a v) + bit (eqb b v)
two_ends a b v l = go (eqb a v) refl (eqb b v) refl
  where
    go : (p : Bool) → eqb a v ≡ p → (q : Bool) → eqb b v ≡ q → bit (p || q) ≡ bit p + bit q
    go true x true y = absurd (omega (arith, eqb-true a v x, eqb-true b v y))
    go true x false y = refl
    go false x true y = refl
    go false x false y = refl

-- one more edge
at_next : (v : ℕ) (es : List Edge) (e : Edge) → e.lower < e.higher
    → edges_at v (es ++ (e ∷ [])) ≡ edges_at v es + bit (eqb e.lower v) + bit (eqb e.higher v)
unfolding edges_at
at_next v [] e l = rw (two_ends e.lower e.higher v l) (omega arith)
at_next v (a ∷ es) e l = rw (at_next v es e l) (omega arith)

pub counted_none : replicate vertex_limit 0 ≡ tally_of []
unfolding tally_of tabulate edges_at
counted_none = refl

pub counted_next : (es : List Edge) (e : Edge) → e.lower < e.higher
    → end_counted (end_counted (tally_of es) e.lower) e.higher ≡ tally_of (es ++ (e ∷ []))
unfolding tally_of
counted_next es e l =
    tally-next (λ v. edges_at v es) (λ v. edges_at v (es ++ (e ∷ []))) e.lower e.higher (λ v. at_next v es e l)

-- no vertex is at more edges than there are
at_most : (v : ℕ) (es : List Edge) → edges_at v es ≤ length es
unfolding edges_at
at_most v [] = omega arith
at_most v (e ∷ es) = omega (arith, at_most v es, bit-low (eqb e.lower v || eqb e.higher v))

pub counted-most : (es : List Edge) (v : ℕ) → get_or (tally_of es) v 0 ≤ length es
unfolding tally_of
counted-most es = tally-below (λ v. edges_at v es) (length es) (λ v. at_most v es)

-- ── the tally of the edges of a network ──

-- how many of some edges are at a vertex, by their columns
columns-sum : (v : ℕ) (es : List Edge)
    → edges_at v es
    ≡ sum (length es)
    (λ i. bit (eqb (get_or (map (λ e. e.lower) es) i 0) v || eqb (get_or (map (λ e. e.higher) es) i 0) v))
unfolding edges_at fold
columns-sum v [] = refl
columns-sum v (e ∷ es) = rw (columns-sum v es) (sym (sum_first (length es) _))

module _ (n r : ℕ) (es : List Edge) where
  -- the network that has these edges, each at its number
  abbrev g : Network
  g = network_of (meaning_of n r es)

  pub low_read : (i : ℕ) → i < length es → low_end g i ≡ get_or (map (λ e. e.lower) es) i 0
  unfolding network_of meaning_of state_of
  low_read i l = over-at (map (λ e. e.lower) es) no_ends 0 i (rw length-map l)

  pub high_read : (i : ℕ) → i < length es → high_end g i ≡ get_or (map (λ e. e.higher) es) i 0
  unfolding network_of meaning_of state_of
  high_read i l = over-at (map (λ e. e.higher) es) no_ends 0 i (rw length-map l)

  pub cost-read : (i : ℕ) → i < length es → cost_of g i ≡ get_or (map (λ e. e.cost) es) i (pos 0)
  unfolding network_of meaning_of state_of
  cost-read i l = over-at (map (λ e. e.cost) es) no_costs (pos 0) i (rw length-map l)

  touched : (v : ℕ) → edges_at v es ≡ sum (length es) (λ e. bit (touches g v e))
  unfolding touches
  touched v = columns-sum v es ∙ sum-ext (length es) _ _ (λ i l. rw (low_read i l, high_read i l))

  pub counted-at : (v : ℕ) → v < vertex_limit → at (tally_of es) v ≡ sum (length es) (λ e. bit (touches g v e))
  unfolding tally_of
  counted-at v l = tabulate-at vertex_limit (λ w. edges_at w es) 0 v l ∙ touched v

  -- all edges that are due
  module _ (s : Valid (meaning_of n r es)) where
    count : length es ≡ 2 * n
    unfolding meaning_of
    count = sym (length-map es (λ e. e.lower)) ∙ s.low_count

    rises : (i : ℕ) → i < length es → low_end g i < high_end g i
    unfolding meaning_of
    rises i l = rw (low_read i l, high_read i l) (s.rising i (omega (arith, count)))

    edges_are : g.edges ≡ length es
    unfolding network_of state_of meaning_of
    edges_are = sym count

    degree-is : (v : ℕ) → sum (length es) (λ e. bit (touches g v e)) ≡ degree g v
    unfolding degree ends_at touches
    degree-is v =
        rw edges_are (sum-ext (length es) _ _ (λ i l. two_ends (low_end g i) (high_end g i) v (rises i l)))

    -- their tally has the degrees
    pub all-counted : tally_of es ≡ degrees_of g
    unfolding tally_of
    all-counted =
        tabulate-is vertex_limit (degree g) 0 (tabulate vertex_limit (λ v. edges_at v es))
        (tabulate-length vertex_limit (λ v. edges_at v es))
        (λ v l. tabulate-at vertex_limit (λ w. edges_at w es) 0 v l ∙ touched v ∙ degree-is v)
