-- The tally of degrees, edge by edge.
use mathlib.Core.List.{List}
use mathlib.Core.Path.{◌≡◌, refl, sym, ap, ◌∙◌}
use mathlib.Core.Bool.{Bool}
use Prim.Native.Nat.{ℕ, zero, suc, ◌+◌, ◌*◌, ◌≤◌, ◌<◌}
use native.Mathlib.Decide.{ℕ_discrete, dec_lt}
use native.Mathlib.Numerals.{add-one}
use native.Mathlib.Omega.{arith}
use borrow.Author.Tests.{eq-eqb, ne_eqb}
use lib.Dec.{eqb}
use lib.ListN.{length, get_or, take, length-set, replicate, get_or-eq_default}
use lib.Seq.{ext_get_or, get_or-set_same, get_or-set_other}
use Rattle.std.specs.List.{list_all}
use Rattle.std.proofs.lemmas.List.Folds.{list_all_more}
use Rattle.base.specs.Fold.{fold, each, bit, tabulate}
use Rattle.graph.specs.Network.{low_end, high_end, ends_at, degree}
use Rattle.graph.specs.Cut.{four_each}
use Rattle.base.specs.Limits.{vertex_limit}
use Rattle.incidence.specs.Degrees.{degrees_of, degrees_among, end_counted}
use Rattle.graph.specs.declared.Network.{Network}
use Rattle.base.proofs.Bools.{bit-low}
use Rattle.base.proofs.Sums.{fold_more, fold-ext, sum_bound, tabulate-length, tabulate-at}

-- ── any tally ──

-- one more end at i raises entry i by one, and no other
pub counted-at : (tally : List ℕ) (i v : ℕ) → v < length tally
    → get_or (end_counted tally i) v 0 ≡ get_or tally v 0 + bit (eqb i v)
counted-at tally i v l = elim (ℕ_discrete i v) [
  | yes e ↦ (rw (e, eq-eqb v v refl) (get_or-set_same tally v (get_or tally v 0 + 1) 0 l))
  | no n ↦ (rw (ne_eqb i v n) (get_or-set_other tally i v (get_or tally i 0 + 1) 0 (λ e. n (sym e)) ∙ omega arith))
]

-- a test of each of the first numbers of a list
pub each-first : (test : ℕ → Bool) (n : ℕ) (xs : List ℕ) → n ≤ length xs
    → list_all test (take n xs) ≡ each n (λ i. test (get_or xs i 0))
unfolding fold
each-first test zero xs h = refl
each-first test (suc n) xs h =
    rw (sym (add-one n), list_all_more test xs n 0 (omega arith), each-first test n xs (omega arith)) refl

-- a tally that has f of each vertex
module _ (f : ℕ → ℕ) where
  pub tally-below : (k : ℕ) → ((v : ℕ) → f v ≤ k) → (v : ℕ) → get_or (tabulate vertex_limit f) v 0 ≤ k
  tally-below k below v = elim (dec_lt v vertex_limit) [
    | yes l ↦ rw (tabulate-at vertex_limit f 0 v l) (below v)
    | no o ↦
        let out : vertex_limit ≤ v = omega arith in
        rw (get_or-eq_default (tabulate vertex_limit f) 0 {n = v} (rw (tabulate-length vertex_limit f) out))
        (omega arith)
  ]

  -- with both ends of one more edge counted it has g, which says one more for each end
  pub tally-next : (g : ℕ → ℕ) (a b : ℕ) → ((v : ℕ) → g v ≡ f v + bit (eqb a v) + bit (eqb b v))
      → end_counted (end_counted (tabulate vertex_limit f) a) b ≡ tabulate vertex_limit g
  tally-next g a b more =
      ext_get_or 0 _ _ (simp (length-set, tabulate-length)) (λ v l. at v (simp (length-set, tabulate-length) at l))
    where
      once : List ℕ
      once = end_counted (tabulate vertex_limit f) a

      at : (v : ℕ) → v < vertex_limit → get_or (end_counted once b) v 0 ≡ get_or (tabulate vertex_limit g) v 0
      at v l =
          counted-at once b v (simp (length-set, tabulate-length) l)
          ∙ ap (λ n. n + bit (eqb b v)) (counted-at (tabulate vertex_limit f) a v (simp tabulate-length l))
          ∙ rw (tabulate-at vertex_limit f 0 v l, tabulate-at vertex_limit g 0 v l, more v)

-- ── the tally of a network's edges ──
module _ (g : Network) where
  -- each edge has two ends
  pub degrees-below : (k v : ℕ) → get_or (degrees_among g k) v 0 ≤ k * 2
  unfolding degrees_among ends_at
  degrees-below k =
      tally-below _ (k * 2)
      (λ v. sum_bound k 2 (ends_at g v)
      (λ e l. omega (arith, bit-low (eqb (low_end g e) v), bit-low (eqb (high_end g e) v))))

  pub no_edge : replicate vertex_limit 0 ≡ degrees_among g 0
  unfolding degrees_among tabulate fold
  no_edge = refl

  -- the tally among the first k edges with both ends of edge k counted is the tally among the first k + 1
  pub one-more-edge : (k : ℕ)
      → end_counted (end_counted (degrees_among g k) (low_end g k)) (high_end g k) ≡ degrees_among g (k + 1)
  unfolding degrees_among ends_at
  one-more-edge k =
      tally-next _ _ (low_end g k) (high_end g k) (λ v. rw fold_more (omega arith))

  -- with every edge counted, the tally has the degrees
  pub all_edges : degrees_among g g.edges ≡ degrees_of g
  unfolding degrees_among degree
  all_edges = refl

  pub four-in-tally : g.vertices ≤ vertex_limit
      → each g.vertices (λ v. eqb (get_or (degrees_of g) v 0) 4) ≡ four_each g
  unfolding four_each
  four-in-tally room =
      fold-ext _ _ g.vertices _ _ (λ v l. ap (λ d. eqb d 4) (tabulate-at vertex_limit (degree g) 0 v (omega arith)))
