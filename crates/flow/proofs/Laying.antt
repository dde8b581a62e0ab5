-- The arcs that are laid for a network carry out of a side as much as edges cross it.
use mathlib.Core.Path.{◌≡◌, refl, sym, ◌∙◌, ap, ap₂}
use mathlib.Core.Bool.{Bool, true, false}
use mathlib.Core.List.{List}
use Prim.Native.Nat.{ℕ, ◌+◌, ◌-◌, ◌<◌}
use native.Mathlib.Omega.{arith}
use borrow.Author.Count.{below_more}
use lib.ListN.{replicate, length-replicate, get_or-replicate}
use Rattle.base.specs.Fold.{sum}
use Rattle.graph.specs.Network.{low_end, high_end}
use Rattle.graph.specs.Cut.{Side, differ, crosses, crossings_of, crossings}
use Rattle.base.specs.Limits.{edge_limit}
use Rattle.graph.specs.declared.Network.{Network}
use Rattle.graph.proofs.Stars.{differ_same}
use Rattle.base.proofs.Sums.{sum-ext, sum-add, sum_zeros, sum-join}
use Rattle.base.specs.Columns.{at}
use Rattle.flow.specs.Arcs.{arc_limit, reverse, LaidTo, Laid, leaving, carried, capacity, Balanced}
use Rattle.flow.proofs.Storing.{stored, length-stored, low-stored, high-stored, same_low, same-high}

-- the edges are laid one by one
pub laid_none : (g : Network) → LaidTo g 0 (replicate arc_limit 0)
laid_none g = record {
  long = length-replicate {A = ℕ} arc_limit 0;
  room = omega arith;
  low = λ e l. absurd (omega arith);
  high = λ e l. absurd (omega arith);
  spare = λ e _ l. get_or-replicate arc_limit e 0 0 (omega arith)
      ∙ sym (get_or-replicate arc_limit (e + edge_limit) 0 0 (omega arith));
}

module _ {g : Network} {edge : ℕ} {ends : List ℕ} (l : LaidTo g edge ends) (h : edge < edge_limit) where
  longer : List ℕ
  longer = stored ends edge (low_end g edge) (high_end g edge)

  pub laid_on : LaidTo g (edge + 1) (stored ends edge (low_end g edge) (high_end g edge))
  unfolding longer
  laid_on = record {
    long = length-stored ends edge _ _ ∙ l.long;
    room = omega arith;
    low = below_more (λ e. at longer e ≡ low_end g e) edge
        (λ e k. same_low ends h _ _ e (λ q. omega arith) (omega arith) ∙ l.low e k) (low-stored ends h _ _ l.long);
    high = below_more (λ e. at longer (e + edge_limit) ≡ high_end g e) edge
        (λ e k. same-high ends h _ _ e (λ q. omega arith) (omega arith) ∙ l.high e k)
        (high-stored ends h _ _ l.long);
    spare = λ e le k. same_low ends h _ _ e (λ q. omega arith) k ∙ l.spare e (omega arith) k
        ∙ sym (same-high ends h _ _ e (λ q. omega arith) k);
  }

-- every arc can carry one unit
abbrev pub ones : List ℕ
ones = replicate arc_limit 1

at_ones : (p : ℕ) → p < arc_limit → at ones p ≡ 1
at_ones p l = get_or-replicate arc_limit p 1 0 l

pub balanced-ones : Balanced ones
balanced-ones = record {
  long = length-replicate {A = ℕ} arc_limit 1;
  paired = λ p l. omega (arith, at_ones p l, at_ones (reverse p) (omega arith));
}

both_ways : (x y : Bool) → leaving x y 1 + leaving y x 1 ≡ differ x y
unfolding leaving differ
both_ways true true = refl
both_ways true false = refl
both_ways false true = refl
both_ways false false = refl

module _ {g : Network} {ends : List ℕ} (l : Laid g ends) (S : Side) where
  -- what an arc carries out of the side, and what an edge's two arcs carry together
  out : ℕ → ℕ
  out p = carried ends S p 1

  across : ℕ → ℕ
  across e = differ (S (at ends e)) (S (at ends (e + edge_limit)))

  out_both : (e : ℕ) → e < edge_limit → out e + out (edge_limit + e) ≡ across e
  unfolding out across
  out_both e h =
      let forth : reverse e ≡ e + edge_limit = omega arith in
      let back : reverse (edge_limit + e) ≡ e = omega arith in
      let far : edge_limit + e ≡ e + edge_limit = omega arith in
      rw (forth, back, far) (both_ways (S (at ends e)) (S (at ends (e + edge_limit))))

  across-edge : (e : ℕ) → e < g.edges → across e ≡ crosses g S e
  unfolding across crosses
  across-edge e h = ap₂ (λ u v. differ (S u) (S v)) (l.low e h) (l.high e h)

  across-spare : (e : ℕ) → e < edge_limit - g.edges → across (g.edges + e) ≡ 0
  unfolding across
  across-spare e h = rw (l.spare (g.edges + e) (omega arith) (omega (arith, l.room))) (differ_same _)

  -- at the start an edge that crosses a side has one arc out of it, and an edge that does not has none
  pub capacity-ones : capacity ends ones S ≡ crossings g S
  unfolding capacity crossings_of out
  capacity-ones =
      let all = sum-ext arc_limit (λ p. carried ends S p (at ones p)) out (λ p h. ap (carried ends S p) (at_ones p h)) in
      let halves = sum-join edge_limit edge_limit out in
      let pairs = sum-add edge_limit out (λ e. out (edge_limit + e)) in
      let edges = sum-ext edge_limit (λ e. out e + out (edge_limit + e)) across out_both in
      let beyond : ℕ → ℕ = λ e. across (g.edges + e) in
      let rest = edge_limit - g.edges in
      let whole : g.edges + rest ≡ edge_limit = omega (arith, l.room) in
      let parts = ap (λ n. sum n across) (sym whole) ∙ sum-join g.edges rest across in
      let counted = sum-ext g.edges across (crosses g S) across-edge in
      let spare = sum-ext rest beyond (λ _. 0) across-spare ∙ sum_zeros rest in
      omega arith
