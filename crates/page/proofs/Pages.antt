-- Pages of a known network: the lines of its edges, how long a page is, and the sum on its last line.
use mathlib.Core.Path.{◌≡◌, refl, sym, ◌∙◌, ap}
use mathlib.Core.Bool.{Bool, true, false}
use mathlib.Core.List.{List, [], ◌∷◌, ◌++◌}
use Prim.Native.Nat.{ℕ, ◌+◌, ◌*◌, ◌-◌, ◌≤◌, ◌<◌}
use native.Mathlib.Omega.{arith}
use native.Mathlib.Nat.{mul-le-mul_right}
use lib.ListN.{length, length-append}
use lib.IntN.{ℤ, nat_abs, pos, ◌+ℤ◌, +ℤ_idr}
use mir.Syntax.{w64}
use mir.Val.{to_z, of_z}
use Rattle.base.specs.Answer.{over}
use Rattle.base.specs.Columns.{at}
use Rattle.base.specs.Fold.{pick, sumℤ}
use Rattle.base.specs.Limits.{edge_limit, cost_limit}
use Rattle.base.specs.Words.{AllBelow}
use Rattle.base.proofs.Integers.{sumℤ-size, read_back}
use Rattle.base.proofs.Picks.{rising-below, pick-kept, pick_other, pick-rises, fold-picked}
use Rattle.base.proofs.Sums.{sum_bound}
use Rattle.base.proofs.Words.{below_at}
use Rattle.base.proofs.Writing.{Written, written_last, written-size, written-front}
use Rattle.costs.proofs.Totals.{kept_small}
use Rattle.decimal.specs.BaseTen.{fits}
use Rattle.graph.specs.Network.{low_end, high_end, cost_of, cost_over, kept_cost}
use Rattle.graph.specs.declared.Network.{Network}
use Rattle.kept_text.specs.Text.{is_kept, kept_edges}
use Rattle.kept_text.proofs.Texts.{few-kept}
use Rattle.loading.specs.Known.{Known}
use Rattle.loading.proofs.Reading.{known-light}
use Rattle.page.specs.Page.{cost_width, page_line, edge_line, edge_lines, sum_line, cost_sum, page_of, page_length}
use Rattle.page.proofs.Printing.{cost-fits, length-line, length-sum}

-- ── the lines of edges ──

-- the lines that are left, where the edge at the place is listed
pub line_kept : (g : Network) (p : ℕ → Bool) (n k : ℕ) → k < n → p k ≡ true
    → edge_lines g (pick (n - k) k p)
    ≡ edge_line k (low_end g k) (high_end g k) (cost_of g k) ++ edge_lines g (pick (n - (k + 1)) (k + 1) p)
unfolding edge_lines
line_kept g p n k h t = ap (edge_lines g) (pick-kept p n k h t)

-- the line of a listed edge is left to write, and an edge that isn't listed has none
module _ (g : Network) (p : ℕ → Bool) (n k : ℕ) {whole old out : List ℕ} {at : ℕ}
    (w : Written whole (edge_lines g (pick (n - k) k p)) old out at) (h : k < n) where
  pub line-left : p k ≡ true
      → Written whole
      (edge_line k (low_end g k) (high_end g k) (cost_of g k) ++ edge_lines g (pick (n - (k + 1)) (k + 1) p)) old out at
  line-left t = rw (line_kept g p n k h t) at w

  pub line-passed : p k ≡ false → Written whole (edge_lines g (pick (n - (k + 1)) (k + 1) p)) old out at
  line-passed t = rw (pick_other p n k h t) at w

module _ {g : Network} (k : Known g) where
  module _ (e : ℕ) (h : e < g.edges) where
    pub edge-small : e < edge_limit
    edge-small = omega (arith, k.edge_room)

    pub low_small : low_end g e < edge_limit
    low_small = omega (arith, k.fresh.formed.low_below e h, k.vertex_room)

    pub high_small : high_end g e < edge_limit
    high_small = omega (arith, k.fresh.formed.high_below e h, k.vertex_room)

    pub cost-fitting : fits cost_width (cost_of g e) ≡ true
    cost-fitting = cost-fits (cost_of g e) (omega (arith, k.within e h))

    pub length-edge : length (edge_line e (low_end g e) (high_end g e) (cost_of g e)) ≡ page_line
    length-edge =
        length-line e (low_end g e) (high_end g e) (cost_of g e) edge-small low_small high_small cost-fitting

  pub length-lines : (es : List ℕ) → AllBelow g.edges es → length (edge_lines g es) ≡ length es * page_line
  unfolding edge_lines
  length-lines [] b = refl
  length-lines (e ∷ es) b =
      length-append (edge_line e (low_end g e) (high_end g e) (cost_of g e)) (edge_lines g es)
      ∙ omega (arith, length-edge e b.0, length-lines es b.1)

  -- ── the sum ──

  module _ (es : List ℕ) (below : AllBelow g.edges es) (few : length es ≤ edge_limit) where
    pub sum-fitting : fits cost_width (cost_sum g es) ≡ true
    unfolding cost_sum
    sum-fitting =
        cost-fits (sumℤ (length es) (λ i. cost_of g (at es i)))
        (omega (
          arith,
          sumℤ-size (length es) (λ i. cost_of g (at es i)),
          sum_bound (length es) cost_limit (λ i. nat_abs (cost_of g (at es i)))
              (λ i l. k.within (at es i) (below_at g.edges es below i l)),
          mul-le-mul_right cost_limit few,
        ))

    pub length-page : length (page_of g es) ≡ page_length (length es)
    unfolding page_of page_length
    length-page =
        length-append (edge_lines g es) (sum_line (cost_sum g es))
        ∙ omega (arith, length-lines es below, length-sum (cost_sum g es) sum-fitting)

-- the sum over the marked edges is the sum over their list
pub sum_kept : (g : Network) (K : List Bool) → cost_sum g (kept_edges g.edges K) ≡ kept_cost g K
unfolding cost_sum cost_over kept_edges
sum_kept g K = sym (fold-picked ◌+ℤ◌ (pos 0) +ℤ_idr (is_kept K) (cost_of g) g.edges)

-- and it is read from its bits as it is
pub sum-read : {g : Network} → Known g → (K : List Bool) {sum : ℤ} → sum ≡ kept_cost g K
    → to_z w64 (of_z w64 sum) ≡ cost_sum g (kept_edges g.edges K)
sum-read {g} k K {sum} e =
    read_back sum (omega (arith, ap nat_abs e, kept_small g (known-light k) K)) ∙ e ∙ sym (sum_kept g K)

-- the marked edges are edges of the network
pub kept-below : (g : Network) (K : List Bool) → AllBelow g.edges (kept_edges g.edges K)
unfolding kept_edges
kept-below g K =
    let n : 0 + g.edges ≡ g.edges = omega arith in
    rw n at (rising-below 0 (0 + g.edges) (pick g.edges 0 (is_kept K)) (pick-rises g.edges 0 (is_kept K)))

-- and there is room for them in the state
pub kept-few : {g : Network} → Known g → (K : List Bool) → length (kept_edges g.edges K) ≤ edge_limit
kept-few {g} k K = omega (arith, few-kept g.edges K, k.edge_room)

-- where a page has room, so have the lines of its edges
pub lines_fit : (g : Network) (es : List ℕ) (room : ℕ) → length (page_of g es) ≤ room → length (edge_lines g es) ≤ room
unfolding page_of
lines_fit g es room h = omega (arith, length-append (edge_lines g es) (sum_line (cost_sum g es)))

-- behind the lines of the edges the last line is left to write
module _ (g : Network) (es old out : List ℕ) (at : ℕ) (n : at ≡ length (edge_lines g es))
    (e : out ≡ over (edge_lines g es) old) (h : length (page_of g es) ≤ length old) where
  pub sum_left : Written (page_of g es) (sum_line (cost_sum g es) ++ []) old out at
  unfolding page_of
  sum_left =
      written_last _ (sum_line (cost_sum g es)) old out at
      (written-front (edge_lines g es) (sum_line (cost_sum g es)) old out at n e h)

  pub sum-place : at ≤ length out
  sum-place = let w = sum_left in omega (arith, written-size _ _ _ _ _ w, w.place, w.room)
