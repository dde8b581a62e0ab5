-- The four-thirds bound: the cost of all edges of a table's network is the sum over its spans.
use mathlib.Core.Path.{◌≡◌, refl, sym, ◌∙◌, ap}
use mathlib.Core.Bool.{Bool, true, false, cond}
use mathlib.Core.List.{List, [], ◌∷◌, ◌++◌, map, map-append}
use Prim.Native.Nat.{ℕ, zero, suc, ◌+◌, ◌*◌, ◌≤◌, ◌<◌}
use native.Mathlib.Omega.{arith}
use native.Mathlib.Nat.{zero-add, suc-add}
use lib.ListN.{length, drop, get_or, length-map, get_or-append}
use lib.IntN.{ℤ, pos, nat_abs, ◌+ℤ◌, ◌*ℤ◌}
use lib.Signed.{◌≤ℤ◌}
use Rattle.base.specs.Answer.{over}
use Rattle.base.specs.Fold.{fold, sumℤ}
use Rattle.base.proofs.Integers.{P, N, plus, times-P, times-N, eqℤ, ≤ℤ-is, is-≤ℤ, sumℤ-front, sumℤ-le, sumℤ-size}
use Rattle.base.proofs.Sums.{fold-ext}
use Rattle.frame.specs.declared.kinds.Span.{Span}
use Rattle.frame.specs.declared.kinds.Edge.{Edge}
use Rattle.graph.specs.Network.{cost_of, cost_over, unreserved, all_but_reserved}
use Rattle.graph.specs.Sound.{weight}
use Rattle.graph.specs.declared.Network.{Network}
use Rattle.loading.specs.Loading.{state_of, no_costs, network_of}
use Rattle.network_text.specs.Text.{meaning_of}
use Rattle.table_text.specs.Text.{Table, weights, copies, expanded, stands_for}
use Rattle.table_text.proofs.Expanding.{length-expanded}
use Rattle.tables.specs.Condition.{weighted_cost, NoneBelowZero}

-- the costs of edges, in their order
abbrev costs : List Edge → List ℤ
costs es = map (λ e. e.cost) es

-- the sum of the first n of a list, where what is missing costs nothing
abbrev first : ℕ → List ℤ → ℤ
first n cs = sumℤ n (λ e. get_or cs e (pos 0))

-- ── the sum over the edges is the sum over the spans ──
copies-cost : (w k : ℕ) (s : Span) (m : ℕ) (cs : List ℤ)
    → first (w + m) (costs (copies w k s) ++ cs) ≡ (pos w *ℤ s.cost) +ℤ first m cs
unfolding copies P N
copies-cost zero k s m cs =
    rw zero-add
    (eqℤ _ _
    (omega (arith, plus (pos 0 *ℤ s.cost) (first m cs), times-P 0 s.cost, times-N 0 s.cost)))
copies-cost (suc w) k s m cs =
    let c = s.cost in
    let rest = first m cs in
    rw suc-add
    (sumℤ-front (w + m) (λ e. get_or (costs (copies (suc w) k s) ++ cs) e (pos 0))
    ∙ ap (λ (a : ℤ). c +ℤ a) (copies-cost w (suc k) s m cs)
    ∙ eqℤ _ _
    (omega (
      arith,
      plus c ((pos w *ℤ c) +ℤ rest),
      plus (pos w *ℤ c) rest,
      plus (pos (suc w) *ℤ c) rest,
      times-P w c,
      times-N w c,
      times-P (suc w) c,
      times-N (suc w) c,
    )))

expanded-cost : (k : ℕ) (ss : List Span) → first (weights ss) (costs (expanded k ss)) ≡ weighted_cost ss
unfolding expanded weights weighted_cost fold
expanded-cost k [] = refl
expanded-cost k (s ∷ ss) =
    rw map-append
    (copies-cost s.weight k s (weights ss) (costs (expanded (k + s.weight) ss))
    ∙ ap (λ (a : ℤ). (pos s.weight *ℤ s.cost) +ℤ a) (expanded-cost (k + s.weight) ss))

-- ── no edge costs less than nothing ──
abbrev NoneNegative : List ℤ → Type 0
NoneNegative [] = Unit
NoneNegative (c ∷ cs) = (pos 0 ≤ℤ c) × NoneNegative cs

none-append : (bs cs : List ℤ) → NoneNegative bs → NoneNegative cs → NoneNegative (bs ++ cs)
none-append [] cs p q = q
none-append (b ∷ bs) cs p q = (p.0, none-append bs cs p.1 q)

none-copies : (w k : ℕ) (s : Span) → pos 0 ≤ℤ s.cost → NoneNegative (costs (copies w k s))
unfolding copies
none-copies zero k s h = tt
none-copies (suc w) k s h = (h, none-copies w (suc k) s h)

none-expanded : (k : ℕ) (ss : List Span) → NoneBelowZero ss → NoneNegative (costs (expanded k ss))
unfolding expanded
none-expanded k [] h = tt
none-expanded k (s ∷ ss) h =
    rw map-append
    (none-append (costs (copies s.weight k s)) _ (none-copies s.weight k s h.0)
    (none-expanded (k + s.weight) ss h.1))

none-at : (cs : List ℤ) → NoneNegative cs → (i : ℕ) → pos 0 ≤ℤ get_or cs i (pos 0)
none-at [] h i = is-≤ℤ (omega arith)
none-at (c ∷ cs) h zero = h.0
none-at (c ∷ cs) h (suc i) = none-at cs h.1 i

-- ── the network of a table ──
module _ (m : Table) (total : weights m.spans ≡ 2 * m.vertices) where
  abbrev g : Network
  g = network_of (stands_for m)

  abbrev column : List ℤ
  column = costs (expanded 0 m.spans)

  cost-at : (e : ℕ) → e < 2 * m.vertices → cost_of g e ≡ get_or column e (pos 0)
  unfolding network_of state_of stands_for meaning_of over
  cost-at e h =
      get_or-append column (drop (length column) no_costs) (pos 0) e
      (omega (arith, length-map (expanded 0 m.spans) (λ e. e.cost), length-expanded 0 m.spans))

  all-cost : sumℤ (2 * m.vertices) (cost_of g) ≡ weighted_cost m.spans
  all-cost =
      fold-ext ◌+ℤ◌ (pos 0) (2 * m.vertices) (cost_of g) (λ e. get_or column e (pos 0)) cost-at
      ∙ ap (λ (n : ℕ). first n column) (sym total) ∙ expanded-cost 0 m.spans

  -- whatever signs the costs have, the sum is no further from 0 than they are together
  pub weighted-size : nat_abs (weighted_cost m.spans) ≤ weight g
  unfolding weight network_of state_of stands_for meaning_of
  weighted-size = rw all-cost at (sumℤ-size (2 * m.vertices) (cost_of g))

  -- without the reserved edge's cost the sum is no greater, if no cost is below zero
  pub reserved-less : NoneBelowZero m.spans → all_but_reserved g ≤ℤ weighted_cost m.spans
  unfolding cost_over network_of state_of stands_for meaning_of
  reserved-less h = rw all-cost at
      (sumℤ-le (2 * m.vertices) (λ e. cond (unreserved g e) (cost_of g e) (pos 0)) (cost_of g)
      (λ e l. less (unreserved g e) (cost_of g e) (rw (cost-at e l) (none-at column (none-expanded 0 m.spans h) e))))
    where
      less : (b : Bool) (c : ℤ) → pos 0 ≤ℤ c → cond b c (pos 0) ≤ℤ c
      less true c h = is-≤ℤ (omega arith)
      less false c h = h

-- ── the bound ──

-- a ratio of two to three, with more on the right
pub ratio-up : (a b c : ℤ) → (pos 3 *ℤ a) ≤ℤ (pos 2 *ℤ b) → b ≤ℤ c → (pos 3 *ℤ a) ≤ℤ (pos 2 *ℤ c)
ratio-up a b c h l =
    is-≤ℤ
    (omega (
      arith,
      ≤ℤ-is h,
      ≤ℤ-is l,
      times-P 3 a,
      times-N 3 a,
      times-P 2 b,
      times-N 2 b,
      times-P 2 c,
      times-N 2 c,
    ))
