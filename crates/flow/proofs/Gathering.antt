-- Moving the ends of edges that are at one vertex to another, edge by edge.
use mathlib.Core.Path.{◌≡◌, refl, ◌∙◌, ap}
use mathlib.Core.List.{List}
use Prim.Native.Nat.{ℕ, ◌+◌, ◌<◌}
use native.Mathlib.Omega.{arith}
use borrow.Author.Count.{below_more}
use borrow.Author.Tests.{eq-eqb, ne_eqb}
use lib.ListN.{length, set}
use lib.Seq.{get_or-set_other}
use Rattle.base.specs.Columns.{at}
use Rattle.base.specs.Limits.{edge_limit}
use Rattle.flow.specs.Arcs.{arc_limit, moved, MovedTo}
use Rattle.flow.proofs.Storing.{stored, length-stored, low-stored, high-stored, same_low, same-high}

pub moved_same : (from to u : ℕ) → u ≡ from → to ≡ moved from to u
unfolding moved
moved_same from to u e = rw (eq-eqb u from e)

pub moved_other : (from to u : ℕ) → (u ≡ from → ⊥) → u ≡ moved from to u
unfolding moved
moved_other from to u n = rw (ne_eqb u from n)

pub moving-none : {from to : ℕ} {ends : List ℕ} → MovedTo from to 0 ends ends
moving-none = record {
  size = refl;
  low = λ e l. absurd (omega arith);
  high = λ e l. absurd (omega arith);
  low_left = λ e k l. refl;
  high_left = λ e k l. refl;
}

module _ {from to edge : ℕ} {ends₀ ends : List ℕ} (m : MovedTo from to edge ends₀ ends) (long : length ends ≡ arc_limit)
    (h : edge < edge_limit) (a b : ℕ) (low-put : a ≡ moved from to (at ends edge))
    (high-put : b ≡ moved from to (at (set ends edge a) (edge + edge_limit)))
  where
    longer : List ℕ
    longer = stored ends edge a b

    low-now : at longer edge ≡ moved from to (at ends₀ edge)
    unfolding longer
    low-now = low-stored ends h a b long ∙ low-put ∙ ap (moved from to) (m.low_left edge (omega arith) h)

    high-now : at longer (edge + edge_limit) ≡ moved from to (at ends₀ (edge + edge_limit))
    unfolding longer
    high-now =
        high-stored ends h a b long ∙ high-put
        ∙ ap (moved from to)
        (get_or-set_other ends edge (edge + edge_limit) a 0 (λ e. omega arith) ∙ m.high_left edge (omega arith) h)

    pub moving-on : MovedTo from to (edge + 1) ends₀ (stored ends edge a b)
    unfolding longer
    moving-on = record {
      size = length-stored ends edge a b ∙ m.size;
      low = below_more (λ e. at longer e ≡ moved from to (at ends₀ e)) edge
          (λ e k. same_low ends h a b e (λ q. omega arith) (omega arith) ∙ m.low e k) low-now;
      high = below_more (λ e. at longer (e + edge_limit) ≡ moved from to (at ends₀ (e + edge_limit))) edge
          (λ e k. same-high ends h a b e (λ q. omega arith) (omega arith) ∙ m.high e k) high-now;
      low_left = λ e k l. same_low ends h a b e (λ q. omega arith) l ∙ m.low_left e (omega arith) l;
      high_left = λ e k l. same-high ends h a b e (λ q. omega arith) l ∙ m.high_left e (omega arith) l;
    }
