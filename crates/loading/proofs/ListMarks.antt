-- Listed edges that are marked one after the other.
use mathlib.Core.Path.{◌≡◌, sym, ◌∙◌, ap}
use mathlib.Core.Bool.{Bool, true, false, ◌||◌, or-true, or-false, or_assoc}
use mathlib.Core.List.{List, [], ◌∷◌}
use Prim.Native.Nat.{ℕ, zero, suc, ◌+◌, ◌≤◌, ◌<◌}
use native.Mathlib.Omega.{arith}
use native.Mathlib.Numerals.{add-one}
use native.Mathlib.Decide.{ℕ_discrete}
use lib.Dec.{eqb}
use lib.ListN.{length, take, get_or, set, length-set, length-replicate, get_or-replicate}
use lib.Seq.{ext_get_or, get_or-set_same, get_or-set_other}
use borrow.Author.Tests.{eq-eqb, ne_eqb}
use Rattle.base.specs.Fold.{among, tabulate}
use Rattle.base.specs.Limits.{edge_limit}
use Rattle.base.proofs.Sums.{tabulate-length, tabulate-at}
use Rattle.loading.specs.ListLoading.{listed_marks}
use Rattle.graph.specs.State.{no_marks}

-- of the edges to be marked, the first i are, and no others
pub record Marked (edges : List ℕ) (count i : ℕ) (marks : List Bool) : Type 0 where
  pub within : i ≤ count
  pub size : length marks ≡ edge_limit
  pub marked : (e : ℕ) → e < edge_limit → get_or marks e false ≡ among e (take i edges)

-- one element more
among-take : (es : List ℕ) (i : ℕ) → i < length es → (e : ℕ)
    → among e (take (suc i) es) ≡ (among e (take i es) || eqb e (get_or es i 0))
unfolding among
among-take [] i h e = absurd (omega arith)
among-take (x ∷ es) zero h e = or-false (eqb e x)
among-take (x ∷ es) (suc i) h e =
    ap (λ b. eqb e x || b) (among-take es i (omega arith) e)
    ∙ sym (or_assoc (eqb e x) (among e (take i es)) (eqb e (get_or es i 0)))

pub marked-none : (edges : List ℕ) (count : ℕ) (marks : List Bool) → marks ≡ no_marks → Marked edges count 0 marks
unfolding among
marked-none edges count marks h = record {
  within = omega arith;
  size = ap length h ∙ length-replicate edge_limit false;
  marked = λ e l. ap (λ ms. get_or ms e false) h ∙ get_or-replicate edge_limit e false false l;
}

pub marked_next : {edges : List ℕ} {count i : ℕ} {marks : List Bool} → Marked edges count i marks → i < count
    → i < length edges → get_or edges i 0 < edge_limit → Marked edges count (i + 1) (set marks (get_or edges i 0) true)
marked_next {edges} {count} {i} {marks} w h l b = record {
  within = omega arith;
  size = length-set marks (get_or edges i 0) true ∙ w.size;
  marked = λ e k. at_edge e k ∙ sym (ap (λ j. among e (take j edges)) (add-one i) ∙ among-take edges i l e);
}
  where
    new : ℕ
    new = get_or edges i 0

    at_edge : (e : ℕ) → e < edge_limit → get_or (set marks new true) e false ≡ (among e (take i edges) || eqb e new)
    at_edge e k =
        let before = among e (take i edges) in
        elim (ℕ_discrete e new) [
          | yes q ↦
              let size = w.size in
              ap (λ j. get_or (set marks new true) j false) q ∙ get_or-set_same marks new true false (omega arith)
              ∙ sym (ap (λ t. before || t) (eq-eqb e _ q) ∙ or-true before)
          | no q ↦
              get_or-set_other marks new e true false q ∙ w.marked e k
              ∙ sym (ap (λ t. before || t) (ne_eqb e _ q) ∙ or-false before)
        ]

pub marked_all : {edges : List ℕ} {count i : ℕ} {marks : List Bool} → Marked edges count i marks → count ≤ i
    → marks ≡ listed_marks (take count edges)
unfolding listed_marks
marked_all {edges} {count} {i} {marks} w h =
    let f : ℕ → Bool = λ e. among e (take count edges) in
    let same : i ≡ count = omega (arith, w.within) in
    let size = w.size in
    ext_get_or false marks (tabulate edge_limit f) (w.size ∙ sym (tabulate-length edge_limit f))
    (λ e l.
    w.marked e (omega arith) ∙ ap (λ j. among e (take j edges)) same
    ∙ sym (tabulate-at edge_limit f false e (omega arith)))
