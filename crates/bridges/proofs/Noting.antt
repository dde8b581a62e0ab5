-- Laws of noting edges, one by one.
use mathlib.Core.Bool.{Bool, true, false}
use mathlib.Core.List.{List}
use mathlib.Core.Path.{◌≡◌, refl, sym, ◌∙◌}
use Prim.Native.Nat.{ℕ, ◌+◌, ◌≤◌, ◌<◌}
use native.Mathlib.Decide.{ℕ_discrete}
use native.Mathlib.Omega.{arith}
use borrow.Author.Tests.{eq-eqb, ne_eqb}
use Rattle.base.proofs.Bools.{never}
use Rattle.graph.specs.Network.{kept}
use Rattle.base.specs.Columns.{at}
use Rattle.forest.specs.Forest.{DepthFirst}
use Rattle.forest.specs.declared.Forest.{Forest}
use Rattle.bridges.specs.LowPoints.{upper, lower, fallen, noted, BackEdge, Points, Noted}
use Rattle.bridges.proofs.Falling.{fallen-at, points-fall}

module _ (low high number edge points : List ℕ) (e : ℕ) {k : ℕ} (lowers : k ≡ lower low high number e) where
  pub noted-tree : at edge k ≡ e → noted low high number edge points e ≡ points
  unfolding noted
  noted-tree h = rw (← lowers, eq-eqb _ _ h)

  pub noted_back : (at edge k ≡ e → ⊥) → {i : ℕ} → i ≡ upper low high number e
      → noted low high number edge points e ≡ fallen points k i
  unfolding noted
  noted_back h uppers = rw (← lowers, ← uppers, ne_eqb _ _ h)

module _ {low high : List ℕ} {K : List Bool} {m : ℕ} where
  -- one edge more, where its later place has a point that is no later than its earlier place
  points-reach : {n : ℕ} {t : Forest} {f : DepthFirst low high K m n t} {done left : ℕ} {points : List ℕ}
      → Points low high K m n t f done left points
      → (BackEdge low high K m t done
      → at points (lower low high t.number done) ≤ upper low high t.number done)
      → Points low high K m n t f (done + 1) left points
  points-reach {done = done} w reached = record {
    long = w.long;
    own = w.own;
    real = w.real;
    reaches = λ e h b. elim (ℕ_discrete e done) [
      | yes q ↦ rw q (reached (rw q at b))
      | no q ↦ w.reaches e (omega arith) b
    ];
    passes_up = w.passes_up;
  }

  module _ {number edge points : List ℕ} {e : ℕ} (w : Noted low high K m number edge e points) where
    pub noted-unlisted : kept K e ≡ false → Noted low high K m number edge (e + 1) points
    noted-unlisted h n t f p q = points-reach (w n t f p q) (λ b. never (sym h ∙ b.listed))

    pub noted-listed : e < m → kept K e ≡ true → {next : List ℕ} → next ≡ noted low high number edge points e
        → Noted low high K m number edge (e + 1) next
    noted-listed l h r n t f p q =
        let k = lower low high t.number e in
        let i = upper low high t.number e in
        let before = w n t f p q in
        rw (r, ← p, ← q) (elim (ℕ_discrete (at t.edge k) e) [
          | yes tree ↦ rw (noted-tree _ _ _ _ _ _ refl tree) (points-reach before (λ b. absurd (b.back tree)))
          | no back ↦
              let edge : BackEdge low high K m t e = record { number = l; listed = h; back = back } in
              let here = points-fall before k i (λ less placed.
              (e, record { edge = edge; start = omega arith; inside = f.trees.own k placed }, refl)) in
              rw (noted_back _ _ _ _ _ _ refl back refl) (points-reach here (λ b. fallen-at points k i))
        ])
