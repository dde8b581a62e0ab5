-- A sum over ports, edge by edge.
use mathlib.Core.Bool.{cond}
use mathlib.Core.List.{List}
use mathlib.Core.Logic.{◌≢◌, ⊎_elim}
use mathlib.Core.Path.{◌≡◌, sym, ◌∙◌, ap, ap₂}
use Prim.Native.Nat.{ℕ, zero, suc, ◌+◌, ◌*◌, ◌-◌, ◌≤◌, ◌<◌}
use native.Mathlib.Decide.{ℕ_discrete, dec_lt}
use native.Mathlib.Omega.{arith}
use borrow.Author.Tests.{eq-eqb}
use lib.Dec.{eqb}
use Rattle.base.specs.Columns.{at}
use Rattle.base.specs.Fold.{fold, sum}
use Rattle.base.proofs.Bools.{eqb-self, eqb_no}
use Rattle.base.proofs.Sums.{sum-ext, sum-add, sum_zeros, sum-change, sum-join, sum-out, out, out-same, out-other}
use Rattle.ports.specs.Ports.{ports_each, port_limit, vertex_of, Wired}
use Rattle.ports.proofs.Joining.{same-edge, far-vertex}

-- ── terms that are zero but at one place, or at two ──
sum-at : (m k c : ℕ) → k < m → sum m (λ j. cond (eqb k j) c 0) ≡ c
sum-at m k c l =
    let here = ap (λ t. cond t c 0) (eqb-self k) in
    omega (
      arith,
      sum_zeros m,
      sum-change m k (λ j. cond (eqb k j) c 0) (λ _. 0) l
          (λ j _ ne. ap (λ t. cond t c 0) (eqb_no {a = k} {b = j} (λ e. ne (sym e)))),
    )

sum-two : (n a b : ℕ) (f : ℕ → ℕ) → a < n → b < n → a ≢ b → ((i : ℕ) → i < n → i ≢ a → i ≢ b → f i ≡ 0)
    → sum n f ≡ f a + f b
sum-two n a b f la lb ne zero-else =
    let rest = sum-ext n (out b (out a f)) (λ _. 0) (λ i l. elim (ℕ_discrete i b) [
      | yes e ↦ ap (out b (out a f)) e ∙ out-same b (out a f)
      | no nb ↦
          out-other b (out a f) i nb
          ∙ elim (ℕ_discrete i a) [
            | yes e ↦ ap (out a f) e ∙ out-same a f
            | no na ↦ out-other a f i na ∙ zero-else i l na nb
          ]
    ]) in
    omega (
      arith,
      rest,
      sum_zeros n,
      sum-out n a f la,
      sum-out n b (out a f) lb,
      out-other a f b (λ e. ne (sym e)),
    )

-- a sum of terms that are told apart by h, group by group
sum_by : (n m : ℕ) (h f : ℕ → ℕ) → ((i : ℕ) → i < n → h i < m)
    → sum n f ≡ sum m (λ j. sum n (λ i. cond (eqb (h i) j) (f i) 0))
unfolding fold
sum_by zero m h f below = sym (sum_zeros m)
sum_by (suc n) m h f below =
    omega (
      arith,
      sum_by n m h f (λ i l. below i (omega arith)),
      sum-add m (λ j. sum n (λ i. cond (eqb (h i) j) (f i) 0)) (λ j. cond (eqb (h n) j) (f n) 0),
      sum-at m (h n) (f n) (below n (omega arith)),
    )

-- ── ports ──
module _ {edges vertices : ℕ} {low high : ℕ → ℕ} {mate edge : List ℕ} (w : Wired edges vertices low high mate edge) where
  -- the two ports of an edge are ports of vertices, and no other has its number
  module _ (e : ℕ) (l : e < edges) where
    port-vertex : vertex_of (w.port e) < vertices
    port-vertex = elim (dec_lt (vertex_of (w.port e)) vertices) [
      | yes h ↦ h
      | no h ↦ absurd (w.apart e l (w.free (w.port e) (omega arith) (w.port_below e l)))
    ]

    far-port-vertex : vertex_of (at mate (w.port e)) < vertices
    far-port-vertex = far-vertex w (w.port e) port-vertex

    terms : (f : ℕ → ℕ)
        → sum (ports_each * vertices) (λ p. cond (eqb (at edge p) e) (f p) 0) ≡ f (w.port e) + f (at mate (w.port e))
    terms f =
        sum-two (ports_each * vertices) (w.port e) (at mate (w.port e)) (λ p. cond (eqb (at edge p) e) (f p) 0)
        (omega (arith, port-vertex)) (omega (arith, far-port-vertex)) (λ q. w.apart e l (sym q))
        (λ p h np nf. ap (λ t. cond t (f p) 0) (eqb_no {a = at edge p} {b = e} (λ q.
        ⊎_elim np nf (same-edge w p (w.port e) (omega arith) port-vertex (q ∙ sym (w.named e l))))))
        ∙ ap₂ ◌+◌
        (ap (λ t. cond t (f (w.port e)) 0) (eq-eqb _ e (w.named e l)))
        (ap (λ t. cond t (f (at mate (w.port e))) 0) (eq-eqb _ e (w.far_named e l)))

  -- a sum over all ports, of which those that are not taken count nothing
  pub by-edges : (f : ℕ → ℕ) → ((p : ℕ) → p < port_limit → vertices ≤ vertex_of p → f p ≡ 0)
      → sum port_limit f ≡ sum edges (λ e. f (w.port e) + f (at mate (w.port e)))
  by-edges f none =
      let n = ports_each * vertices in
      let whole : n + (port_limit - n) ≡ port_limit = omega (arith, w.room) in
      let rest = sum-ext (port_limit - n) (λ i. f (n + i)) (λ _. 0) (λ i l. none (n + i) (omega arith) (omega arith)) in
      let joined = ap (λ k. sum k f) (sym whole) ∙ sum-join n (port_limit - n) f in
      let grouped = sum_by n edges (at edge) f (λ p l. (w.taken p (omega arith)).0) in
      let each = sum-ext edges (λ e. sum n (λ p. cond (eqb (at edge p) e) (f p) 0)) _ (λ e l. terms e l f) in
      omega (arith, sum_zeros (port_limit - n))
