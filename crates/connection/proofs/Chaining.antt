-- Laws of the table of ends: how it is chained, edge by edge.
use mathlib.Core.Path.{◌≡◌, sym, ◌∙◌}
use mathlib.Core.Bool.{Bool, true, false}
use mathlib.Core.List.{List}
use Prim.Native.Nat.{ℕ, zero, suc, ◌+◌, ◌-◌, ◌*◌, ◌≤◌, ◌<◌}
use native.Mathlib.Omega.{arith}
use lib.ListN.{get_or}
use Rattle.graph.specs.Network.{kept}
use Rattle.connection.specs.declared.ends.Incidence.{Incidence}
use Rattle.connection.specs.Incidence.{hooked, noted, chained}

module _ (low high : List ℕ) (K : List Bool) (t whole : Incidence) where
  -- edge e - 1 is noted, and the edges below it are left
  module _ (e : ℕ) (l : 0 < e) (h : chained low high K e t ≡ whole) where
    chained-next : chained low high K (e - 1) (noted low high K t (e - 1)) ≡ whole
    chained-next = sym (down e l) ∙ h
      where
        down : (e : ℕ) → 0 < e → chained low high K e t ≡ chained low high K (e - 1) (noted low high K t (e - 1))
        down zero l = absurd (omega arith)
        down (suc e) l = unfold chained in let q : suc e - 1 ≡ e = omega arith in rw q

    pub chained-listed : kept K (e - 1) ≡ true → {one both : Incidence}
        → one ≡ hooked t (get_or high (e - 1) 0) (2 * (e - 1) + 1)
        → both ≡ hooked one (get_or low (e - 1) 0) (2 * (e - 1))
        → chained low high K (e - 1) both ≡ whole
    chained-listed k {both = both} p q =
        let is : noted low high K t (e - 1) ≡ both = unfold noted in rw (k, q, p) in
        rw is at chained-next

    pub chained-unlisted : kept K (e - 1) ≡ false → chained low high K (e - 1) t ≡ whole
    chained-unlisted k =
        let is : noted low high K t (e - 1) ≡ t = unfold noted in rw k in
        rw is at chained-next

  -- no edge is left
  pub chained-done : (e : ℕ) → e ≤ 0 → chained low high K e t ≡ whole → t ≡ whole
  chained-done zero l h = unfold chained in h
  chained-done (suc e) l h = absurd (omega arith)
