-- Both ends of one edge written anew: what a list of ends has then, at that edge and at the others.
use mathlib.Core.Logic.{◌≢◌}
use mathlib.Core.List.{List}
use mathlib.Core.Path.{◌≡◌, ◌∙◌}
use Prim.Native.Nat.{ℕ, ◌+◌, ◌<◌}
use native.Mathlib.Omega.{arith}
use lib.ListN.{length, set, length-set}
use lib.Seq.{get_or-set_same, get_or-set_other}
use Rattle.base.specs.Columns.{at}
use Rattle.base.specs.Limits.{edge_limit}
use Rattle.flow.specs.Arcs.{arc_limit}

-- the low end of an edge is a now and its high end b
abbrev pub stored : List ℕ → ℕ → ℕ → ℕ → List ℕ
stored ends edge a b = set (set ends edge a) (edge + edge_limit) b

pub length-stored : (ends : List ℕ) (edge a b : ℕ) → length (stored ends edge a b) ≡ length ends
length-stored ends edge a b = length-set (set ends edge a) (edge + edge_limit) b ∙ length-set ends edge a

module _ (ends : List ℕ) {edge : ℕ} (h : edge < edge_limit) (a b : ℕ) where
  pub low-stored : length ends ≡ arc_limit → at (stored ends edge a b) edge ≡ a
  low-stored long =
      get_or-set_other (set ends edge a) (edge + edge_limit) edge b 0 (λ e. omega arith)
      ∙ get_or-set_same ends edge a 0 (omega arith)

  pub high-stored : length ends ≡ arc_limit → at (stored ends edge a b) (edge + edge_limit) ≡ b
  high-stored long = get_or-set_same (set ends edge a) (edge + edge_limit) b 0 (rw length-set (omega arith))

  same_at : (p : ℕ) → p ≢ edge → p ≢ edge + edge_limit → at (stored ends edge a b) p ≡ at ends p
  same_at p nl nh = get_or-set_other (set ends edge a) (edge + edge_limit) p b 0 nh ∙ get_or-set_other ends edge p a 0 nl

  pub same_low : (e : ℕ) → e ≢ edge → e < edge_limit → at (stored ends edge a b) e ≡ at ends e
  same_low e ne l = same_at e ne (λ q. omega arith)

  pub same-high : (e : ℕ) → e ≢ edge → e < edge_limit
      → at (stored ends edge a b) (e + edge_limit) ≡ at ends (e + edge_limit)
  same-high e ne l = same_at (e + edge_limit) (λ q. omega arith) (λ q. ne (omega arith))
