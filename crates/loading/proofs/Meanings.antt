-- A network that was read: its ends are vertices, every vertex is present, and its costs are within the limit.
use mathlib.Core.Path.{◌≡◌, sym, ◌∙◌, ap}
use mathlib.Core.Bool.{true, false}
use mathlib.Core.List.{List}
use Prim.Native.Nat.{ℕ, ◌*◌, ◌≤◌, ◌<◌}
use native.Mathlib.Omega.{arith}
use native.Mathlib.Decide.{dec_lt}
use lib.Dec.{ltb}
use lib.ListN.{length, get_or, replicate, length-replicate, get_or-eq_default}
use lib.IntN.{pos, nat_abs}
use borrow.Author.Tests.{ltb-true, lt-ltb}
use Rattle.base.specs.Answer.{over}
use Rattle.base.specs.Fold.{sum, bit, tabulate}
use Rattle.base.specs.Limits.{cost_limit, edge_limit, vertex_limit}
use Rattle.base.proofs.Bools.{never}
use Rattle.base.proofs.LimitLaws.{cost-within}
use Rattle.base.proofs.Parts.{length_over, over-at}
use Rattle.base.proofs.Sums.{sum-ext, sum_ones, tabulate-length, tabulate-at}
use Rattle.graph.specs.Network.{cost_of, here}
use Rattle.graph.specs.Sound.{Formed, Fresh}
use Rattle.network_text.specs.Text.{Meaning, Valid}
use Rattle.loading.specs.Loading.{state_of, no_ends, no_costs, network_of}

module _ {m : Meaning} (s : Valid m) where
  fits : 2 * m.vertices ≤ edge_limit
  fits = omega (arith, s.few)

  long : {A : Type 0} (xs : List A) (a : A) → length xs ≡ 2 * m.vertices
      → length (over xs (replicate edge_limit a)) ≡ edge_limit
  long xs a e =
      length_over xs (replicate edge_limit a) (rw length-replicate (omega (arith, e, fits)))
      ∙ length-replicate edge_limit a

  pub low-long : length (network_of m).low ≡ edge_limit
  unfolding network_of state_of
  low-long = long m.low 0 s.low_count

  -- which vertices are present
  present-is : (v : ℕ) → v < vertex_limit → here (network_of m) v ≡ ltb v m.vertices
  unfolding network_of state_of
  present-is v l = tabulate-at vertex_limit (λ v. ltb v m.vertices) false v l

  pub all-present : (v : ℕ) → v < m.vertices → here (network_of m) v ≡ true
  all-present v l = present-is v (omega (arith, s.few)) ∙ lt-ltb v m.vertices l

  present-below : (v : ℕ) → here (network_of m) v ≡ true → v < m.vertices
  present-below v h = elim (dec_lt v vertex_limit) [
    | yes l ↦ ltb-true v m.vertices (sym (present-is v l) ∙ h)
    | no o ↦ never (sym (beyond (omega arith)) ∙ h)
  ]
    where
      beyond : vertex_limit ≤ v → here (network_of m) v ≡ false
      beyond k = unfold network_of state_of in
          get_or-eq_default (tabulate vertex_limit (λ v. ltb v m.vertices)) false {n = v}
          (rw (tabulate-length vertex_limit (λ v. ltb v m.vertices)) k)

  counted : sum m.vertices (λ v. bit (here (network_of m) v)) ≡ m.vertices
  counted =
      sum-ext m.vertices (λ v. bit (here (network_of m) v)) (λ v. 1) (λ v l. ap bit (all-present v l))
      ∙ sum_ones m.vertices

  pub loaded-formed : Formed (network_of m)
  loaded-formed = record {
    low_room = unfold network_of state_of in omega (arith, long m.low 0 s.low_count, fits);
    high_room = unfold network_of state_of in omega (arith, long m.high 0 s.high_count, fits);
    cost_room = unfold network_of state_of in omega (arith, long m.cost (pos 0) s.cost_count, fits);
    present_room = unfold network_of state_of in
        omega (arith, tabulate-length vertex_limit (λ v. ltb v m.vertices), s.few);
    low_below = unfold network_of state_of in
        λ e l. rw (over-at m.low no_ends 0 e (omega (arith, s.low_count)))
        (omega (arith, s.rising e l, s.inside e l));
    high_below = unfold network_of state_of in
        λ e l. rw (over-at m.high no_ends 0 e (omega (arith, s.high_count))) (s.inside e l);
    here_below = unfold network_of state_of in present-below;
    counted = unfold network_of state_of in counted;
    reserved_below = unfold network_of state_of in s.reserved_one;
  }

  pub loaded-fresh : Fresh (network_of m)
  loaded-fresh = record { formed = loaded-formed; all_here = unfold network_of state_of in all-present }

  pub loaded-within : (e : ℕ) → e < (network_of m).edges → nat_abs (cost_of (network_of m) e) ≤ cost_limit
  unfolding network_of state_of
  loaded-within e l =
      rw (over-at m.cost no_costs (pos 0) e (omega (arith, s.cost_count)))
      (cost-within (get_or m.cost e (pos 0)) (s.limited e l))
