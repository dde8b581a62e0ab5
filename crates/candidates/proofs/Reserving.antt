-- A network with another edge reserved: what is known of it, and the costs of its plan.
use mathlib.Core.Path.{◌≡◌, ◌∙◌, ap, ap₂}
use mathlib.Core.Bool.{Bool}
use mathlib.Core.List.{List}
use Prim.Native.Nat.{ℕ, ◌-◌, ◌<◌}
use lib.IntN.{ℤ}
use lib.ListN.{length}
use mir.Syntax.{w64}
use mir.Val.{to_z, of_z}
use Rattle.frame.specs.Table.{COSTS, line_length}
use Rattle.graph.specs.Cut.{network_refusal}
use Rattle.graph.specs.Network.{kept_cost, all_but_reserved}
use Rattle.graph.specs.Plan.{plan_kept}
use Rattle.graph.specs.Sound.{Formed}
use Rattle.graph.specs.declared.Network.{Network}
use Rattle.kept_text.specs.Text.{costs_text}
use Rattle.kept_text.proofs.Texts.{length-costs}
use Rattle.loading.specs.Known.{Known}
use Rattle.rules.specs.Running.{Running}
use Rattle.claim.specs.Condition.{reserving}
use Rattle.claim.proofs.Accepting.{known-running}
use Rattle.claim.proofs.Condition.{refusal-same}
use Rattle.claim.proofs.Keepings.{kept_back, unreserved-back}
use Rattle.candidates.specs.Services.{plan_costs}

-- ── what is known does not depend on the reserved edge ──
module _ {g : Network} (r : ℕ) (h : r < g.edges) where
  reserving-formed : Formed g → Formed (reserving r g)
  reserving-formed f =
      record {
        low_room = f.low_room;
        high_room = f.high_room;
        cost_room = f.cost_room;
        present_room = f.present_room;
        low_below = f.low_below;
        high_below = f.high_below;
        here_below = f.here_below;
        counted = f.counted;
        reserved_below = h;
      }

  reserving-known : Known g → Known (reserving r g)
  reserving-known k =
      record {
        fresh = record { formed = reserving-formed k.fresh.formed; all_here = k.fresh.all_here };
        within = k.within;
        several = k.several;
        vertex_room = k.vertex_room;
        edge_room = k.edge_room;
        long = k.long;
      }

  -- so a network that was accepted runs with any of its edges reserved
  pub reserving-running : Known g → network_refusal g ≡ 0 → Running (reserving r g)
  reserving-running k p = known-running (reserving-known k) (refusal-same r g ∙ p)

-- ── the costs of a plan ──

-- they are one line
pub length-plan : (g : Network) → length (plan_costs g) ≡ line_length COSTS
unfolding plan_costs
length-plan g = length-costs (kept_cost g (plan_kept (g.remaining - 2) g)) (all_but_reserved g)

-- and what the code makes of the marks that are kept
pub plan-costs : {g : Network} → Running g → (K : List Bool) → K ≡ plan_kept (g.remaining - 2) g
    → (kept unreserved : ℤ) → kept ≡ kept_cost g K → unreserved ≡ all_but_reserved g
    → costs_text (to_z w64 (of_z w64 kept)) (to_z w64 (of_z w64 unreserved)) ≡ plan_costs g
unfolding plan_costs
plan-costs {g} run K q kept unreserved ek eu =
    ap₂ costs_text (kept_back g run.light K kept ek ∙ ap (kept_cost g) q)
    (unreserved-back g run.light unreserved eu)
