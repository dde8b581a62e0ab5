-- The edge that an ending by rule drops, and the network after a step by rule.
use mathlib.Core.Path.{◌≡◌}
use Prim.Native.Nat.{ℕ, ◌<◌}
use native.Mathlib.Omega.{arith}
use lib.ListN.{length-set}
use Rattle.base.specs.Limits.{edge_limit}
use Rattle.graph.specs.Split.{split, after}
use Rattle.graph.specs.Chain.{step_refusal, end_refusal, StepByRule}
use Rattle.graph.specs.Sound.{Light}
use Rattle.graph.specs.State.{Splittable}
use Rattle.graph.specs.declared.Network.{Network}
use Rattle.graph.specs.declared.Step.{Step}
use Rattle.graph.proofs.Lifting.{weight-after}
use Rattle.graph.proofs.Rules.{step-ruled, Stepped, stepped, sound-step, ending-ruled}
use Rattle.rules.specs.Running.{Running}
use Rattle.rules.proofs.Trios.{splittable}

-- ── an ending by rule ──

-- the edge that it drops is one of the network's
pub dropped-below : {g : Network} → Running g → (d : ℕ) → end_refusal g d ≡ 0 → d < edge_limit
dropped-below {g} run d passed = omega (arith, (ending-ruled g d passed).one.number, run.edge_room)

-- ── the network after a step by rule ──
module _ {g : Network} (run : Running g) (more : 2 < g.remaining) (t : Step) (passed : step_refusal g t ≡ 0) where
  rule : StepByRule g t
  rule = step-ruled run.sound run.left t passed

  pub step-taken : Stepped g t
  step-taken = stepped run.sound run.left t rule

  pub step-splittable : Splittable g t.x t.y t.z
  step-splittable = splittable run step-taken.at

  pub running-after : Running (after g t)
  running-after = record {
    sound = sound-step run.sound t step-taken;
    light = lighter;
    left = unfold after split in omega (arith, more);
    edge_room = unfold after split in run.edge_room;
    vertex_room = unfold after split in run.vertex_room;
    long = unfold after split in simp length-set run.long;
  }
    where
      lighter : Light (after g t)
      lighter = unfold after in omega (arith, run.light, weight-after run.sound.formed step-taken.at)

  -- v is a vertex
  pub v_below : t.v < g.vertices
  v_below = run.sound.formed.here_below t.v step-taken.v_here

-- a step leaves one vertex less
pub fewer : (g : Network) (t : Step) → 2 < g.remaining → {n : ℕ} → g.remaining ≡ n → (after g t).remaining < n
unfolding after split
fewer g t more e = omega arith
