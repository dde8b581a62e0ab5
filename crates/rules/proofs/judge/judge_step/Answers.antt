-- `rules::judge::judge_step` meets its contract.
use mathlib.Core.Logic.{inl, inr}
use mathlib.Core.Path.{◌≡◌, refl, sym, ◌∙◌, ap}
use lib.IntN.{ℤ}
use mir.Syntax.{w64}
use mir.Val.{to_z, of_z, SFits}
use mir.Facts.{to_z-of_z}
use Prim.Native.Nat.{ℕ}
use borrow.Author.Tests.{ne_eqb}
use Rattle.base.specs.Answer.{refusal_of}
use Rattle.graph.specs.Network.{touches}
use Rattle.graph.specs.Chain.{step_refusal}
use Rattle.graph.specs.declared.Network.{Network}
use Rattle.graph.proofs.Partners.{touches_at}
use Rattle.rules.proofs.Judging.{no_end}
use Rattle.rules.proofs.judge.judge_step.Goals as goal

-- the step is judged with the cost that was given
cost-kept : (g : Network) (v x y z : ℕ) {cost : ℤ} → SFits w64 cost
    → step_refusal g (record { v = v; x = x; y = y; z = z; cost = to_z w64 (of_z w64 cost) })
    ≡ step_refusal g (record { v = v; x = x; y = y; z = z; cost = cost })
cost-kept g v x y z fits =
    ap (λ c. step_refusal g (record { v = v; x = x; y = y; z = z; cost = c })) (to_z-of_z fits)

pub judge_at-requires : goal.judge_at-requires
judge_at-requires c = (c.requires, touches_at c.args.network _ c.args.network.reserved (inl refl), sym c.if-low-v.true)

pub returns-then-low-v : goal.returns-then-low-v
returns-then-low-v c =
    let a = c.args in c.judge_at.ensures ∙ cost-kept a.network a.v a.x a.y a.z c.ranges.cost

pub judge_at-requires-then-high-v : goal.judge_at-requires-then-high-v
judge_at-requires-then-high-v c = (c.requires, touches_at c.args.network _ c.args.network.reserved (inr refl), sym c.if-high-v.true)

pub returns-then-high-v : goal.returns-then-high-v
returns-then-high-v c =
    let a = c.args in c.judge_at-then-high-v.ensures ∙ cost-kept a.network a.v a.x a.y a.z c.ranges.cost

pub returns : goal.returns
unfolding touches refusal_of
returns c = no_end c.args.network _ (rw (ne_eqb _ _ c.if-low-v.false, ne_eqb _ _ c.if-high-v.false))
