-- `chain_text::chain::write_chain` meets its contract.
use mathlib.Core.Logic.{⊎_elim}
use mathlib.Core.Path.{sym, ◌∙◌}
use Prim.Native.Nat.{◌-◌}
use native.Mathlib.Omega.{arith}
use Rattle.base.specs.Limits.{fewest_vertices}
use Rattle.base.proofs.Answers.{refuses}
use Rattle.base.proofs.LimitLaws.{vertices-within}
use Rattle.chain_text.specs.Columns.{columns}
use Rattle.chain_text.specs.Text.{Even}
use Rattle.chain_text.proofs.Columns.{write-limits, write-uneven, write-room, write-short, write-fits}
use Rattle.chain_text.proofs.chain.write_chain.Goals as goal
use Rattle.chain_text.proofs.chain.write_chain.Goals.{After-chain_length}

-- the columns have passed their test
even : (c : After-chain_length)
    → let a = c.args in Even (a.vertices - fewest_vertices) (columns a.v.now a.x.now a.y.now a.z.now a.cost.now)
even c =
    record {
      v = omega arith;
      x = omega arith;
      y = omega arith;
      z = omega arith;
      cost = omega arith;
    }

pub returns-then-not-vertices_ok : goal.returns-then-not-vertices_ok
returns-then-not-vertices_ok c = refuses _ _ _ (write-limits _ _ _ (sym c.vertices_ok.ensures ∙ c.if-not-vertices_ok.true))

pub overflow_sub-steps : goal.overflow_sub-steps
overflow_sub-steps c = (vertices-within _ (sym c.vertices_ok.ensures ∙ c.if-not-vertices_ok.false)).0

pub returns-then-v-steps : goal.returns-then-v-steps
returns-then-v-steps c =
    refuses _ _ _
    (write-uneven _ _ _ (sym c.vertices_ok.ensures ∙ c.if-not-vertices_ok.false)
    (λ e.
    ⊎_elim (λ w. omega (arith, e.v, w))
    (⊎_elim (λ w. omega (arith, e.x, w))
    (⊎_elim (λ w. omega (arith, e.y, w))
    (⊎_elim (λ w. omega (arith, e.z, w))
    (λ w. omega (arith, e.cost, w)))))
    c.then-v-steps.either))

pub chain_length-requires : goal.chain_length-requires
chain_length-requires c =
    omega (arith, vertices-within _ (sym c.vertices_ok.ensures ∙ c.if-not-vertices_ok.false))

pub returns-then-text-chain_length : goal.returns-then-text-chain_length
returns-then-text-chain_length c =
    write-short _ (even (goal.at.returns-then-text-chain_length c).After-chain_length) _ c.chain_length.ensures _
    (sym c.vertices_ok.ensures ∙ c.if-not-vertices_ok.false)
    c.if-text-chain_length.true

pub put_chain-requires : goal.put_chain-requires
put_chain-requires c =
    let e = even (goal.at.put_chain-requires c).After-chain_length in
    let room = write-room _ e c.args.dropped c.chain_length.ensures _ c.if-text-chain_length.false in
    (omega arith, omega arith, omega arith, omega arith, room)

pub returns : goal.returns
returns c =
    write-fits _ (even (goal.at.returns c).After-chain_length) _ c.chain_length.ensures _
    (sym c.vertices_ok.ensures ∙ c.if-not-vertices_ok.false)
    c.if-text-chain_length.false c.put_chain.ensures
