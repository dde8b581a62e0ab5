-- `chain_text::chain::read_chain` meets its contract.
use mathlib.Core.Logic.{⊎_elim}
use mathlib.Core.Path.{◌≡◌}
use native.Mathlib.Omega.{arith}
use borrow.Author.Rules.{rules}
use Rattle.std.proofs.Common.{Err}
use Rattle.chain_text.specs.Columns.{Columns, columns}
use Rattle.chain_text.specs.Working.{Room}
use Rattle.chain_text.proofs.Given.{stored, read-refused, no_room, all-written}
use Rattle.chain_text.proofs.chain.read_chain.Goals as goal

pub returns-in_err-read : goal.returns-in_err-read
returns-in_err-read c =
    let e : c.from_residual.result ≡ Err c.in_err-read.field-0.0 = search rules in
    rw e (read-refused _ _ _ c.in_err-read.ensures)

pub returns-then-v-steps : goal.returns-then-v-steps
returns-then-v-steps c =
    let lent : Columns =
    let a = c.args in columns a.v.now a.x.now a.y.now a.z.now a.cost.now in
    no_room _ _ lent (stored c.in_ok-read.ensures)
    (λ (h : Room c.in_ok-read.read.steps lent).
    ⊎_elim (λ w. omega (arith, h.v, w))
    (⊎_elim (λ w. omega (arith, h.x, w))
    (⊎_elim (λ w. omega (arith, h.y, w))
    (⊎_elim (λ w. omega (arith, h.z, w))
    (λ w. omega (arith, h.cost, w)))))
    c.then-v-steps.either)

pub copy-requires : goal.copy-requires
copy-requires c = (omega (arith, (stored c.in_ok-read.ensures).starts.v.within), omega arith)

pub copy-requires-2 : goal.copy-requires-2
copy-requires-2 c = (omega (arith, (stored c.in_ok-read.ensures).starts.x.within), omega arith)

pub copy-requires-3 : goal.copy-requires-3
copy-requires-3 c = (omega (arith, (stored c.in_ok-read.ensures).starts.y.within), omega arith)

pub copy-requires-4 : goal.copy-requires-4
copy-requires-4 c = (omega (arith, (stored c.in_ok-read.ensures).starts.z.within), omega arith)

pub copy-requires-5 : goal.copy-requires-5
copy-requires-5 c = (omega (arith, (stored c.in_ok-read.ensures).starts.cost.within), omega arith)

pub returns : goal.returns
returns c =
    let lent : Columns =
    let a = c.args in columns a.v.now a.x.now a.y.now a.z.now a.cost.now in
    let room : Room c.in_ok-read.read.steps lent =
    record {
      v = omega arith;
      x = omega arith;
      y = omega arith;
      z = omega arith;
      cost = omega arith;
    } in
    rw (c.copy.ensures, c.copy-2.ensures, c.copy-3.ensures, c.copy-4.ensures, c.copy-5.ensures)
    (all-written _ _ _ (stored c.in_ok-read.ensures) room)
