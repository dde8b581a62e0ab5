-- `chain_text::chain::parse_chain` meets its contract.
use mathlib.Core.Path.{◌≡◌, sym, ◌∙◌}
use Prim.Native.Nat.{◌-◌, ◌≤◌}
use native.Mathlib.Omega.{arith}
use lib.ListN.{length}
use borrow.Author.Rules.{rules}
use Rattle.std.proofs.Common.{Err}
use Rattle.base.specs.Limits.{fewest_vertices, step_limit}
use Rattle.base.proofs.LimitLaws.{vertices-within}
use Rattle.chain_text.specs.Columns.{Columns, columns}
use Rattle.chain_text.specs.Text.{chain_length}
use Rattle.chain_text.proofs.Columns.{each}
use Rattle.chain_text.proofs.Lengths.{chain-short}
use Rattle.chain_text.proofs.Parsing.{out-of-limits, steps-refused, ending-refused, chain-read}
use Rattle.chain_text.proofs.chain.parse_chain.Goals as goal

pub returns-then-not-vertices_ok : goal.returns-then-not-vertices_ok
returns-then-not-vertices_ok c = out-of-limits _ _ _ (sym c.vertices_ok.ensures ∙ c.if-not-vertices_ok.true)

pub overflow_sub-steps : goal.overflow_sub-steps
overflow_sub-steps c = (vertices-within _ (sym c.vertices_ok.ensures ∙ c.if-not-vertices_ok.false)).0

pub read_steps-requires : goal.read_steps-requires
read_steps-requires c =
    let cols : Columns =
    let a = c.args in columns a.v.now a.x.now a.y.now a.z.now a.cost.now in
    let few = vertices-within _ (sym c.vertices_ok.ensures ∙ c.if-not-vertices_ok.false) in
    each (λ A part (h : step_limit ≤ length (part cols)). omega (arith, few)) c.requires

pub returns-in_err-read_steps : goal.returns-in_err-read_steps
returns-in_err-read_steps c =
    let e : c.from_residual.result ≡ Err c.in_err-read_steps.field-0.0 = search rules in
    rw e
    (steps-refused _ _ _ (sym c.vertices_ok.ensures ∙ c.if-not-vertices_ok.false) c.in_err-read_steps.ensures)

pub overflow_mul-steps : goal.overflow_mul-steps
unfolding chain_length
overflow_mul-steps c =
    let few = vertices-within _ (sym c.vertices_ok.ensures ∙ c.if-not-vertices_ok.false) in
    let steps = c.args.vertices - fewest_vertices in
    record { fits = rw c.length_of.ensures (omega (arith, chain-short steps (omega arith))) }

pub returns-in_err-dropped : goal.returns-in_err-dropped
returns-in_err-dropped c =
    let e : c.from_residual-in_err-dropped.result ≡ Err c.in_err-dropped.field-0.0 = search rules in
    rw e
    (ending-refused _ _ _ (sym c.vertices_ok.ensures ∙ c.if-not-vertices_ok.false) c.in_ok-read_steps.ensures
    c.length_of.ensures
    c.in_err-dropped.ensures
    (record {
      v = search rules;
      x = search rules;
      y = search rules;
      z = search rules;
      cost = search rules;
    }))

pub returns : goal.returns
returns c =
    chain-read _ _ _ (sym c.vertices_ok.ensures ∙ c.if-not-vertices_ok.false) c.in_ok-read_steps.ensures
    c.length_of.ensures
    c.in_ok-dropped.ensures
