-- `thinning::chain::check_ending` meets its contract.
use mathlib.Core.Path.{◌≡◌, refl, sym, ◌∙◌, ap}
use mathlib.Core.List.{List}
use Prim.Native.Nat.{ℕ}
use native.Mathlib.Omega.{arith}
use borrow.Author.Rules.{rules}
use lib.ListN.{drop, length-drop}
use Rattle.std.proofs.Common.{Err}
use Rattle.base.specs.Answer.{refusal_of}
use Rattle.departures.specs.Columns.{ending_noted}
use Rattle.frame.specs.Table.{DROPPED}
use Rattle.frame.specs.Kinds.{dropped_of}
use Rattle.frame.specs.declared.kinds.Dropped.{Dropped}
use Rattle.frame.specs.declared.line.Fields.{Fields}
use Rattle.frame.proofs.Runs.{Next, next-read, none_read}
use Rattle.graph.specs.Chain.{end_refusal}
use Rattle.rules.proofs.Steps.{dropped-below}
use Rattle.claim.specs.Verdicts.{dropped_in}
use Rattle.claim.proofs.Chains.{refused-leaves, kept_leaves, ending-broken, ending-met, ending-longer}
use Rattle.claim.proofs.Chains.{ending-kept}
use Rattle.thinning.proofs.chain.check_ending.Goals as goal
use Rattle.thinning.proofs.chain.check_ending.Goals.{In_ok-judge_ending}

-- the edge that a line drops
dropped : {at : ℕ} {text : List ℕ} {f : Fields} {next : ℕ} {d : Dropped} → Next DROPPED at text f next → d ≡ dropped_of f
    → d.edge ≡ dropped_in (drop at text)
dropped read e = ap (λ d. d.edge) e ∙ ap (λ f. (dropped_of f).edge) read.fields

-- it is a dearest of the last three
passed : (c : In_ok-judge_ending) → end_refusal c.args.network (dropped_in (drop c.args.at c.args.chain.now)) ≡ 0
unfolding refusal_of
passed c =
    let edge = dropped (next-read _ _ _ _ _ c.in-Ok.ensures) c.of-edge.ensures in
    sym (c.in_ok-judge_ending.ensures ∙ ap (end_refusal c.args.network) edge)

pub returns-in_default : goal.returns-in_default
returns-in_default c =
    let a = c.args in
    let none = none_read DROPPED a.at a.chain.now c.in_default.ensures in
    let left = refused-leaves (ending-broken a.network _ none) in
    record { refusal = left.0; rules = left.1 _ a.noted.now.rules; steps = refl }

pub returns-in_err-judge_ending : goal.returns-in_err-judge_ending
returns-in_err-judge_ending c =
    let a = c.args in
    let read = next-read _ _ _ _ _ c.in-Ok.ensures in
    let e : c.from_residual.result ≡ Err c.in_err-judge_ending.field-0.0 = search rules in
    let judged = c.in_err-judge_ending.ensures ∙ ap (end_refusal a.network) (dropped read c.of-edge.ensures) in
    let left = refused-leaves (ending-met a.network _ read.is _ judged) in
    record { refusal = rw e left.0; rules = left.1 _ a.noted.now.rules; steps = refl }

pub returns-then-next-chain : goal.returns-then-next-chain
returns-then-next-chain c =
    let passed = passed (goal.at.returns-then-next-chain c).In_ok-judge_ending in
    let a = c.args in
    let read = next-read _ _ _ _ _ c.in-Ok.ensures in
    let size = length-drop a.at a.chain.now in
    let left =
    refused-leaves
    (ending-longer a.network _ read.is passed (omega (arith, read.place, c.if-next-chain.true))) in
    record { refusal = left.0; rules = left.1 _ a.noted.now.rules; steps = refl }

pub note_ending-requires : goal.note_ending-requires
note_ending-requires c =
    let passed = passed (goal.at.note_ending-requires c).In_ok-judge_ending in
    let edge = dropped (next-read _ _ _ _ _ c.in-Ok.ensures) c.of-edge.ensures in
    let run = c.requires.run in (
      omega (arith, run.sound.formed.reserved_below, run.edge_room),
      omega (arith, edge, dropped-below run _ passed),
    )

pub returns : goal.returns
returns c =
    let passed = passed (goal.at.returns c).In_ok-judge_ending in
    let a = c.args in
    let read = next-read _ _ _ _ _ c.in-Ok.ensures in
    let size = length-drop a.at a.chain.now in
    let left =
    kept_leaves
    (ending-kept a.network _ read.is passed (omega (arith, read.place, c.if-next-chain.false))) in record {
      refusal = left.0;
      rules = c.note_ending.ensures.rules
          ∙ ap (λ d. ending_noted a.network.reserved d a.noted.now.rules) (dropped read c.of-edge.ensures)
          ∙ left.1 _ a.noted.now.rules;
      steps = c.note_ending.ensures.steps;
    }
