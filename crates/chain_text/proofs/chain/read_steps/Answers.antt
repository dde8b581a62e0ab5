-- `chain_text::chain::read_steps` meets its contract.
use native.Mathlib.Omega.{arith}
use mir.Syntax.{w64}
use mir.Val.{SFits}
use mir.Facts.{to_z-of_z}
use borrow.Author.Rules.{rules}
use Rattle.frame.proofs.Runs.{next-read}
use Rattle.chain_text.proofs.Reading.{reading-none, reading-broken, step-words, reading-next, reading-all}
use Rattle.chain_text.proofs.chain.read_steps.Goals as goal

pub loop-i-init : goal.loop-i-init
loop-i-init c = reading-none

pub returns-in_default : goal.returns-in_default
returns-in_default c = reading-broken c.loop-i.invariant (search rules) c.in_default.ensures

pub of-step-requires : goal.of-step-requires
of-step-requires c = (next-read _ _ _ _ _ c.in-Ok.ensures).fits

pub overflow_cast-v : goal.overflow_cast-v
overflow_cast-v c = omega (arith, step-words (next-read _ _ _ _ _ c.in-Ok.ensures) c.of-step.ensures)

pub overflow_cast-x : goal.overflow_cast-x
overflow_cast-x c = omega (arith, step-words (next-read _ _ _ _ _ c.in-Ok.ensures) c.of-step.ensures)

pub overflow_cast-y : goal.overflow_cast-y
overflow_cast-y c = omega (arith, step-words (next-read _ _ _ _ _ c.in-Ok.ensures) c.of-step.ensures)

pub overflow_cast-z : goal.overflow_cast-z
overflow_cast-z c = omega (arith, step-words (next-read _ _ _ _ _ c.in-Ok.ensures) c.of-step.ensures)

pub loop-i-preserved : goal.loop-i-preserved
loop-i-preserved c =
    let small : SFits w64 c.of-step.result.cost =
    record { sfits = omega arith } in
    rw (to_z-of_z small)
    (reading-next c.loop-i.invariant (search rules) c.requires (next-read _ _ _ _ _ c.in-Ok.ensures) c.of-step.ensures)

pub returns : goal.returns
returns c = reading-all c.loop-i.invariant (search rules)
