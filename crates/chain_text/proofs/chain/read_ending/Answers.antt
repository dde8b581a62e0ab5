-- `chain_text::chain::read_ending` meets its contract.
use native.Mathlib.Omega.{arith}
use Rattle.frame.proofs.Runs.{next-read}
use Rattle.chain_text.proofs.Parsing.{ending-broken, ending-left, ending-read}
use Rattle.chain_text.proofs.Texts.{dropped-short}
use Rattle.chain_text.proofs.chain.read_ending.Goals as goal

pub returns-in_default : goal.returns-in_default
returns-in_default c = ending-broken _ _ c.in_default.ensures

pub returns-then-end-text : goal.returns-then-end-text
returns-then-end-text c = ending-left _ _ (next-read _ _ _ _ _ c.in-Ok.ensures) (omega (arith, c.if-end-text.true))

pub overflow_cast-result : goal.overflow_cast-result
overflow_cast-result c =
    rw c.of.ensures (omega (arith, dropped-short _ (next-read _ _ _ _ _ c.in-Ok.ensures).fits))

pub returns : goal.returns
returns c =
    ending-read _ _ (next-read _ _ _ _ _ c.in-Ok.ensures) (omega (arith, c.if-end-text.false)) c.of.ensures
