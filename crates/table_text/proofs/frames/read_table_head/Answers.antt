-- `table_text::frames::read_table_head` meets its contract.
use Prim.Native.Nat.{◌≤◌}
use native.Mathlib.Omega.{arith}
use borrow.Author.Rules.{rules}
use Rattle.base.specs.Answer.{and_then, refusal_of}
use Rattle.base.proofs.Answers.{unless-met, unless-passed}
use Rattle.frame.proofs.Runs.{only-form}
use Rattle.network_frames.specs.Frames.{head_refusal}
use Rattle.network_frames.proofs.Passed.{head_passed}
use Rattle.table_text.specs.Frames.{table_head_in, read_table_head}
use Rattle.table_text.proofs.frames.read_table_head.Goals as goal

pub returns-in_default : goal.returns-in_default
unfolding read_table_head and_then
returns-in_default c = rw (← c.in_default.ensures, only-form _ _ _ _ c.in_default.ensures)

pub returns-in_err-check_head : goal.returns-in_err-check_head
unfolding read_table_head table_head_in and_then
returns-in_err-check_head c = search (rules, unless-met)

pub check_count-requires : goal.check_count-requires
unfolding refusal_of
check_count-requires c =
    let h = c.of-head.result in
    let passed : head_refusal h.vertices h.reserved ≤ 0 = omega (arith, c.in_ok-check_head.ensures) in
    (head_passed _ _ passed).few

pub returns-in_err-check_count : goal.returns-in_err-check_count
unfolding read_table_head table_head_in and_then
returns-in_err-check_count c = grind (arith, unless-passed, unless-met)

pub returns : goal.returns
unfolding read_table_head table_head_in and_then
returns c = grind (arith, unless-passed)
