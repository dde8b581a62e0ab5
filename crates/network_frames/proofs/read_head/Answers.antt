-- `network_frames::read_head` meets its contract.
use Rattle.std.proofs.Common.{rules}
use Rattle.base.specs.Answer.{and_then}
use Rattle.base.proofs.Answers.{unless-met, unless-passed}
use Rattle.frame.specs.Line.{read_line, line_at}
use Rattle.network_frames.specs.Frames.{head_in, read_head}
use Rattle.network_frames.proofs.read_head.Goals as goal

pub returns-in_default : goal.returns-in_default
unfolding read_head and_then read_line line_at
returns-in_default c = search rules

pub returns-in_err-check_head : goal.returns-in_err-check_head
unfolding read_head head_in and_then
returns-in_err-check_head c = search (rules, unless-met)

pub returns : goal.returns
unfolding read_head head_in and_then
returns c = search (rules, unless-passed)
