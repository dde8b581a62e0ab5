-- `network_frames::read_edge` meets its contract.
use Rattle.std.proofs.Common.{rules}
use Rattle.base.specs.Answer.{and_then}
use Rattle.base.proofs.Answers.{unless-met, unless-passed}
use Rattle.frame.specs.Line.{read_line, line_at}
use Rattle.frame.proofs.Runs.{next-read}
use Rattle.network_frames.specs.Frames.{edge_in, read_edge}
use Rattle.network_frames.proofs.read_edge.Goals as goal

pub returns-in_default : goal.returns-in_default
unfolding read_edge and_then read_line line_at
returns-in_default c = search rules

pub of-edge-requires : goal.of-edge-requires
of-edge-requires c = (next-read _ _ _ _ _ c.in-Ok.ensures).fits

pub returns-in_err-check_edge : goal.returns-in_err-check_edge
unfolding read_edge edge_in and_then
returns-in_err-check_edge c = search (rules, unless-met)

pub returns : goal.returns
unfolding read_edge edge_in and_then
returns c = search (rules, unless-passed)
