-- `table_text::frames::read_span` meets its contract.
use borrow.Author.Rules.{rules}
use Rattle.base.specs.Answer.{and_then}
use Rattle.base.proofs.Answers.{unless-met, unless-passed}
use Rattle.frame.proofs.Runs.{only-form, next-read}
use Rattle.table_text.specs.Frames.{span_in, read_span}
use Rattle.table_text.proofs.frames.read_span.Goals as goal

pub returns-in_default : goal.returns-in_default
unfolding read_span and_then
returns-in_default c = rw (← c.in_default.ensures, only-form _ _ _ _ c.in_default.ensures)

pub of-span-requires : goal.of-span-requires
of-span-requires c = (next-read _ _ _ _ _ c.in-Ok.ensures).fits

pub returns-in_err-check_span : goal.returns-in_err-check_span
unfolding read_span span_in and_then
returns-in_err-check_span c = search (rules, unless-met)

pub returns : goal.returns
unfolding read_span span_in and_then
returns c = search (rules, unless-passed)
