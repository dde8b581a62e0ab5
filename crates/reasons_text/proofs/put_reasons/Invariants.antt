-- What the loop of `reasons_text::put_reasons` keeps.
use Rattle.base.proofs.Writing.{Written}
use Rattle.reasons_text.specs.Text.{reasons_text}
use Rattle.reasons_text.proofs.Texts.{lines_from}
use Rattle.reasons_text.proofs.put_reasons.Given as goal

abbrev pub invariant-loop-edge : goal.invariant-loop-edge
invariant-loop-edge l =
    Written (reasons_text l.edges l.rules l.steps) (lines_from l.edges l.rules l.steps l.edge) l.initial.text l.text
    l.at
