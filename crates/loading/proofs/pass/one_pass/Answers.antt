-- `loading::pass::one_pass` meets its contract.
use mathlib.Core.Path.{◌∙◌, sym}
use Rattle.base.specs.Answer.{refusal_of}
use Rattle.network_frames.proofs.Passed.{head_fine}
use Rattle.loading.specs.Pass.{pass_behind, pass_of}
use Rattle.loading.proofs.Counting.{counted_none}
use Rattle.loading.proofs.pass.one_pass.Goals as goal

pub pass_behind-requires : goal.pass_behind-requires
pass_behind-requires c = (head_fine _ c.in-Ok.ensures).few

pub returns-in-Ok : goal.returns-in-Ok
unfolding pass_of pass_behind
returns-in-Ok c = c.pass_behind.ensures ∙ rw (sym c.in-Ok.ensures)

pub returns-in-Err : goal.returns-in-Err
unfolding pass_of pass_behind refusal_of
returns-in-Err c = rw (sym c.in-Err.ensures, c.nothing.ensures, counted_none)
