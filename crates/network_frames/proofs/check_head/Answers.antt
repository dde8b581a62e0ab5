-- `network_frames::check_head` meets its contract.
use mathlib.Core.Path.{sym, ◌∙◌}
use native.Mathlib.Omega.{arith}
use borrow.Author.Tests.{lt-ltb, le-ltb}
use Rattle.base.specs.Answer.{refusal_of}
use Rattle.network_frames.specs.Frames.{head_refusal}
use Rattle.base.proofs.LimitLaws.{vertices-within}
use Rattle.network_frames.proofs.check_head.Goals as goal

pub returns-then-not-vertices_ok : goal.returns-then-not-vertices_ok
unfolding head_refusal refusal_of
returns-then-not-vertices_ok c = rw (sym c.vertices_ok.ensures ∙ c.if-not-vertices_ok.true)

pub overflow_mul-vertices : goal.overflow_mul-vertices
overflow_mul-vertices c = omega (arith, vertices-within _ (sym c.vertices_ok.ensures ∙ c.if-not-vertices_ok.false))

pub returns-then-reserved-vertices : goal.returns-then-reserved-vertices
unfolding head_refusal refusal_of
returns-then-reserved-vertices c =
    rw
    (sym c.vertices_ok.ensures ∙ c.if-not-vertices_ok.false, lt-ltb _ _ c.if-reserved-vertices.true)

pub returns-else-reserved-vertices : goal.returns-else-reserved-vertices
unfolding head_refusal refusal_of
returns-else-reserved-vertices c =
    rw
    (sym c.vertices_ok.ensures ∙ c.if-not-vertices_ok.false, le-ltb _ _ c.if-reserved-vertices.false)
