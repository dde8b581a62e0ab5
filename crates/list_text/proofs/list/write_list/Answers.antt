-- `list_text::list::write_list` meets its contract.
use mathlib.Core.Path.{◌≡◌, ◌∙◌, ap}
use native.Mathlib.Omega.{arith}
use borrow.Author.Rules.{rules}
use Rattle.std.proofs.Common.{Err}
use Rattle.base.specs.Answer.{answer, refusal_of}
use Rattle.base.proofs.Answers.{refuses, short, fits}
use Rattle.list_text.specs.Text.{list_text}
use Rattle.list_text.proofs.Texts.{check-refused, check_done}
use Rattle.list_text.proofs.list.write_list.Goals as goal

pub returns-in_err-check_edges : goal.returns-in_err-check_edges
unfolding refusal_of
returns-in_err-check_edges c =
    let e : c.from_residual.result ≡ Err c.in_err-check_edges.field-0.0 = search rules in
    rw e (refuses _ c.args.text.now _ (check-refused _ _ _ c.in_err-check_edges.ensures))

pub overflow_mul-edges : goal.overflow_mul-edges
unfolding refusal_of
overflow_mul-edges c =
    let checked = check_done _ _ _ c.in_ok-check_edges.ensures c.length_of.ensures in
    omega (arith, checked.small)

pub returns-then-text-edges : goal.returns-then-text-edges
unfolding refusal_of
returns-then-text-edges c =
    let checked = check_done _ _ _ c.in_ok-check_edges.ensures c.length_of.ensures in
    short _ _ _ checked.is (omega (arith, checked.measure, c.if-text-edges.true))

pub put_list-requires : goal.put_list-requires
unfolding refusal_of
put_list-requires c =
    let checked = check_done _ _ _ c.in_ok-check_edges.ensures c.length_of.ensures in
    omega (arith, checked.measure, c.if-text-edges.false)

pub returns : goal.returns
unfolding refusal_of
returns c =
    let checked = check_done _ _ _ c.in_ok-check_edges.ensures c.length_of.ensures in
    let long = c.if-text-edges.false in
    let y = fits _ c.args.text.now (list_text c.args.edges.now) checked.is (omega (arith, checked.measure, long)) in
    (ap answer c.put_list.ensures.0 ∙ y.0, c.put_list.ensures.1 ∙ y.1)
