-- `page::lines::page_length` meets its contract.
use native.Mathlib.Omega.{arith}
use Rattle.kept_text.proofs.Texts.{few-kept}
use Rattle.page.specs.Page.{page_length}
use Rattle.page.proofs.lines.page_length.Goals as goal

pub overflow_add-result : goal.overflow_add-result
overflow_add-result c =
    omega (arith, c.count_kept.ensures, few-kept c.args.edges c.args.listed.now, c.requires.1)

pub overflow_mul-result : goal.overflow_mul-result
overflow_mul-result c =
    omega (arith, c.count_kept.ensures, few-kept c.args.edges c.args.listed.now, c.requires.1)

pub returns : goal.returns
unfolding page_length
returns c = rw c.count_kept.ensures (omega arith)
