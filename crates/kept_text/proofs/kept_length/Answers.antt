-- `kept_text::kept_length` meets its contract.
use native.Mathlib.Omega.{arith}
use Rattle.kept_text.specs.Text.{kept_length}
use Rattle.kept_text.proofs.Texts.{marked-short}
use Rattle.kept_text.proofs.kept_length.Goals as goal

pub overflow_mul-result : goal.overflow_mul-result
unfolding kept_length
overflow_mul-result c =
    let short = marked-short c.args.kept.now c.count_kept.ensures c.requires.1 in
    record { fits = rw c.length_of.ensures (omega (arith, short)) }

pub overflow_add-result : goal.overflow_add-result
unfolding kept_length
overflow_add-result c =
    let short = marked-short c.args.kept.now c.count_kept.ensures c.requires.1 in
    record { fits = rw (c.length_of.ensures, c.length_of-2.ensures) (omega (arith, short)) }

pub returns : goal.returns
unfolding kept_length
returns c = rw (c.count_kept.ensures, c.length_of.ensures, c.length_of-2.ensures)
