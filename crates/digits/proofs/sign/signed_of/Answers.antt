-- `digits::sign::signed_of` meets its contract.
-- Assumes nothing.
use Rattle.digits.proofs.Signs.{lower-half, upper-half, upper_fits}
use Rattle.digits.proofs.sign.signed_of.Goals as goal

pub overflow_sub-result : goal.overflow_sub-result
overflow_sub-result c =
    let h = c.half_of-half in
    upper_fits c.args.digits _ h.result h.ensures.0 h.ensures.1 c.if-number-half.false
    c.requires.2

pub returns-then-number-half : goal.returns-then-number-half
returns-then-number-half c =
    let h = c.half_of-half in
    lower-half c.args.digits _ h.result h.ensures.0 h.ensures.1 c.if-number-half.true

pub returns-else-number-half : goal.returns-else-number-half
returns-else-number-half c =
    let h = c.half_of-half in
    upper-half c.args.digits _ h.result h.ensures.0 h.ensures.1 c.if-number-half.false
    c.requires.2
