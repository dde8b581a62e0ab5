-- `reasons_text::put_reason` meets its contract.
-- Assumes nothing.
use Rattle.reasons_text.proofs.put_reason.Goals as goal

pub returns : goal.returns
returns c = (c.put_line.ensures.0, rw c.fields.ensures at c.put_line.ensures.1)
