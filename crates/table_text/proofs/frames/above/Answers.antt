-- `table_text::frames::above` meets its contract.
use borrow.Author.Tests.{lt-ltb, le-ltb, eq-eqb, ne_eqb}
use Rattle.table_text.specs.Frames.{above}
use Rattle.table_text.proofs.frames.above.Goals as goal

pub returns-then-lower-span : goal.returns-then-lower-span
unfolding above
returns-then-lower-span c = rw (lt-ltb _ _ c.if-lower-span.true)

pub returns-then-lower-span-2 : goal.returns-then-lower-span-2
unfolding above
returns-then-lower-span-2 c = rw (le-ltb _ _ c.if-lower-span.false, eq-eqb _ _ c.if-lower-span-2.true)

pub returns-else-lower-span-2 : goal.returns-else-lower-span-2
unfolding above
returns-else-lower-span-2 c = rw (le-ltb _ _ c.if-lower-span.false, ne_eqb _ _ c.if-lower-span-2.false)
