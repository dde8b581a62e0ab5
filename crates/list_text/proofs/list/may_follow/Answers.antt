-- `list_text::list::may_follow` meets its contract.
use native.Mathlib.Omega.{arith}
use borrow.Author.Tests.{le-leb, lt-leb}
use Rattle.list_text.proofs.list.may_follow.Goals as goal

pub returns-then-least-edge : goal.returns-then-least-edge
returns-then-least-edge c = rw (le-leb c.args.least c.args.edge (omega arith))

pub returns-else-least-edge : goal.returns-else-least-edge
returns-else-least-edge c = rw (lt-leb c.args.least c.args.edge (omega arith))
