-- `connection::words::VertexSet::first` meets its contract.
use native.Mathlib.Omega.{arith}
use Rattle.connection.proofs.Sets.{lowest-from, lowest-after, lowest-end}
use Rattle.connection.proofs.words.VertexSet.first.Goals as goal

pub returns-then-zeros-lt-WORD_BITS : goal.returns-then-zeros-lt-WORD_BITS
returns-then-zeros-lt-WORD_BITS c = omega (arith, lowest-from c.args.self.now.words c.loop-i.i (omega arith) (omega arith))

pub loop-i-preserved : goal.loop-i-preserved
loop-i-preserved c = omega (arith, lowest-after c.args.self.now.words c.loop-i.i (omega arith) (omega arith))

pub returns : goal.returns
returns c = omega (arith, lowest-end c.args.self.now.words c.loop-i.i (omega arith))
