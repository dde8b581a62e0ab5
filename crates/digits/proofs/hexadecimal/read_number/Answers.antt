-- `digits::hexadecimal::read_number` meets its contract. The loop's invariant is `Reading`.
-- Assumes nothing.
use native.Mathlib.Omega.{arith}
use borrow.Author.Rules.{rules}
use Rattle.digits.proofs.Spelling.{reading-none, reading-end, reading-stop, reading-fits}
use Rattle.digits.proofs.hexadecimal.read_number.Goals as goal

pub loop-byte-init : goal.loop-byte-init
loop-byte-init c = reading-none c.args.text.now

pub returns-then-value-ge-BASE : goal.returns-then-value-ge-BASE
returns-then-value-ge-BASE c =
    let l = c.loop-byte in
    reading-stop _ l.number l.byte-index l.invariant _ c.value_of-value.ensures (search rules) c.if-value-ge-BASE.true

pub overflow_mul-number : goal.overflow_mul-number
overflow_mul-number c =
    let l = c.loop-byte in
    omega (
      arith,
      reading-fits _ l.number l.byte-index l.invariant _ c.value_of-value.ensures (search rules) (search rules)
          c.if-value-ge-BASE.false,
    )

pub overflow_add-number : goal.overflow_add-number
overflow_add-number c =
    let l = c.loop-byte in
    record {
      fits = reading-fits _ l.number l.byte-index l.invariant _ c.value_of-value.ensures (search rules)
          (search rules) c.if-value-ge-BASE.false;
    }

pub returns : goal.returns
returns c = reading-end _ c.loop-byte.number c.loop-byte.byte-index c.loop-byte.invariant (search rules)
