-- `frame::kinds::Step::fields` meets its contract.
-- Assumes nothing.
use mathlib.Core.Path.{refl}
use mir.Facts.{to_z-of_z}
use Rattle.frame.specs.Table.{STEP, padded, bytes_of, digits_of}
use Rattle.frame.specs.Kinds.{step_cost_digits}
use Rattle.frame.proofs.Named.{word-spelt}
use Rattle.frame.proofs.kinds.Step.fields.Goals as goal

pub unsigned_of-requires : goal.unsigned_of-requires
unfolding digits_of bytes_of padded
unsigned_of-requires c =
    let l = c.struct_told-1.given.1.1.1.1.0.1 in
    rw (c.digits_of.ensures, to_z-of_z (record { sfits = l })) (word-spelt (digits_of STEP 4) refl l)

pub returns : goal.returns
unfolding step_cost_digits
returns c =
    rw (
      c.unsigned_of.ensures,
      c.digits_of.ensures,
      to_z-of_z (record { sfits = c.struct_told-1.given.1.1.1.1.0.1 }),
    )
