-- `frame::kinds::Costs::fields` meets its contract.
-- Assumes nothing.
use mathlib.Core.Path.{refl}
use mir.Facts.{to_z-of_z}
use Rattle.frame.specs.Table.{COSTS, padded, bytes_of, digits_of}
use Rattle.frame.specs.Kinds.{kept_digits, unreserved_digits}
use Rattle.frame.proofs.Named.{word-spelt}
use Rattle.frame.proofs.kinds.Costs.fields.Goals as goal

pub unsigned_of-requires : goal.unsigned_of-requires
unfolding digits_of bytes_of padded
unsigned_of-requires c =
    let l = c.struct_told-1.given.0.1 in
    rw (c.digits_of.ensures, to_z-of_z (record { sfits = l }))
    (word-spelt (digits_of COSTS 0) refl l)

pub unsigned_of-requires-2 : goal.unsigned_of-requires-2
unfolding digits_of bytes_of padded
unsigned_of-requires-2 c =
    let l = c.struct_told-2-1.given.1.0.1 in
    rw (c.digits_of-2.ensures, to_z-of_z (record { sfits = l }))
    (word-spelt (digits_of COSTS 1) refl l)

pub returns : goal.returns
unfolding kept_digits unreserved_digits
returns c =
    rw (
      c.unsigned_of.ensures,
      c.digits_of.ensures,
      to_z-of_z (record { sfits = c.struct_told-1.given.0.1 }),
      c.unsigned_of-2.ensures,
      c.digits_of-2.ensures,
      to_z-of_z (record { sfits = c.struct_told-2-1.given.1.0.1 }),
    )
