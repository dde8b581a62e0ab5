-- `frame::kinds::Edge::fields` meets its contract.
-- Assumes nothing.
use lib.Dec.{lit<}
use mir.Facts.{to_z-of_z}
use Rattle.frame.specs.Table.{EDGE, padded, bytes_of, digits_of}
use Rattle.frame.specs.Kinds.{cost_digits}
use Rattle.frame.proofs.Rows.{digits-narrow}
use Rattle.frame.proofs.kinds.Edge.fields.Goals as goal

pub unsigned_of-requires : goal.unsigned_of-requires
unfolding cost_digits digits_of bytes_of padded
unsigned_of-requires c =
    rw (c.digits_of.ensures, to_z-of_z (record { sfits = c.struct_told-1.given.1.1.1.0.1 }))
    (lit< tt, digits-narrow EDGE (lit< tt) 3 (lit< tt), c.requires)

pub returns : goal.returns
unfolding cost_digits
returns c =
    rw (
      c.unsigned_of.ensures,
      c.digits_of.ensures,
      to_z-of_z (record { sfits = c.struct_told-1.given.1.1.1.0.1 }),
    )
