-- `frame::kinds::Costs::of` meets its contract.
-- Assumes nothing.
use lib.Dec.{lit<}
use mir.Facts.{to_z-of_z}
use Rattle.frame.specs.Table.{COSTS, padded, bytes_of, digits_of}
use Rattle.frame.specs.Kinds.{kept_digits, unreserved_digits}
use Rattle.frame.proofs.Named.{signed-asked}
use Rattle.frame.proofs.kinds.Costs.of.Goals as goal

pub signed_of-requires : goal.signed_of-requires
unfolding digits_of bytes_of padded
signed_of-requires c = rw c.digits_of.ensures (signed-asked COSTS c.args.f c.requires (lit< tt) 0 (lit< tt) (lit< tt))

pub signed_of-requires-2 : goal.signed_of-requires-2
unfolding digits_of bytes_of padded
signed_of-requires-2 c = rw c.digits_of-2.ensures (signed-asked COSTS c.args.f c.requires (lit< tt) 1 (lit< tt) (lit< tt))

pub returns : goal.returns
unfolding kept_digits unreserved_digits
returns c =
    rw (
      to_z-of_z (record { sfits = c.signed_of.type_inv }),
      c.signed_of.ensures,
      c.digits_of.ensures,
      to_z-of_z (record { sfits = c.signed_of-2.type_inv }),
      c.signed_of-2.ensures,
      c.digits_of-2.ensures,
    )
