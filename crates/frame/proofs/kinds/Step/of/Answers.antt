-- `frame::kinds::Step::of` meets its contract.
-- Assumes nothing.
use lib.Dec.{lit<}
use mir.Facts.{to_z-of_z}
use Rattle.frame.specs.Table.{STEP, padded, bytes_of, digits_of}
use Rattle.frame.specs.Kinds.{step_cost_digits}
use Rattle.frame.proofs.Named.{signed-asked}
use Rattle.frame.proofs.kinds.Step.of.Goals as goal

pub signed_of-requires : goal.signed_of-requires
unfolding digits_of bytes_of padded
signed_of-requires c = rw c.digits_of.ensures (signed-asked STEP c.args.f c.requires (lit< tt) 4 (lit< tt) (lit< tt))

pub returns : goal.returns
unfolding step_cost_digits
returns c = rw (to_z-of_z (record { sfits = c.signed_of.type_inv }), c.signed_of.ensures, c.digits_of.ensures)
