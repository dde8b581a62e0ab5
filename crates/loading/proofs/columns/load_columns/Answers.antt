-- `loading::columns::load_columns` meets its contract.
use native.Mathlib.Omega.{arith}
use Rattle.loading.proofs.Filling.{cost-kept, stored-none, stored-room, stored_next, stored-all, stored-degrees}
use Rattle.loading.proofs.Reading.{known_of}
use Rattle.loading.proofs.columns.load_columns.Goals as goal

pub loop-i-init : goal.loop-i-init
loop-i-init c = stored-none c.bare-network.ensures

pub tally_edge-requires : goal.tally_edge-requires
tally_edge-requires c =
    let few = c.requires.few in
    λ v. omega (arith, stored-room c.requires c.loop-i.invariant v)

pub loop-i-preserved : goal.loop-i-preserved
loop-i-preserved c =
    let l = c.loop-i-test.true in
    rw (cost-kept _ (c.requires.limited c.loop-i.i l))
    (stored_next c.requires c.loop-i.invariant c.tally_edge.ensures l)

pub invariant_of-result : goal.invariant_of-result
invariant_of-result c =
    let w = c.loop-i.invariant in
    record {
      known = rw (stored-all c.requires w c.loop-i-test.false) (known_of c.requires);
      counted = stored-degrees c.requires w c.loop-i-test.false;
    }

pub returns : goal.returns
returns c = stored-all c.requires c.loop-i.invariant c.loop-i-test.false
