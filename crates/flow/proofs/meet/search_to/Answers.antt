-- `flow::meet::search_to` meets its contract: the vertices of the numbers passed are visited.
use native.Mathlib.Omega.{arith}
use Rattle.flow.specs.Meet.{Finds}
use Rattle.flow.proofs.Visiting.{grown-none, grown-on, met-further, comes-on, comes-met}
use Rattle.flow.proofs.Searches.{number-most, listed, visitable, searching-on, search-closed}
use Rattle.flow.proofs.meet.search_to.Goals as goal

pub loop-next-init : goal.loop-next-init
loop-next-init c = (c.requires.0, grown-none c.requires.0.tree, c.requires.1)

pub numbered-vertex-requires : goal.numbered-vertex-requires
numbered-vertex-requires c = listed c.loop-next.invariant.0 (omega arith)

pub visit-requires : goal.visit-requires
visit-requires c =
    let inv = c.loop-next.invariant in visitable inv.0 (omega arith) _ c.numbered-vertex.ensures inv.2

pub returns-in-Break : goal.returns-in-Break
unfolding Finds
returns-in-Break c = met-further c.loop-next.invariant.1 (comes-met _ c.in-Break.is c.visit.ensures)

pub loop-next-smaller : goal.loop-next-smaller
loop-next-smaller c = omega (arith, number-most c.loop-next.invariant.0 (omega arith))

pub loop-next-preserved : goal.loop-next-preserved
loop-next-preserved c =
    let inv = c.loop-next.invariant in
    let went = comes-on c.in_default.is c.visit.ensures in (
      searching-on inv.0 (omega arith) c.numbered-vertex.ensures went,
      grown-on inv.1 went.grown,
      went.apart,
    )

pub returns : goal.returns
unfolding Finds
returns c =
    let inv = c.loop-next.invariant in
    record { grown = inv.1; apart = inv.2; closed = search-closed inv.0 (omega arith) }
