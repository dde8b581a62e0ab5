-- `flow::meet::search_between` meets its contract: both searches have visited the vertices of the numbers passed.
use mathlib.Core.Logic.{inl, inr}
use native.Mathlib.Omega.{arith}
use Rattle.flow.specs.Meet.{Meets}
use Rattle.flow.proofs.Visiting.{comes-on, comes-met}
use Rattle.flow.proofs.Searches.{number-most, listed, visitable, search-closed, other-apart, turns-begun, parted, met-forward, met-backward, turned}
use Rattle.flow.proofs.meet.search_between.Goals as goal

pub loop-search-init : goal.loop-search-init
loop-search-init c = turns-begun c.requires.0 c.requires.1 c.requires.2

pub returns-then-search-next : goal.returns-then-search-next
unfolding Meets
returns-then-search-next c =
    let s = c.loop-search.invariant in
    parted s (inl (search-closed s.forward (omega arith)))

pub returns-then-back-next : goal.returns-then-back-next
unfolding Meets
returns-then-back-next c =
    let s = c.loop-search.invariant in
    parted s (inr (search-closed s.backward (omega arith)))

pub numbered-vertex-requires : goal.numbered-vertex-requires
numbered-vertex-requires c = listed c.loop-search.invariant.forward (omega arith)

pub visit-requires : goal.visit-requires
visit-requires c =
    let t = c.loop-search.invariant in visitable t.forward (omega arith) _ c.numbered-vertex.ensures t.apart

pub returns-in-Break : goal.returns-in-Break
unfolding Meets
returns-in-Break c =
    let t = c.loop-search.invariant in met-forward t (comes-met _ c.in-Break.is c.visit.ensures)

pub numbered-vertex-requires-in-loop-search : goal.numbered-vertex-requires-in-loop-search
numbered-vertex-requires-in-loop-search c = listed c.loop-search.invariant.backward (omega arith)

pub visit-requires-in-loop-search : goal.visit-requires-in-loop-search
visit-requires-in-loop-search c =
    visitable c.loop-search.invariant.backward c.if-back-next.false _
    c.numbered-vertex-in-loop-search.ensures (other-apart (comes-on c.in_default.is c.visit.ensures))

pub returns-in-Break-visit : goal.returns-in-Break-visit
unfolding Meets
returns-in-Break-visit c =
    let t = c.loop-search.invariant in
    met-backward t c.if-search-next.false c.numbered-vertex.ensures (comes-on c.in_default.is c.visit.ensures)
    (comes-met _ c.in-Break-visit.is c.visit-in-loop-search.ensures)

pub loop-search-smaller : goal.loop-search-smaller
loop-search-smaller c = omega (arith, number-most c.loop-search.invariant.forward c.if-search-next.false)

pub loop-search-preserved : goal.loop-search-preserved
loop-search-preserved c =
    let t = c.loop-search.invariant in
    turned t c.if-search-next.false c.numbered-vertex.ensures (comes-on c.in_default.is c.visit.ensures)
    c.if-back-next.false c.numbered-vertex-in-loop-search.ensures
    (comes-on c.in_default-visit.is c.visit-in-loop-search.ensures)
