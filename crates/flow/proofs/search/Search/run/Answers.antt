-- `flow::search::Search::run` meets its contract: every visit lets the search grow, and it ends at a sink or after a
-- sweep that reaches nothing new.
use mathlib.Core.Path.{refl}
use mathlib.Core.Logic.{inl, inr}
use native.Mathlib.Omega.{arith}
use Rattle.flow.specs.Search.{Ends}
use Rattle.flow.proofs.Reaching.{clock-most, grown-on, swept-stuck}
use Rattle.flow.proofs.search.Search.run.Goals as goal

pub returns-then-self-first-ne0 : goal.returns-then-self-first-ne0
unfolding Ends
returns-then-self-first-ne0 c = record {
  grown = c.loop-self.invariant.1;
  ending = record { vertex = omega arith; is_reached = omega arith; is_sink = inl refl };
}

pub returns-then-self-second-ne0 : goal.returns-then-self-second-ne0
unfolding Ends
returns-then-self-second-ne0 c = record {
  grown = c.loop-self.invariant.1;
  ending = record { vertex = omega arith; is_reached = omega arith; is_sink = inr refl };
}

pub numbered-vertex-requires : goal.numbered-vertex-requires
numbered-vertex-requires c = omega (arith, clock-most c.loop-self.invariant.1.tree)

pub loop-self-smaller-then-next-self : goal.loop-self-smaller-then-next-self
loop-self-smaller-then-next-self c = omega (arith, clock-most c.loop-self.invariant.1.tree)

pub loop-self-preserved-then-next-self : goal.loop-self-preserved-then-next-self
loop-self-preserved-then-next-self c =
    let grown = c.loop-self.invariant.1 in
    (omega (arith, clock-most grown.tree), grown-on grown c.visit.ensures)

pub returns-then-self-last : goal.returns-then-self-last
unfolding Ends
returns-then-self-last c = record {
  grown = grown-on c.loop-self.invariant.1 c.sweep.ensures.grown;
  ending = swept-stuck _ c.sweep.ensures c.if-self-last.true c.if-self-first-ne0.false c.if-self-second-ne0.false;
}
