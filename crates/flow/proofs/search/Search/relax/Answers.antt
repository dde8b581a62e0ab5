-- `flow::search::Search::relax` meets its contract: an arc that leads on gives its head the next number.
use native.Mathlib.Omega.{arith}
use Rattle.flow.proofs.Reaching.{LeadsOn, number-left, leads-on}
use Rattle.flow.proofs.search.Search.relax.Goals as goal
use Rattle.flow.proofs.search.Search.relax.Goals.{Else-self-from-eq0}

-- the arc leads on
found : (c : Else-self-from-eq0) → (let s = c.args in LeadsOn s.ends.now s.residual.now s.self.now s.arc)
found c = record {
  tree = c.requires.tree;
  arc = c.requires.arc_lt_arc_limit;
  vertex = omega arith;
  carries = omega arith;
  from = omega arith;
  new = c.if-self-to-ne0.false;
}

pub overflow_add-next : goal.overflow_add-next
overflow_add-next c = omega (arith, number-left (found (goal.at.overflow_add-next c).Else-self-from-eq0))

pub overflow_cast-self : goal.overflow_cast-self
overflow_cast-self c = omega (arith, number-left (found (goal.at.overflow_cast-self c).Else-self-from-eq0))

pub offset_bounds-self-next : goal.offset_bounds-self-next
offset_bounds-self-next c =
    omega (arith, number-left (found (goal.at.offset_bounds-self-next c).Else-self-from-eq0))

pub bounds-self-next : goal.bounds-self-next
bounds-self-next c = omega (arith, number-left (found (goal.at.bounds-self-next c).Else-self-from-eq0))

pub returns : goal.returns
returns c = leads-on (found (goal.at.returns c).Else-self-from-eq0)
