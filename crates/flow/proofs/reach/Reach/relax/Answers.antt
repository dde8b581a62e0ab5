-- `flow::reach::Reach::relax` meets its contract: a port that leads on gives its far vertex the next number.
use native.Mathlib.Omega.{arith}
use Rattle.flow.specs.Reach.{Comes}
use Rattle.flow.proofs.Visiting.{LeadsOn, number-left, went_on, met, went-nowhere}
use Rattle.flow.proofs.reach.Reach.relax.Goals as goal
use Rattle.flow.proofs.reach.Reach.relax.Goals.{then-self, else-self, Else-residual-gate-eq0}

-- the port leads on, where its gate can carry something
found : (c : Else-residual-gate-eq0)
    → (let s = c.args in LeadsOn s.mate.now s.residual.now s.self.now s.port)
found c = record {
  tree = c.requires.3;
  port = c.requires.0;
  from = c.requires.1;
  carries = elim c.if-self.branch [
    | then-self w ↦ rw (w.if-self.true, ← w.gate-is) (omega arith)
    | else-self w ↦ rw (w.if-self.false, ← w.gate-is) (omega arith)
  ];
  new = c.if-self-to-ne0.false;
}

pub returns-then-self-to-ne0 : goal.returns-then-self-to-ne0
unfolding Comes
returns-then-self-to-ne0 c = went-nowhere c.requires.3 c.requires.2 _ (λ _. omega arith)

pub returns-then-residual-gate-eq0 : goal.returns-then-residual-gate-eq0
unfolding Comes
returns-then-residual-gate-eq0 c =
    went-nowhere c.requires.3 c.requires.2 _
    (λ h. elim c.if-self.branch [
      | then-self w ↦ absurd (omega (arith, rw (w.if-self.true, ← w.gate-is) at h))
      | else-self w ↦ absurd (omega (arith, rw (w.if-self.false, ← w.gate-is) at h))
    ])

pub overflow_add-next : goal.overflow_add-next
overflow_add-next c = omega (arith, number-left (found (goal.at.overflow_add-next c).Else-residual-gate-eq0))

pub overflow_cast-self : goal.overflow_cast-self
overflow_cast-self c = omega (arith, number-left (found (goal.at.overflow_cast-self c).Else-residual-gate-eq0))

pub offset_bounds-self-next : goal.offset_bounds-self-next
offset_bounds-self-next c =
    omega (arith, number-left (found (goal.at.offset_bounds-self-next c).Else-residual-gate-eq0))

pub bounds-self-next : goal.bounds-self-next
bounds-self-next c = omega (arith, number-left (found (goal.at.bounds-self-next c).Else-residual-gate-eq0))

pub returns-then-other-to-ne0 : goal.returns-then-other-to-ne0
unfolding Comes
returns-then-other-to-ne0 c =
    met (found (goal.at.returns-then-other-to-ne0 c).Else-residual-gate-eq0) _ c.requires.2 (omega arith)

pub returns : goal.returns
unfolding Comes
returns c = went_on (found (goal.at.returns c).Else-residual-gate-eq0) _ c.requires.2 c.if-other-to-ne0.false
