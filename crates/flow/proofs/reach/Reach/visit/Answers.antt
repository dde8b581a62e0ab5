-- `flow::reach::Reach::visit` meets its contract: the ports passed are shut.
use mathlib.Core.Logic.{inl, inr}
use native.Mathlib.Decide.{ℕ_discrete}
use native.Mathlib.Omega.{arith}
use Rattle.flow.specs.Reach.{Comes}
use Rattle.flow.proofs.Visiting.{went-none, went-further, met-further, comes-on, comes-met}
use Rattle.flow.proofs.reach.Reach.visit.Goals as goal

pub loop-port-init : goal.loop-port-init
loop-port-init c = went-none c.requires.3 c.requires.2 (λ p h. omega arith)

pub returns-in_err-relax : goal.returns-in_err-relax
unfolding Comes
returns-in_err-relax c =
    rw c.from_residual.ensures (met-further c.loop-port.invariant.grown (comes-met _ c.in_err-relax.was c.relax.ensures))

pub loop-port-preserved : goal.loop-port-preserved
loop-port-preserved c =
    went-further c.loop-port.invariant (comes-on c.in_ok-relax.was c.relax.ensures)
    (λ p h. elim (ℕ_discrete p c.loop-port.port) [ yes e ↦ inr e | no ne ↦ inl (omega arith, omega arith) ])

pub returns : goal.returns
unfolding Comes
returns c =
    let on = c.loop-port.invariant in
    record { grown = on.grown; shut = λ p h e. on.shut p h (omega arith, omega arith); apart = on.apart }
