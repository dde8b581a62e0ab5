-- `examples::ports::degrees_of` meets its contract.
use mathlib.Core.Path.{◌≡◌, ◌∙◌}
use native.Mathlib.Omega.{arith}
use Rattle.incidence.proofs.Tally.{degrees-below, no_edge, one-more-edge, all_edges}
use Rattle.examples.proofs.ports.degrees_of.Goals as goal

pub loop-e-init : goal.loop-e-init
loop-e-init c = no_edge c.args.g

pub tally_edge-requires : goal.tally_edge-requires
tally_edge-requires c =
    let loop = c.loop-e in
    rw loop.invariant (λ v. omega (arith, degrees-below c.args.g loop.e v))

pub loop-e-preserved : goal.loop-e-preserved
loop-e-preserved c = c.tally_edge.ensures ∙ rw c.loop-e.invariant (one-more-edge _ _)

pub returns : goal.returns
returns c =
    let all : c.loop-e.e ≡ c.args.g.edges = omega arith in
    rw all at c.loop-e.invariant ∙ all_edges _
