-- `ports::wire::Ports::of` meets its contract.
use mathlib.Core.Path.{◌≡◌}
use native.Mathlib.Omega.{arith}
use Rattle.ports.proofs.Wiring.{plugged-none, low_left, high_left, ports-below, plugged-next, plugged-all}
use Rattle.ports.proofs.wire.Ports.of.Goals as goal

pub loop-e-init : goal.loop-e-init
loop-e-init c = rw c.unwired-mate.ensures (plugged-none c.args.network)

pub next_port-a-requires : goal.next_port-a-requires
next_port-a-requires c = low_left c.requires c.loop-e.invariant (omega arith)

pub next_port-b-requires : goal.next_port-b-requires
next_port-b-requires c = rw c.next_port-a.ensures.used (high_left c.requires c.loop-e.invariant (omega arith))

pub plug-requires : goal.plug-requires
plug-requires c =
    ports-below c.requires c.loop-e.invariant (omega arith)
    c.next_port-a.ensures.port
    c.next_port-a.ensures.used c.next_port-b.ensures.port

pub loop-e-preserved : goal.loop-e-preserved
loop-e-preserved c =
    plugged-next c.requires c.loop-e.invariant (omega arith) c.next_port-a.ensures.port c.next_port-a.ensures.used
    c.next_port-b.ensures.port c.next_port-b.ensures.used c.plug.ensures.mate c.plug.ensures.edge

pub returns : goal.returns
returns c =
    let all : c.loop-e.e ≡ c.args.network.edges = omega (arith, c.loop-e.invariant.few) in
    plugged-all c.requires (rw all at c.loop-e.invariant)
