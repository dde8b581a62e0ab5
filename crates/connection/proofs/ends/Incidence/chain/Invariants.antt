-- What the loop of `connection::ends::Incidence::chain` keeps: the ends of the edges below e are left to chain.
use mathlib.Core.Path.{◌≡◌}
use Rattle.connection.specs.Incidence.{chained}
use Rattle.connection.proofs.ends.Incidence.chain.Given as goal

abbrev pub invariant-loop-e : goal.invariant-loop-e
invariant-loop-e l =
    chained l.edges.low.now l.edges.high.now l.edges.listed.now l.e l.self ≡ chained l.edges.low.now l.edges.high.now l.edges.listed.now l.edges.count l.initial.self
