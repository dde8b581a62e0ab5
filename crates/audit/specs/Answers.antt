-- What the audit of a list of a network's edges answers.
use Rattle.std.specs.Prelude.{Bool, List}
use Rattle.graph.specs.declared.Network.{Network}
use Rattle.connection.specs.Connection.{connected, reached_count}
use Rattle.bridges.specs.Bridge.{bridge_count}
use Rattle.audit.specs.declared.Answers.{Answers}

-- whether the list joins all vertices, how many it joins to vertex 0, and how many of its edges are bridges
unfoldable pub audited : Network → List Bool → Answers
audited g K = record { connected = connected g K; reached = reached_count g K 0; bridges = bridge_count g K }
