-- Audits of document 01's networks, with document 02's count of critical cables.
use Rattle.std.specs.Prelude.{Bool, true, false, List, [], ◌∷◌, ℕ}
use Rattle.graph.specs.Districts.{District, T, square}

-- an audit: the network, the list, whether it joins all vertices, how many it joins to vertex 0, how many are bridges
abbrev pub Audit : Type 0
Audit = District × List ℕ × Bool × ℕ × ℕ

abbrev pub audits : List Audit
audits =
    (T, 1 ∷ 2 ∷ 5 ∷ [], true, 3, 0)
    ∷ (T, 1 ∷ 2 ∷ [], true, 3, 2)
    ∷ (T, 4 ∷ 5 ∷ [], false, 1, 0)
    ∷ (T, 4 ∷ [], false, 1, 1)
    ∷ (T, [], false, 1, 0)
    ∷ (square, 0 ∷ 1 ∷ 2 ∷ [], false, 2, 1)
    ∷ []
