-- `rules::choice::chosen_pair` meets its contract: Lemma 8 spares the third test.
use mathlib.Core.Path.{sym, ◌∙◌}
use Rattle.graph.proofs.Plans.{chosen-end}
use Rattle.rules.proofs.Trios.{Trio, trio, first-tested, second-tested}
use Rattle.rules.proofs.Choices.{chosen-later, chosen-first, chosen-outer}
use Rattle.rules.proofs.choice.chosen_pair.Goals as goal
use Rattle.rules.proofs.choice.chosen_pair.Goals.{After-partners_at-partners}

-- the partners at the chosen vertex
found : (c : After-partners_at-partners) → let p = c.partners_at-partners.result in
    Trio c.args.network c.chosen_vertex-v.result p.first p.second p.third
found c =
    let v = c.chosen_vertex-v.ensures in
    trio c.requires c.chosen_vertex-v.result (rw v (chosen-end c.args.network)) c.partners_at-partners.result
    c.partners_at-partners.ensures

pub admissible-requires : goal.admissible-requires
admissible-requires c = first-tested c.requires (found c)

pub returns-then-not-admissible : goal.returns-then-not-admissible
returns-then-not-admissible c =
    chosen-later c.requires c.chosen_vertex-v.ensures
    (found (goal.at.returns-then-not-admissible c).After-partners_at-partners)
    (sym c.admissible.ensures ∙ c.if-not-admissible.true)

pub admissible-requires-2 : goal.admissible-requires-2
admissible-requires-2 c =
    second-tested c.requires (found (goal.at.admissible-requires-2 c).After-partners_at-partners)

pub returns-then-admissible : goal.returns-then-admissible
returns-then-admissible c =
    chosen-first c.requires c.chosen_vertex-v.ensures
    (found (goal.at.returns-then-admissible c).After-partners_at-partners)
    (sym c.admissible.ensures ∙ c.if-not-admissible.false) (sym c.admissible-2.ensures ∙ c.if-admissible.true)

pub returns : goal.returns
returns c =
    chosen-outer c.requires c.chosen_vertex-v.ensures (found (goal.at.returns c).After-partners_at-partners)
    (sym c.admissible.ensures ∙ c.if-not-admissible.false) (sym c.admissible-2.ensures ∙ c.if-admissible.false)
