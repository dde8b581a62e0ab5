-- `rules::ending::chosen_ending` meets its contract.
use mathlib.Core.Path.{sym, ◌∙◌}
use Rattle.graph.specs.Network.{low_end}
use Rattle.rules.proofs.Trios.{Trio, costed}
use Rattle.rules.proofs.Ends.{last-trio, drops-first, drops-third-of-first, drops-second, drops-third}
use Rattle.rules.proofs.ending.chosen_ending.Goals as goal
use Rattle.rules.proofs.ending.chosen_ending.Goals.{After-last_three-last}

-- the last three edges
found : (c : After-last_three-last) → let p = c.last_three-last.result in
    Trio c.args.network (low_end c.args.network c.args.network.reserved) p.first p.second p.third
found c = last-trio c.requires c.last_three-last.result c.last_three-last.ensures

pub cheaper-requires : goal.cheaper-requires
cheaper-requires c = let f = (found c).at.four in let w = costed c.requires.run f.y< f.x< in search w

pub cheaper-requires-then-cheaper : goal.cheaper-requires-then-cheaper
cheaper-requires-then-cheaper c =
    let f = (found (goal.at.cheaper-requires-then-cheaper c).After-last_three-last).at.four in
    costed c.requires.run f.z< f.x<

pub returns-then-cheaper-2 : goal.returns-then-cheaper-2
returns-then-cheaper-2 c =
    drops-first c.requires (found (goal.at.returns-then-cheaper-2 c).After-last_three-last)
    (sym c.cheaper.ensures ∙ c.if-cheaper.true) (sym c.cheaper-then-cheaper.ensures ∙ c.if-cheaper-2.true)

pub returns-then-cheaper : goal.returns-then-cheaper
returns-then-cheaper c =
    drops-third-of-first c.requires (found (goal.at.returns-then-cheaper c).After-last_three-last)
    (sym c.cheaper.ensures ∙ c.if-cheaper.true) (sym c.cheaper-then-cheaper.ensures ∙ c.if-cheaper-2.false)

pub cheaper-requires-2 : goal.cheaper-requires-2
cheaper-requires-2 c =
    let f = (found (goal.at.cheaper-requires-2 c).After-last_three-last).at.four in costed c.requires.run f.z< f.y<

pub returns-then-cheaper-3 : goal.returns-then-cheaper-3
returns-then-cheaper-3 c =
    drops-second c.requires (found (goal.at.returns-then-cheaper-3 c).After-last_three-last)
    (sym c.cheaper.ensures ∙ c.if-cheaper.false) (sym c.cheaper-2.ensures ∙ c.if-cheaper-3.true)

pub returns : goal.returns
returns c =
    drops-third c.requires (found (goal.at.returns c).After-last_three-last)
    (sym c.cheaper.ensures ∙ c.if-cheaper.false) (sym c.cheaper-2.ensures ∙ c.if-cheaper-3.false)
