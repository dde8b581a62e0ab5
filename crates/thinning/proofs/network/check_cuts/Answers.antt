-- `thinning::network::check_cuts` meets its contract.
use mathlib.Core.Path.{◌≡◌, sym, ◌∙◌}
use Rattle.base.specs.Answer.{refusal_of}
use Rattle.graph.specs.Cut.{four_each}
use Rattle.incidence.proofs.Tally.{four-in-tally}
use Rattle.claim.proofs.Accepting.{degree-refused, cut-refused, not-refused}
use Rattle.thinning.proofs.network.check_cuts.Goals as goal
use Rattle.thinning.proofs.network.check_cuts.Goals.{After-all_four}

-- whether each vertex has four edges, by the degrees that were tallied
four : (c : After-all_four) → c.all_four.result ≡ four_each c.args.network
four c = c.all_four.ensures ∙ rw c.requires.1 (four-in-tally c.args.network c.requires.0.vertex_room)

pub returns-then-not-all_four : goal.returns-then-not-all_four
unfolding refusal_of
returns-then-not-all_four c =
    degree-refused _ (sym (four (goal.at.returns-then-not-all_four c).After-all_four) ∙ c.if-not-all_four.true)

pub returns-then-not-every_cut_four : goal.returns-then-not-every_cut_four
unfolding refusal_of
returns-then-not-every_cut_four c =
    cut-refused _ (sym (four (goal.at.returns-then-not-every_cut_four c).After-all_four) ∙ c.if-not-all_four.false)
    (sym c.every_cut_four.ensures ∙ c.if-not-every_cut_four.true)

pub returns : goal.returns
unfolding refusal_of
returns c =
    not-refused _ (sym (four (goal.at.returns c).After-all_four) ∙ c.if-not-all_four.false)
    (sym c.every_cut_four.ensures ∙ c.if-not-every_cut_four.false)
