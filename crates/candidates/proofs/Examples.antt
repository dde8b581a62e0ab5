-- Candidates for document 01's printed network, computed.
use mathlib.Core.Path.{◌≡◌, refl}
use mathlib.Core.List.{[], ◌∷◌}
use Rattle.base.specs.Answer.{refused}
use Rattle.base.specs.Fold.{fold, pick, only, among, tabulate}
use Rattle.base.specs.Refusals.{RESERVED}
use Rattle.digits.specs.Hexadecimal.{digit_of, spell}
use Rattle.digits.specs.Sign.{unsigned_of}
use Rattle.frame.specs.Table.{kind_of, bytes_of, padded, widths, digits_of}
use Rattle.frame.specs.Line.{spell_all, line_of}
use Rattle.frame.specs.Kinds.{kept_digits, unreserved_digits}
use Rattle.frame.proofs.Examples.{printed}
use Rattle.kept_text.specs.Text.{costs_text}
use Rattle.graph.specs.Network.{ends_at, degree, touches, far, cost_over}
use Rattle.graph.specs.Cut.{differ, crosses, crossings_of, every_side, somewhere, crossed_by, every_cut_of}
use Rattle.graph.specs.Split.{is_partner, partners, split, split_with, admissible, third, after}
use Rattle.graph.specs.Chain.{last_edges, marks, end_kept, lift, lifted}
use Rattle.graph.specs.Plan.{chosen_vertex, ordered, chosen_pair, chosen_step, dearest_of, chosen_drop, plan_kept}
use Rattle.graph.specs.Districts.{T}
use Rattle.graph.proofs.Examples.{network_of}
use Rattle.candidates.specs.Services.{plan_costs, candidates_costs, are_edges, candidates_over}

-- edges 5, 0 and 5 again: 11 of 20, 8 of 16 as in the printed kept text, and 11 of 20
repeated : candidates_costs (network_of T) (5 ∷ 0 ∷ 5 ∷ [])
    ≡ printed 34 0x06000000000000000b0000000000000014 (printed 34 0x0600000000000000080000000000000010
    (printed 34 0x06000000000000000b0000000000000014 []))
unfolding candidates_costs plan_costs costs_text network_of fold pick only among tabulate digit_of spell unsigned_of kind_of
    bytes_of padded widths digits_of spell_all line_of kept_digits unreserved_digits ends_at degree touches far cost_over differ
    crosses crossings_of every_side somewhere crossed_by every_cut_of is_partner partners split split_with admissible third
    after last_edges marks end_kept lift lifted chosen_vertex ordered chosen_pair chosen_step dearest_of chosen_drop plan_kept
repeated = refl

-- edge 6 is none of the six
no_edge : candidates_over (0 ∷ 6 ∷ 5 ∷ []) (network_of T) ≡ refused RESERVED
unfolding candidates_over are_edges network_of
no_edge = refl
