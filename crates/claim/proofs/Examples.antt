-- The examples that document 01 marks with a star, over meanings and over texts: one table, one theorem.
use mathlib.Core.Path.{◌≡◌, refl}
use mathlib.Core.Bool.{Bool, true, false, ◌&&◌}
use mathlib.Core.List.{List, [], ◌∷◌, map}
use Prim.Native.Nat.{ℕ}
use lib.Dec.{eqb}
use Rattle.base.specs.Answer.{Answer, refused, answer, and_then, over, unless}
use Rattle.frame.specs.Table.{line_length, start_of, place_of, total, widths, bytes_of, padded, digits_of, kind_of}
use Rattle.digits.specs.Hexadecimal.{digit_of, spell, value_of, number_of, all_digits}
use Rattle.frame.specs.Line.{is_line, fields_of, values_of, spell_all, line_of}
use Rattle.frame.specs.Frames.{frames_of, lines_of}
use Rattle.frame.specs.Kinds.{cost_digits, step_cost_digits, kept_digits, unreserved_digits}
use Rattle.digits.specs.Sign.{signed_of, unsigned_of}
use Rattle.base.specs.Limits.{vertices_ok, cost_ok}
use Rattle.network_text.specs.Text.{meant, checked, meaning_of, in_frames, edges_of, read_network}
use Rattle.network_text.specs.Text.{edges_in, edges_text, network_text, text_of}
use Rattle.chain_text.specs.Text.{chain_text}
use Rattle.list_text.specs.Text.{list_text}
use Rattle.base.specs.Fold.{fold, pick, only, among, tabulate}
use Rattle.kept_text.specs.Text.{kept_edges, costs_text, kept_text}
use Rattle.loading.specs.Loading.{state_of, network_of, load_network}
use Rattle.graph.specs.Network.{same_cost, ends_at, degree, touches, far, cost_over}
use Rattle.graph.specs.Cut.{differ, crosses, crossings_of, every_side, somewhere, crossed_by, every_cut_of, four_each}
use Rattle.graph.specs.Cut.{network_refusal}
use Rattle.graph.specs.Split.{is_partner, partners, split, split_with, admissible, third, after}
use Rattle.graph.specs.Chain.{step_refusal, last_edges, dearest, end_refusal, marks, end_kept, lift, lifted}
use Rattle.graph.specs.Plan.{chosen_vertex, ordered, chosen_pair, chosen_step, dearest_of, chosen_drop, plan_steps, plan_drop}
use Rattle.graph.specs.Plan.{plan_kept}
use Rattle.graph.specs.Districts.{District, T, Numbers, Case, plans, breaks, refuses, table, every}
use Rattle.graph.proofs.Examples.{step_of, same_numbers, holds, every-both, examples as meanings}
use Rattle.network_frames.specs.Frames.{head_refusal, edge_refusal}
use Rattle.claim.specs.Verdicts.{check_ending, check_chain}
use Rattle.claim.specs.Plans.{in_frame, plan_chain}
use Rattle.claim.specs.Services.{Texts, accept_network, kept_text_of, kept_in, check_chain_text, texts_of, plan_text}

-- the network text of a district
text_of_district : District → List ℕ
text_of_district d = text_of
    (meant d.vertices d.reserved (map (λ e. e.0) d.ends) (map (λ e. e.1) d.ends) d.costs)

chain : List Numbers → ℕ → List ℕ
chain ts d = chain_text (map (λ t. in_frame (step_of t)) ts) d

answers : List ℕ → Answer (List ℕ) → Bool
answers t (refused k) = false
answers t (answer u) = same_numbers t u

writes : List ℕ → List ℕ → Answer Texts → Bool
writes c k (refused j) = false
writes c k (answer t) = same_numbers c t.chain && same_numbers k t.kept

refused_by : {M : Type 0} → ℕ → Answer M → Bool
refused_by k (refused j) = eqb k j
refused_by k (answer m) = false

-- a row over texts; a plan's chain passes its check too
pub holds_of_texts : Case → Bool
holds_of_texts (plans p ts d is c a) =
    let g = text_of_district p in
    writes (chain ts d) (kept_text is c a) (plan_text g) && answers (kept_text is c a) (check_chain_text g (chain ts d))
holds_of_texts (breaks t d k) = refused_by k (check_chain_text (text_of_district T) (chain (t ∷ []) d))
holds_of_texts (refuses p k) = refused_by k (accept_network (text_of_district p))

in-texts : every holds_of_texts table ≡ true
unfolding text_of_district chain step_of same_numbers answers writes refused_by holds_of_texts every and_then over line_length start_of
    place_of total widths bytes_of padded digits_of kind_of digit_of spell value_of number_of all_digits is_line fields_of
    values_of spell_all line_of frames_of lines_of cost_digits step_cost_digits kept_digits unreserved_digits signed_of unsigned_of vertices_ok
    cost_ok unless head_refusal edge_refusal checked meaning_of in_frames edges_of read_network edges_in edges_text network_text
    text_of chain_text list_text kept_edges costs_text kept_text state_of network_of load_network fold pick only among tabulate
    same_cost ends_at degree touches far cost_over differ crosses crossings_of every_side somewhere crossed_by every_cut_of four_each
    network_refusal is_partner partners split split_with admissible third after step_refusal last_edges dearest end_refusal
    marks end_kept lift lifted chosen_vertex ordered chosen_pair chosen_step dearest_of chosen_drop plan_steps plan_drop
    plan_kept check_ending check_chain plan_chain accept_network kept_text_of kept_in check_chain_text texts_of plan_text
in-texts = refl

-- each row of the table, over meanings and over texts
pub examples : every (λ c. holds c && holds_of_texts c) table ≡ true
examples = every-both holds holds_of_texts table meanings in-texts
