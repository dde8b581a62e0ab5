-- A table text and texts near it, computed: the network that it stands for, and what is refused by which number.
-- Assumes nothing.
use mathlib.Core.Path.{◌≡◌, refl}
use mathlib.Core.List.{List, [], ◌∷◌, ◌++◌, map}
use Prim.Native.Nat.{ℕ}
use lib.IntN.{pos}
use Rattle.base.specs.Answer.{answer, and_then, unless, refusal_of}
use Rattle.base.specs.Limits.{vertices_ok, cost_ok}
use Rattle.digits.specs.Hexadecimal.{value_of, digit_of, all_digits, number_of, spell}
use Rattle.digits.specs.Sign.{signed_of}
use Rattle.frame.specs.Table.{kind_of, padded, bytes_of, total, place_of, start_of, digits_of, widths, line_length}
use Rattle.frame.specs.Line.{values_of, fields_of, is_line, line_at, read_line}
use Rattle.frame.specs.Kinds.{span_cost_digits}
use Rattle.frame.specs.Frames.{frames_of}
use Rattle.frame.proofs.Examples.{printed as line}
use Rattle.network_frames.specs.Frames.{head_refusal}
use Rattle.network_text.specs.Text.{Meaning, meaning_of}
use Rattle.table_text.specs.Frames.{count_refusal, weight_ok, above, span_refusal, table_head_in, read_table_head}
use Rattle.table_text.specs.Text.{spans_in, weights, totalled, table_behind, read_table, copies, expanded}
use Rattle.table_text.specs.Text.{stands_for, read_expanded}

-- lines by their digits, in front of what follows
abbrev head : ℕ → List ℕ → List ℕ
head = line 14

abbrev span : ℕ → List ℕ → List ℕ
span = line 28

-- three vertices and three spans, of which the last is given
abbrev three : List ℕ → List ℕ
three rest = head 0x08000300000003 (span 0x0900000001020000000000000007 (span 0x0900000002020000000000000001 rest))

abbrev last : List ℕ
last = span 0x0900010002020000000000000003 []

-- two edges for each span, numbered on in span order
abbrev network : Meaning
network =
    record {
      vertices = 3;
      reserved = 0;
      low = 0 ∷ 0 ∷ 0 ∷ 0 ∷ 1 ∷ 1 ∷ [];
      high = 1 ∷ 1 ∷ 2 ∷ 2 ∷ 2 ∷ 2 ∷ [];
      cost = pos 7 ∷ pos 7 ∷ pos 1 ∷ pos 1 ∷ pos 3 ∷ pos 3 ∷ [];
    }

-- texts near it, each with the number of its refusal, or 0 where it is read
abbrev cases : List (List ℕ × ℕ)
cases =
    (three last, 0) ∷
    -- the reserved edge is one after expansion: the last of six, and none
    (head 0x08000300050003 (span 0x0900000001020000000000000007 (span 0x0900000002020000000000000001 last)), 0) ∷
    (head 0x08000300060003 [], 3) ∷
    -- how many vertices, and how many spans: the limit, and one more; 2 and 3 come first
    (head 0x08000100000000 [], 2) ∷
    (head 0x08000200000004 [], 1) ∷
    (head 0x08000200000005 [], 16) ∷
    (head 0x08000200040005 [], 3) ∷
    (head 0x08000100000005 [], 2) ∷
    -- a span's ends
    (three (span 0x0900020002020000000000000003 []), 4) ∷
    (three (span 0x0900020001020000000000000003 []), 4) ∷
    (three (span 0x0900010003020000000000000003 []), 4) ∷
    -- its weight: the limits, and one beyond each
    (head 0x08000200000001 (span 0x0900000001040000000000000005 []), 0) ∷
    (head 0x08000200000001 (span 0x0900000001050000000000000005 []), 15) ∷
    (head 0x08000200000001 (span 0x0900000001000000000000000005 []), 15) ∷
    -- its pair: the one before again, and lower ones
    (three (span 0x0900000002020000000000000003 []), 15) ∷
    (three (span 0x0900000001020000000000000003 []), 15) ∷
    (head 0x08000300000002 (span 0x0900010002020000000000000003 (span 0x0900000002020000000000000001 [])), 15) ∷
    -- its cost: the limits, one more, and far outside
    (three (span 0x090001000202000000e8d4a51000 []), 0) ∷
    (three (span 0x090001000202000000e8d4a51001 []), 5) ∷
    (three (span 0x090001000202ffffff172b5af000 []), 0) ∷
    (three (span 0x090001000202ffffff172b5aefff []), 5) ∷
    (three (span 0x0900010002027fffffffffffffff []), 5) ∷
    (three (span 0x0900010002028000000000000003 []), 5) ∷
    -- its length: four bytes for a cost
    (three (line 20 0x09000100020200000003 []), 1) ∷
    -- of one span 4 comes before 15, and 15 before 5
    (three (span 0x090001000300000000e8d4a51001 []), 4) ∷
    (three (span 0x090001000200000000e8d4a51001 []), 15) ∷
    -- the total: one too low and one too high; bytes left over come first, and a missing span
    (three (span 0x0900010002010000000000000003 []), 16) ∷
    (three (span 0x0900010002030000000000000003 []), 16) ∷
    (three (span 0x0900010002030000000000000003 (10 ∷ [])), 1) ∷
    (three last ++ last, 1) ∷
    (three [], 1) ∷
    ([], 1) ∷ []

expands : read_expanded (three last) ≡ answer network
unfolding read_expanded stands_for expanded copies read_table table_behind totalled weights spans_in read_table_head
    table_head_in span_refusal above weight_ok count_refusal head_refusal meaning_of frames_of is_line fields_of values_of line_at
    read_line number_of all_digits value_of digit_of spell line_length start_of place_of total widths bytes_of padded digits_of
    kind_of span_cost_digits signed_of vertices_ok cost_ok unless and_then
expands = refl

cases-read : map (λ c. refusal_of (read_table c.0)) cases ≡ map (λ c. c.1) cases
unfolding read_table table_behind totalled weights spans_in read_table_head table_head_in span_refusal above weight_ok
    count_refusal head_refusal frames_of is_line fields_of values_of line_at read_line number_of all_digits value_of digit_of spell
    line_length start_of place_of total widths bytes_of padded digits_of kind_of span_cost_digits signed_of vertices_ok cost_ok
    unless and_then refusal_of
cases-read = refl
