-- Lines of document 01 and of its readings, computed.
-- Assumes nothing.
use mathlib.Core.Path.{◌≡◌, refl}
use mathlib.Core.List.{List, [], ◌∷◌, map}
use Prim.Native.Nat.{ℕ}
use lib.IntN.{negsuc}
use Rattle.base.specs.Answer.{refused, answer}
use Rattle.frame.specs.Table.{STEP, KEPT, COSTS, REFUSAL, kind_of, padded, bytes_of, total, place_of, start_of, digits_of}
use Rattle.frame.specs.Table.{widths, line_length}
use Rattle.digits.specs.Hexadecimal.{value_of, digit_of, all_digits, number_of, spell}
use Rattle.digits.specs.Sign.{unsigned_of}
use Rattle.frame.specs.Line.{FEED, spell_all, values_of, line_of, fields_of, is_line, line_at, read_line}
use Rattle.frame.specs.Kinds.{step_cost_digits, of_step, of_kept, kept_digits, unreserved_digits, of_costs, of_refusal}

-- a line by its digits, read as one number, in front of what follows
abbrev pub printed : ℕ → ℕ → List ℕ → List ℕ
printed digits v rest = spell digits v (FEED ∷ rest)

-- a step at 1 with 4 and 5, z 1 at the new cost -2: its line, and the line read
a-step : List ℕ
a-step = printed 34 0x03_0001_0004_0005_0001_fffffffffffffffe []

step-written : line_of STEP (of_step (record { v = 1; x = 4; y = 5; z = 1; cost = negsuc 1 })) ≡ a-step
unfolding a-step kind_of padded bytes_of digits_of widths digit_of spell unsigned_of spell_all line_of step_cost_digits
step-written = refl

step-read : read_line STEP a-step 0
    ≡ answer (of_step (record { v = 1; x = 4; y = 5; z = 1; cost = negsuc 1 }), 35)
unfolding a-step kind_of padded bytes_of total place_of start_of digits_of widths line_length value_of digit_of spell unsigned_of
    all_digits number_of values_of fields_of is_line line_at read_line step_cost_digits
step-read = refl

-- and a frame 03 without z and its cost, as it once was, is none
short-step : read_line STEP (printed 14 0x03_0001_0004_0005 []) 0 ≡ refused 1
unfolding kind_of padded bytes_of total place_of start_of digits_of widths line_length value_of digit_of spell all_digits
    number_of values_of fields_of is_line line_at read_line
short-step = refl

-- the last edge of the printed kept text, with the place behind its line
kept_read : read_line KEPT (48 ∷ 53 ∷ 48 ∷ 48 ∷ 48 ∷ 53 ∷ 10 ∷ []) 0 ≡ answer (of_kept (record { edge = 5 }), 7)
unfolding kind_of padded bytes_of total place_of start_of digits_of widths line_length value_of all_digits number_of values_of
    fields_of is_line line_at read_line
kept_read = refl

-- costs -10 and -14
costs-written : line_of COSTS (of_costs (record { kept = negsuc 9; unreserved = negsuc 13 }))
    ≡ 48 ∷ 54 ∷ 102 ∷ 102 ∷ 102 ∷ 102 ∷ 102 ∷ 102 ∷ 102 ∷ 102 ∷ 102 ∷ 102 ∷ 102 ∷ 102 ∷ 102 ∷ 102 ∷ 102 ∷ 54 ∷ 102 ∷
    102 ∷ 102 ∷ 102 ∷ 102 ∷ 102 ∷ 102 ∷ 102 ∷ 102 ∷ 102 ∷ 102 ∷ 102 ∷ 102 ∷ 102 ∷ 102 ∷ 50 ∷ 10 ∷ []
unfolding kind_of padded bytes_of digits_of widths digit_of spell unsigned_of spell_all line_of kept_digits unreserved_digits
costs-written = refl

-- refusal 10
refusal-written : line_of REFUSAL (of_refusal (record { number = 10 })) ≡ 48 ∷ 102 ∷ 48 ∷ 97 ∷ 10 ∷ []
unfolding kind_of padded bytes_of widths digit_of spell spell_all line_of
refusal-written = refl

-- texts that start with no line of kind 05: upper case, digits too few and too many, a
-- carriage return, no feed, a blank line, nothing, another kind, two frames on one line
broken : List (List ℕ)
broken =
    (48 ∷ 53 ∷ 48 ∷ 48 ∷ 48 ∷ 65 ∷ 10 ∷ []) ∷
    (48 ∷ 53 ∷ 48 ∷ 48 ∷ 48 ∷ 10 ∷ []) ∷
    (48 ∷ 53 ∷ 48 ∷ 48 ∷ 48 ∷ 48 ∷ 49 ∷ 10 ∷ []) ∷
    (48 ∷ 53 ∷ 48 ∷ 48 ∷ 48 ∷ 49 ∷ 13 ∷ 10 ∷ []) ∷
    (48 ∷ 53 ∷ 48 ∷ 48 ∷ 48 ∷ 49 ∷ []) ∷
    (10 ∷ []) ∷
    [] ∷
    (48 ∷ 52 ∷ 48 ∷ 48 ∷ 48 ∷ 49 ∷ 10 ∷ []) ∷
    (48 ∷ 53 ∷ 48 ∷ 48 ∷ 48 ∷ 49 ∷ 48 ∷ 53 ∷ 48 ∷ 48 ∷ 48 ∷ 10 ∷ []) ∷ []

all-refused : map (λ t. read_line KEPT t 0) broken ≡ map (λ t. refused 1) broken
unfolding broken kind_of padded bytes_of total place_of start_of digits_of widths line_length value_of all_digits number_of
    values_of fields_of is_line line_at read_line
all-refused = refl
