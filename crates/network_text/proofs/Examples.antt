-- Document 01's network text and texts near it, computed: what is read, and what is refused by which number.
-- Assumes nothing.
use mathlib.Core.Path.{◌≡◌, refl}
use mathlib.Core.List.{List, [], ◌∷◌, ◌++◌, map}
use Prim.Native.Nat.{ℕ}
use lib.IntN.{pos, negsuc}
use Rattle.base.specs.Answer.{answer, and_then, unless, refusal_of}
use Rattle.frame.specs.Table.{kind_of, padded, bytes_of, total, place_of, start_of, digits_of, widths, line_length}
use Rattle.digits.specs.Hexadecimal.{value_of, digit_of, all_digits, number_of, spell}
use Rattle.frame.specs.Line.{spell_all, line_of, values_of, fields_of, is_line}
use Rattle.digits.specs.Sign.{signed_of}
use Rattle.frame.specs.Kinds.{cost_digits}
use Rattle.frame.specs.Frames.{frames_of}
use Rattle.frame.proofs.Examples.{printed as line}
use Rattle.base.specs.Limits.{vertices_ok, cost_ok}
use Rattle.network_frames.specs.Frames.{head_refusal, edge_refusal}
use Rattle.network_text.proofs.OneToOne.{written_read}
use Rattle.network_text.specs.Text.{Meaning, checked, meaning_of, in_frames, edges_of}
use Rattle.network_text.specs.Text.{read_network, write_network, reserving_text}

-- lines by their digits, in front of what follows
abbrev head : ℕ → List ℕ → List ℕ
head = line 10

abbrev edge : ℕ → List ℕ → List ℕ
edge = line 30

-- the edges of the printed network, but for the last one
abbrev most : List ℕ → List ℕ
most rest =
    edge 0x020000000000010000000000000007
    (edge 0x020001000000010000000000000004
    (edge 0x020002000000020000000000000001
    (edge 0x020003000000020000000000000002 (edge 0x020004000100020000000000000006 rest))))

abbrev last : List ℕ
last = edge 0x020005000100020000000000000003 []

-- the text that document 01 prints, and its meaning
abbrev pub printed : List ℕ
printed = head 0x0100030000 (most last)

abbrev pub meaning : Meaning
meaning =
    record {
      vertices = 3;
      reserved = 0;
      low = 0 ∷ 0 ∷ 0 ∷ 0 ∷ 1 ∷ 1 ∷ [];
      high = 1 ∷ 1 ∷ 2 ∷ 2 ∷ 2 ∷ 2 ∷ [];
      cost = pos 7 ∷ pos 4 ∷ pos 1 ∷ pos 2 ∷ pos 6 ∷ pos 3 ∷ [];
    }

-- costs at both limits, and costs whose sign is not that of their lower four bytes
abbrev pub signed : List ℕ
signed =
    head 0x0100020000
    (edge 0x02000000000001000000e8d4a51000
    (edge 0x02000100000001ffffff172b5af000
    (edge 0x0200020000000100000000ffffffff (edge 0x02000300000001ffffffff00000000 []))))

abbrev pub signed-meaning : Meaning
signed-meaning =
    record {
      vertices = 2;
      reserved = 0;
      low = 0 ∷ 0 ∷ 0 ∷ 0 ∷ [];
      high = 1 ∷ 1 ∷ 1 ∷ 1 ∷ [];
      cost = pos 1000000000000 ∷ negsuc 999999999999 ∷ pos 4294967295 ∷ negsuc 4294967295 ∷ [];
    }

-- texts near it, each with the number of its refusal, or 0 where it is read
abbrev pub cases : List (List ℕ × ℕ)
cases =
    (printed, 0) ∷
    -- how many vertices: the lowest number, and the numbers beyond the limits
    (
      head 0x0100020003
          (edge 0x020000000000010000000000000005
          (edge 0x02000100000001ffffffffffffffff
          (edge 0x020002000000010000000000000003 (edge 0x020003000000010000000000000003 [])))),
      0,
    ) ∷
    (head 0x0100010000 [], 2) ∷
    (head 0x0101010000 [], 2) ∷
    -- the reserved edge
    (head 0x0100030005 (most last), 0) ∷
    (head 0x0100030006 (most last), 3) ∷
    -- an edge's number, and its ends
    (head 0x0100030000 (most (edge 0x020004000100020000000000000003 [])), 4) ∷
    (head 0x0100030000 (most (edge 0x020005000200020000000000000003 [])), 4) ∷
    (head 0x0100030000 (most (edge 0x020005000200010000000000000003 [])), 4) ∷
    (head 0x0100030000 (most (edge 0x020005000100030000000000000003 [])), 4) ∷
    -- an edge's cost: the limits, one more, and far outside
    (head 0x0100030000 (most (edge 0x02000500010002000000e8d4a51000 [])), 0) ∷
    (head 0x0100030000 (most (edge 0x02000500010002000000e8d4a51001 [])), 5) ∷
    (head 0x0100030000 (most (edge 0x02000500010002ffffff172b5af000 [])), 0) ∷
    (head 0x0100030000 (most (edge 0x02000500010002ffffff172b5aefff [])), 5) ∷
    (head 0x0100030000 (most (edge 0x020005000100027fffffffffffffff [])), 5) ∷
    (head 0x0100030000 (most (edge 0x020005000100028000000000000003 [])), 5) ∷
    -- the first refusal counts: a frame's own numbers before the form of the next, and before bytes left over
    (head 0x0100030006 [], 3) ∷
    (head 0x0100030000 (edge 0x020000000000017fffffffffffffff []), 5) ∷
    (head 0x0100030000 (most (edge 0x020005000100038000000000000000 (10 ∷ []))), 4) ∷
    -- the form: nothing at all, a missing frame, a missing feed, a kind, three lengths, the last with four
    -- bytes for a cost, bytes left over, a blank line, a carriage return, upper case
    ([], 1) ∷
    (head 0x0100030000 (most []), 1) ∷
    (head 0x0100030000 (most (spell 30 0x020005000100020000000000000003 [])), 1) ∷
    (head 0x0200030000 (most last), 1) ∷
    (head 0x0100030000 (most (edge 0x030005000100020000000000000003 [])), 1) ∷
    (head 0x0100030000 (most (line 32 0x02000500010002000000000000000300 [])), 1) ∷
    (head 0x0100030000 (most (line 29 0x20005000100020000000000000003 [])), 1) ∷
    (head 0x0100030000 (most (line 22 0x0200050001000200000003 [])), 1) ∷
    (printed ++ (10 ∷ []), 1) ∷
    (printed ++ last, 1) ∷
    (head 0x0100030000 (10 ∷ most last), 1) ∷
    (head 0x0100030000 (most (spell 30 0x020005000100020000000000000003 (13 ∷ 10 ∷ []))), 1) ∷
    (head 0x0100030000 (most (spell 29 0x02000500010002000000000000000 (65 ∷ 10 ∷ []))), 1) ∷ []

pub printed-read : read_network printed ≡ answer meaning
unfolding read_network edges_of in_frames frames_of is_line fields_of values_of number_of all_digits value_of digit_of spell
    line_length start_of place_of total widths bytes_of padded digits_of kind_of cost_digits signed_of head_refusal edge_refusal
    vertices_ok cost_ok checked unless and_then meaning_of
printed-read = refl

pub signed-read : read_network signed ≡ answer signed-meaning
unfolding read_network edges_of in_frames frames_of is_line fields_of values_of number_of all_digits value_of digit_of spell
    line_length start_of place_of total widths bytes_of padded digits_of kind_of cost_digits signed_of head_refusal edge_refusal
    vertices_ok cost_ok checked unless and_then meaning_of
signed-read = refl

pub printed-written : write_network meaning ≡ answer printed
printed-written = written_read printed meaning printed-read

pub cases-read : map (λ c. refusal_of (read_network c.0)) cases ≡ map (λ c. c.1) cases
unfolding read_network edges_of in_frames frames_of is_line fields_of values_of number_of all_digits value_of digit_of spell
    line_length start_of place_of total widths bytes_of padded digits_of kind_of cost_digits signed_of head_refusal edge_refusal
    vertices_ok cost_ok checked unless and_then meaning_of refusal_of
cases-read = refl

-- the printed text with edge 5 reserved has another head and the same lines behind it
pub other-head : reserving_text 5 printed ≡ head 0x0100030005 (most last)
unfolding reserving_text fields_of values_of number_of value_of digit_of spell spell_all line_of line_length start_of place_of
    total widths bytes_of padded kind_of
other-head = refl
