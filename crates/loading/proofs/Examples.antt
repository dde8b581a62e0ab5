-- The pass over texts of three vertices, computed: vertices 0 and 1 have their fifth edge before the last frame.
use mathlib.Core.Path.{◌≡◌, refl}
use mathlib.Core.List.{List, [], ◌∷◌, ◌++◌, map}
use Prim.Native.Nat.{ℕ}
use lib.ListN.{take}
use Rattle.base.specs.Answer.{and_then, unless}
use Rattle.base.specs.Fold.{tabulate}
use Rattle.base.specs.Limits.{vertices_ok, cost_ok}
use Rattle.digits.specs.Hexadecimal.{value_of, digit_of, all_digits, number_of, spell}
use Rattle.digits.specs.Sign.{signed_of}
use Rattle.frame.specs.Table.{kind_of, padded, bytes_of, total, place_of, start_of, digits_of, widths, line_length}
use Rattle.frame.specs.Line.{values_of, fields_of, is_line, line_at, read_line}
use Rattle.frame.specs.Kinds.{cost_digits}
use Rattle.frame.proofs.Examples.{printed as line}
use Rattle.network_frames.specs.Frames.{head_refusal, edge_refusal, head_in, read_head, edge_in, read_edge}
use Rattle.loading.specs.Pass.{Pass, onward, run_of, edges_at, tally_of, pass_over, pass_behind, pass_of}

-- an edge by its digits, in front of what follows
abbrev edge : ℕ → List ℕ → List ℕ
edge = line 30

-- a network of three vertices with five edges between 0 and 1, in front of what follows
abbrev crowded : List ℕ → List ℕ
crowded rest =
    line 10 0x0100030000
    (edge 0x020000000000010000000000000001
    (edge 0x020001000000010000000000000001
    (edge 0x020002000000010000000000000001
    (edge 0x020003000000010000000000000001 (edge 0x020004000000010000000000000001 rest)))))

abbrev last : List ℕ
last = edge 0x020005000100020000000000000001 []

-- the refusal, its place, how many edges were read, and how many of them are at each vertex
abbrev said : Pass → List ℕ
said p = p.refusal ∷ p.place ∷ p.read ∷ take 3 p.tally

-- texts, and what is said of them
abbrev pub cases : List (List ℕ × List ℕ)
cases =
    -- nothing is refused: 6 is not the pass's to give
    (crowded last, 0 ∷ 197 ∷ 6 ∷ 5 ∷ 6 ∷ 1 ∷ []) ∷
    -- the last frame's ends, its cost, its form, and a byte left over
    (crowded (edge 0x020005000200000000000000000001 []), 4 ∷ 166 ∷ 5 ∷ 5 ∷ 5 ∷ 0 ∷ []) ∷
    (crowded (edge 0x02000500010002000000e8d4a51001 []), 5 ∷ 166 ∷ 5 ∷ 5 ∷ 5 ∷ 0 ∷ []) ∷
    (crowded (line 29 0x02000500010002000000000000000 []), 1 ∷ 166 ∷ 5 ∷ 5 ∷ 5 ∷ 0 ∷ []) ∷
    (crowded (last ++ (48 ∷ [])), 1 ∷ 197 ∷ 6 ∷ 5 ∷ 6 ∷ 1 ∷ []) ∷
    -- the first frame, and the head
    (line 10 0x0100030000 [], 1 ∷ 11 ∷ 0 ∷ 0 ∷ 0 ∷ 0 ∷ []) ∷
    (line 10 0x0100030006 [], 3 ∷ 0 ∷ 0 ∷ 0 ∷ 0 ∷ 0 ∷ []) ∷ []

pub cases-said : map (λ c. said (pass_of c.0)) cases ≡ map (λ c. c.1) cases
unfolding pass_of pass_behind pass_over run_of onward tally_of edges_at tabulate read_head head_in read_edge edge_in read_line
    line_at is_line fields_of values_of number_of all_digits value_of digit_of spell line_length start_of place_of total widths
    bytes_of padded digits_of kind_of cost_digits signed_of head_refusal edge_refusal vertices_ok cost_ok unless and_then
cases-said = refl
