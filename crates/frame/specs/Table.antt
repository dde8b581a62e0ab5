-- The table of frames, as documents 01 and 02 print it.
use Rattle.std.specs.Prelude.{List, [], ◌∷◌, map, ℕ, zero, suc, ◌+◌, ◌*◌, get_or, take}
use Rattle.digits.specs.Hexadecimal.{byte_values}
use Rattle.frame.specs.declared.table.Kind.{Kind}
use Rattle.frame.specs.declared.table.Kind.TheVariants as kind

-- the kinds, and how many bytes each of their fields has
abbrev pub table : List (ℕ × List ℕ)
table =
    (0x01, 2 ∷ 2 ∷ []) ∷
    (0x02, 2 ∷ 2 ∷ 2 ∷ 8 ∷ []) ∷
    (0x03, 2 ∷ 2 ∷ 2 ∷ 2 ∷ 8 ∷ []) ∷
    (0x04, 2 ∷ []) ∷
    (0x05, 2 ∷ []) ∷
    (0x06, 8 ∷ 8 ∷ []) ∷
    (0x08, 2 ∷ 2 ∷ 2 ∷ []) ∷
    (0x09, 2 ∷ 2 ∷ 1 ∷ 8 ∷ []) ∷
    (0x0a, 2 ∷ 1 ∷ 2 ∷ []) ∷
    (0x0f, 1 ∷ []) ∷ []

-- how many rows the table has
abbrev pub rows : ℕ
rows = 10

-- the rows by name: a network's head and its edges, a chain's
-- steps and its ending, kept edges and their costs, a solver
-- table's head and its spans, an edge's reason, a refusal
abbrev pub HEAD : ℕ
HEAD = 0

abbrev pub EDGE : ℕ
EDGE = 1

abbrev pub STEP : ℕ
STEP = 2

abbrev pub DROPPED : ℕ
DROPPED = 3

abbrev pub KEPT : ℕ
KEPT = 4

abbrev pub COSTS : ℕ
COSTS = 5

abbrev pub TABLE_HEAD : ℕ
TABLE_HEAD = 6

abbrev pub SPAN : ℕ
SPAN = 7

abbrev pub REASON : ℕ
REASON = 8

abbrev pub REFUSAL : ℕ
REFUSAL = 9

-- the row of each kind
abbrev pub row_of : Kind → ℕ
row_of kind.Head = HEAD
row_of kind.Edge = EDGE
row_of kind.Step = STEP
row_of kind.Dropped = DROPPED
row_of kind.Kept = KEPT
row_of kind.Costs = COSTS
row_of kind.TableHead = TABLE_HEAD
row_of kind.Span = SPAN
row_of kind.Reason = REASON
row_of kind.Refusal = REFUSAL

-- how many fields a frame can have
abbrev pub fields : ℕ
fields = 5

-- how many columns a row has, as the code lays it out: the kind, each field's place, the length
abbrev pub columns : ℕ
columns = 1 + fields + 1

-- the kind of a row's frames
unfoldable pub kind_of : ℕ → ℕ
kind_of row = (get_or table row (0, [])).0

-- n numbers, with 0 for those that are missing
unfoldable pub padded : ℕ → List ℕ → List ℕ
padded zero ns = []
padded (suc k) [] = 0 ∷ padded k []
padded (suc k) (n ∷ ns) = n ∷ padded k ns

-- how many bytes each field of a row has; an absent field has none
unfoldable pub bytes_of : ℕ → List ℕ
bytes_of row = padded fields (get_or table row (0, [])).1

-- the sum of numbers
unfoldable pub total : List ℕ → ℕ
total [] = 0
total (n ∷ ns) = n + total ns

-- the byte at which a field starts, behind the kind and the fields before it; behind the last field, the frame's length
unfoldable pub place_of : ℕ → ℕ → ℕ
place_of row field = 1 + total (take field (bytes_of row))

-- a row as the code lays it out: the kind, and then the places
unfoldable pub entry_of : ℕ → ℕ → ℕ
entry_of row zero = kind_of row
entry_of row (suc field) = place_of row field

-- the first n columns of a row as one number, a byte for each, the first on top
unfoldable pub entries_to : ℕ → ℕ → ℕ
entries_to zero row = 0
entries_to (suc n) row = entries_to n row * byte_values + entry_of row n

-- a whole row as one number
abbrev pub entries_of : ℕ → ℕ
entries_of row = entries_to columns row

-- the digit of a line at which a field starts
unfoldable pub start_of : ℕ → ℕ → ℕ
start_of row field = 2 * place_of row field

-- how many digits a field has: two for a byte
unfoldable pub digits_of : ℕ → ℕ → ℕ
digits_of row field = 2 * get_or (bytes_of row) field 0

-- how many digits each field has
unfoldable pub widths : ℕ → List ℕ
widths row = map (λ n. 2 * n) (bytes_of row)

-- how many bytes a line has, with its line feed
unfoldable pub line_length : ℕ → ℕ
line_length row = start_of row fields + 1
