-- The refusals, by the numbers of documents 01 and 02.
use Rattle.std.specs.Prelude.{ℕ}

-- a broken line, a wrong kind or length for its place, missing frames, bytes left over
abbrev pub FORM : ℕ
FORM = 1

-- how many vertices there are
abbrev pub VERTICES : ℕ
VERTICES = 2

-- the reserved edge, or a candidate for it, is none of the network's
abbrev pub RESERVED : ℕ
RESERVED = 3

-- an edge's number or its ends
abbrev pub ENDS : ℕ
ENDS = 4

-- an edge's cost
abbrev pub COST : ℕ
COST = 5

-- a vertex without degree 4
abbrev pub DEGREE : ℕ
DEGREE = 6

-- a cut crossed by fewer than four edges
abbrev pub CUT : ℕ
CUT = 7

-- v is no end of the reserved edge
abbrev pub NO_END : ℕ
NO_END = 8

-- x or y is no partner at v, or they are one
abbrev pub NO_PARTNER : ℕ
NO_PARTNER = 9

-- x or y is not admissible
abbrev pub NOT_ADMISSIBLE : ℕ
NOT_ADMISSIBLE = 10

-- x costs less than y
abbrev pub CHEAPER : ℕ
CHEAPER = 11

-- the dropped edge is none of the last three, or cheaper than another of them
abbrev pub NOT_DEAREST : ℕ
NOT_DEAREST = 12

-- a buffer shorter than what is due to it
abbrev pub SHORT : ℕ
SHORT = 13

-- a listed edge that is not the network's, or not above the one before
abbrev pub UNLISTED : ℕ
UNLISTED = 14

-- a span's doubled weight, or a pair of ends that is not above the one before
abbrev pub WEIGHT : ℕ
WEIGHT = 15

-- more spans than a network has edges, or weights that total another number
abbrev pub TOTAL : ℕ
TOTAL = 16

-- z is not the third partner, or its cost is not the one after the step
abbrev pub NOT_GIVEN : ℕ
NOT_GIVEN = 17
