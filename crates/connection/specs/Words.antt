-- Sets of vertices as bits in words (document 01: reached cabinets are bits in four words).
use Rattle.std.specs.Prelude.{Bool, cond, List, [], ◌∷◌, ℕ, ◌+◌, ◌/◌, ◌%◌, ◌^◌, eqb, ltb, get_or, set, replicate}
use Rattle.std.specs.Int.Bits.{bit_or, bit_xor}
use Rattle.std.specs.Int.Count.{count_trailing_zeros}
use Rattle.base.specs.Fold.{sum, bit}
use Rattle.base.specs.Limits.{vertex_limit}
use Rattle.connection.specs.declared.words.VertexSet.{VertexSet}

-- the bits of a word
abbrev pub word_bits : ℕ
word_bits = 64

-- the words that have a bit for each vertex: four
abbrev pub word_count : ℕ
word_count = vertex_limit / word_bits

-- a set by its words
abbrev pub vertex_set : List ℕ → VertexSet
vertex_set W = record { words = W }

-- whether bit i of a word is set
unfoldable pub bit_at : ℕ → ℕ → Bool
bit_at w i = eqb (w / 2 ^ i % 2) 1

-- whether a vertex is in the set
unfoldable pub has : VertexSet → ℕ → Bool
has S v = bit_at (get_or S.words (v / word_bits) 0) (v % word_bits)

-- the set of no vertex
unfoldable pub empty : VertexSet
empty = vertex_set (replicate word_count 0)

-- the set with a vertex
unfoldable pub added : VertexSet → ℕ → VertexSet
added S v = vertex_set (set S.words (v / word_bits) (bit_or (get_or S.words (v / word_bits) 0) (2 ^ (v % word_bits))))

-- the set without a vertex that it has
unfoldable pub removed : VertexSet → ℕ → VertexSet
removed S v = vertex_set (set S.words (v / word_bits) (bit_xor (get_or S.words (v / word_bits) 0) (2 ^ (v % word_bits))))

-- the lowest vertex of the set with these words, found by trailing zeros; past the last word where there is none
unfoldable pub lowest : List ℕ → ℕ
lowest [] = 0
lowest (w ∷ W) =
    let zeros : ℕ = count_trailing_zeros word_bits w in
    let later : ℕ = word_bits + lowest W in
    cond (ltb zeros word_bits) zeros later

-- how many vertices are in the set
unfoldable pub size : VertexSet → ℕ
size S = sum vertex_limit (λ v. bit (has S v))
