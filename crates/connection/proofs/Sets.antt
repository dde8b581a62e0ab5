-- Laws of sets of vertices in words: membership after a change, the lowest vertex, and the size.
use mathlib.Core.Path.{◌≡◌, refl, sym, ◌∙◌, ap}
use mathlib.Core.Logic.{◌≢◌}
use mathlib.Core.Bool.{Bool, true, false, not, xor, or-true, or-false, beq}
use mathlib.Core.List.{List, [], ◌∷◌}
use Prim.Native.Nat.{ℕ, zero, suc, ◌+◌, ◌*◌, ◌-◌, ◌/◌, ◌%◌, ◌^◌, ◌≤◌, ◌<◌}
use native.Mathlib.Omega.{arith}
use native.Mathlib.Numerals.{add-one}
use native.Mathlib.Decide.{ℕ_discrete, dec_lt}
use borrow.Author.Tests.{lt-ltb, le-ltb}
use lib.ListN.{length, get_or, set, drop, length-set, drop_of_length-le, replicate, length-replicate}
use lib.Seq.{drop-cons, get_or-set_same, get_or-set_other}
use lib.Count.{ones, count_trailing_zeros}
use Rattle.std.specs.List.{sum_by}
use Rattle.std.proofs.lemmas.List.Sums.{sum_by-cons}
use Rattle.base.specs.Fold.{fold, sum, bit}
use Rattle.base.specs.Limits.{vertex_limit}
use Rattle.base.proofs.Bools.{eqb-self, eqb_no, bit-low}
use Rattle.base.proofs.Sums.{sum-ext, sum-join, sum_bound}
use Rattle.connection.specs.declared.words.VertexSet.{VertexSet}
use Rattle.connection.specs.Words.{word_bits, word_count, vertex_set, bit_at, has, empty, added, removed, lowest, size}
use Rattle.connection.proofs.Bits.{bit-none, bit-alone, bit-or, bit-xor, trailing-set, trailing-clear, ones-bits}

-- a set has four words
abbrev pub Words : VertexSet → Type 0
Words S = length S.words ≡ word_count

-- ── membership after a change ──

repeat-at : {A : Type 0} (n i : ℕ) (a : A) → get_or (replicate n a) i a ≡ a
repeat-at zero i a = refl
repeat-at (suc n) zero a = refl
repeat-at (suc n) (suc i) a = repeat-at n i a

pub empty-words : Words empty
unfolding empty
empty-words = length-replicate {A = ℕ} word_count 0

pub empty-none : (v : ℕ) → has empty v ≡ false
unfolding empty has
empty-none v = rw (repeat-at {A = ℕ} word_count (v / word_bits) 0) (bit-none (v % word_bits))

-- another word w for v
module _ (S : VertexSet) (v w : ℕ) (sized : Words S) (low : v < vertex_limit) where
  put_same : has (vertex_set (set S.words (v / word_bits) w)) v ≡ bit_at w (v % word_bits)
  unfolding has
  put_same = ap (λ x. bit_at x (v % word_bits)) (get_or-set_same S.words (v / word_bits) w 0 (omega arith))

  -- it differs from the old one at no bit but v's
  put_other : ((i : ℕ) → i ≢ v % word_bits → bit_at w i ≡ bit_at (get_or S.words (v / word_bits) 0) i)
      → (u : ℕ) → u ≢ v → has (vertex_set (set S.words (v / word_bits) w)) u ≡ has S u
  unfolding has
  put_other h u ne = elim (ℕ_discrete (u / word_bits) (v / word_bits)) [
    | yes e ↦ rw (e, get_or-set_same S.words (v / word_bits) w 0 (omega arith)) (h (u % word_bits) (omega arith))
    | no o ↦ ap (λ x. bit_at x (u % word_bits)) (get_or-set_other S.words (v / word_bits) (u / word_bits) w 0 o)
  ]

module _ (S : VertexSet) (v : ℕ) (sized : Words S) where
  pub added-words : Words (added S v)
  unfolding added
  added-words = simp length-set sized

  pub removed-words : Words (removed S v)
  unfolding removed
  removed-words = simp length-set sized

  module _ (low : v < vertex_limit) where
    pub added-same : has (added S v) v ≡ true
    unfolding added
    added-same = put_same S v _ sized low ∙ rw (bit-or, bit-alone, eqb-self, or-true)

    pub added-other : (u : ℕ) → u ≢ v → has (added S v) u ≡ has S u
    unfolding added
    added-other = put_other S v _ sized low (λ i ne. rw (bit-or, bit-alone, eqb_no (λ e. ne (sym e)), or-false))

    pub removed-same : has S v ≡ true → has (removed S v) v ≡ false
    unfolding removed has xor
    removed-same h = put_same S v _ sized low ∙ rw (bit-xor, bit-alone, eqb-self, h)

    pub removed-other : (u : ℕ) → u ≢ v → has (removed S v) u ≡ has S u
    unfolding removed xor
    removed-other = put_other S v _ sized low (λ i ne. rw (bit-xor, bit-alone, eqb_no (λ e. ne (sym e))) (kept _))
      where
        kept : (b : Bool) → not (beq b false) ≡ b
        kept true = refl
        kept false = refl

-- ── the lowest vertex ──

module _ (w : ℕ) (W : List ℕ) where
  has_here : (i : ℕ) → i < word_bits → has (vertex_set (w ∷ W)) i ≡ bit_at w i
  unfolding has
  has_here i l =
      let q : i / word_bits ≡ 0 = omega arith in
      let r : i % word_bits ≡ i = omega arith in
      rw (q, r)

  has-later : (i : ℕ) → has (vertex_set (w ∷ W)) (word_bits + i) ≡ has (vertex_set W) i
  unfolding has
  has-later i =
      let q : (word_bits + i) / word_bits ≡ suc (i / word_bits) = omega arith in
      let r : (word_bits + i) % word_bits ≡ i % word_bits = omega arith in
      rw (q, r)

  lowest-here : count_trailing_zeros word_bits w < word_bits → lowest (w ∷ W) ≡ count_trailing_zeros word_bits w
  unfolding lowest
  lowest-here l = rw (lt-ltb _ _ l)

  lowest-later : word_bits ≤ count_trailing_zeros word_bits w → lowest (w ∷ W) ≡ word_bits + lowest W
  unfolding lowest
  lowest-later l = rw (le-ltb _ _ l)

lowest-in : (W : List ℕ) → lowest W < word_bits * length W → has (vertex_set W) (lowest W) ≡ true
lowest-in [] l = absurd (omega arith)
lowest-in (w ∷ W) l = elim (dec_lt (count_trailing_zeros word_bits w) word_bits) [
  | yes h ↦ rw (lowest-here w W h) (has_here w W _ h ∙ trailing-set word_bits w h)
  | no h ↦ let e = lowest-later w W (omega arith) in rw e (has-later w W _ ∙ lowest-in W (omega (arith, e)))
]

lowest-past : (W : List ℕ) → word_bits * length W ≤ lowest W → (v : ℕ) → has (vertex_set W) v ≡ false
unfolding has
lowest-past [] l v = bit-none (v % word_bits)
lowest-past (w ∷ W) l v = elim (dec_lt (count_trailing_zeros word_bits w) word_bits) [
  | yes h ↦ absurd (omega (arith, lowest-here w W h))
  | no h ↦ elim (dec_lt v word_bits) [
    | yes k ↦ has_here w W v k ∙ trailing-clear word_bits w v (omega arith)
    | no k ↦
        let e : word_bits + (v - word_bits) ≡ v = omega arith in
        let past = lowest-past W (omega (arith, lowest-later w W (omega arith))) (v - word_bits) in
        ap (has (vertex_set (w ∷ W))) (sym e) ∙ has-later w W (v - word_bits) ∙ past
  ]
]

pub lowest-has : (S : VertexSet) → Words S → lowest S.words < vertex_limit → has S (lowest S.words) ≡ true
lowest-has S sized l = lowest-in S.words (omega arith)

pub lowest-none : (S : VertexSet) → Words S → vertex_limit ≤ lowest S.words → (v : ℕ) → has S v ≡ false
lowest-none S sized l = lowest-past S.words (omega arith)

-- the same from word i on
module _ (W : List ℕ) (i : ℕ) (l : i < length W) where
  pub lowest-from : count_trailing_zeros word_bits (get_or W i 0) < word_bits
      → lowest (drop i W) ≡ count_trailing_zeros word_bits (get_or W i 0)
  lowest-from h = rw (drop-cons W i 0 l) (lowest-here (get_or W i 0) (drop (suc i) W) h)

  pub lowest-after : word_bits ≤ count_trailing_zeros word_bits (get_or W i 0)
      → lowest (drop i W) ≡ word_bits + lowest (drop (i + 1) W)
  lowest-after h = rw (drop-cons W i 0 l, add-one) (lowest-later (get_or W i 0) (drop (suc i) W) h)

pub lowest-end : (W : List ℕ) (i : ℕ) → length W ≤ i → lowest (drop i W) ≡ 0
unfolding lowest
lowest-end W i l = rw (drop_of_length-le W l)

-- ── the size ──

-- the bits that are set in all words are as many as the vertices in the set
pub ones-size : (W : List ℕ) → ((i : ℕ) → get_or W i 0 < 2 ^ word_bits)
    → sum_by ones W ≡ sum (word_bits * length W) (λ v. bit (has (vertex_set W) v))
unfolding fold
ones-size [] fits = refl
ones-size (w ∷ W) fits =
    let next : word_bits * length (w ∷ W) ≡ word_bits + word_bits * length W = omega arith in
    rw next
    (omega (
      arith,
      sum_by-cons ones w W,
      ones-bits word_bits w (fits 0),
      ones-size W (λ i. fits (suc i)),
      sum-join word_bits (word_bits * length W) (λ v. bit (has (vertex_set (w ∷ W)) v)),
      sum-ext word_bits (λ i. bit (bit_at w i)) (λ i. bit (has (vertex_set (w ∷ W)) i)) (λ i l. ap bit (sym (has_here w W i l))),
      sum-ext (word_bits * length W) (λ v. bit (has (vertex_set W) v)) (λ v. bit (has (vertex_set (w ∷ W)) (word_bits + v)))
          (λ v l. ap bit (sym (has-later w W v))),
    ))

-- so they have a size, which is small
module _ (S : VertexSet) (sized : Words S) (fits : (i : ℕ) → get_or S.words i 0 < 2 ^ word_bits) where
  pub counted-size : sum_by ones S.words ≡ size S
  unfolding size
  counted-size = ones-size S.words fits ∙ rw sized refl

  pub counted-few : sum_by ones S.words ≤ vertex_limit
  unfolding size
  counted-few = rw counted-size (omega (arith, sum_bound vertex_limit 1 (λ v. bit (has S v)) (λ v l. bit-low (has S v))))
