-- The kept edges one after the other, what is owed of the edges that a kept text lists, and the lengths of kept texts.
-- Assumes nothing.
use mathlib.Core.Path.{◌≡◌, refl, sym, ◌∙◌, ap}
use mathlib.Core.Bool.{Bool, true, false, cond, ◌&&◌}
use mathlib.Core.List.{List, [], ◌∷◌, ◌++◌, map, append-nil}
use Prim.Native.Nat.{ℕ, zero, suc, ◌+◌, ◌*◌, ◌-◌, ◌^◌, ◌≤◌, ◌<◌, min}
use native.Mathlib.Omega.{arith}
use native.Mathlib.Nat.{zero-add}
use native.Mathlib.Numerals.{add-one}
use native.Mathlib.Decide.{dec_lt}
use lib.Dec.{ltb, lit<}
use lib.ListN.{length, take, length-append, get_or-eq_default}
use lib.Seq.{drop_at}
use lib.IntN.{ℤ, nat_abs}
use lib.Signed.{mag}
use borrow.Author.Tests.{ltb-true, lt-ltb, le-leb}
use Rattle.std.specs.List.{count_by}
use Rattle.std.proofs.lemmas.List.Sums.{count_by_more_yes, count_by_more_no}
use Rattle.base.specs.Answer.{answer, and_then, over}
use Rattle.base.specs.Fold.{pick, among}
use Rattle.base.specs.Lengths.{longest_kept}
use Rattle.base.specs.Limits.{vertices_ok, edge_limit}
use Rattle.base.proofs.Bools.{same_test, and_both, and_left, and_right}
use Rattle.base.proofs.Integers.{mag-within}
use Rattle.base.proofs.Picks.{pick-few, pick_more, pick-kept, pick_other, pick-beyond, pick-among, among-pick}
use Rattle.digits.proofs.Signs.{unsigned-lt}
use Rattle.frame.specs.Table.{KEPT, COSTS, REFUSAL, bytes_of, padded, total, place_of, start_of, digits_of, widths, line_length}
use Rattle.frame.specs.Line.{line_of, Fits}
use Rattle.frame.specs.Frames.{listed, lines_of}
use Rattle.frame.specs.Kinds.{of_costs, of_refusal, kept_digits, unreserved_digits}
use Rattle.frame.specs.declared.kinds.Costs.{Costs}
use Rattle.frame.proofs.Lines.{length-line, fields-found}
use Rattle.frame.proofs.Named.{costs-found}
use Rattle.base.proofs.Writing.{Written, written_last, written-size, written-front}
use Rattle.list_text.specs.Text.{frame_of, rising_from, list_in, read_list, list_text, write_list}
use Rattle.kept_text.specs.Text.{is_kept, kept_edges, costs_text, kept_text, costs_end, costs_in, kept_length}
use Rattle.kept_text.specs.Text.{refusal_text, ListsKept}
use Rattle.list_text.proofs.OneToOne.{one_to_one}
use Rattle.list_text.proofs.Texts.{length-list}

-- the text that is left, where the number at the place is kept
pub text-kept : (p : ℕ → Bool) (n k : ℕ) → k < n → p k ≡ true
    → list_text (pick (n - k) k p) ≡ line_of KEPT (frame_of k) ++ list_text (pick (n - (k + 1)) (k + 1) p)
unfolding list_text lines_of
text-kept p n k h t = ap list_text (pick-kept p n k h t)

-- the line of a kept edge is left to write, and an edge that isn't kept has none
module _ (p : ℕ → Bool) (n k : ℕ) {whole old out : List ℕ} {at : ℕ}
    (w : Written whole (list_text (pick (n - k) k p)) old out at) (h : k < n) where
  pub kept-left : p k ≡ true
      → Written whole (line_of KEPT (frame_of k) ++ list_text (pick (n - (k + 1)) (k + 1) p)) old out at
  kept-left t = rw (text-kept p n k h t) at w

  pub kept-passed : p k ≡ false → Written whole (list_text (pick (n - (k + 1)) (k + 1) p)) old out at
  kept-passed t = rw (pick_other p n k h t) at w

-- as many marks are set as edges are kept
pub kept-counted : (marks : List Bool) (n : ℕ) → n ≤ length marks
    → count_by (λ b. b) (take n marks) ≡ length (kept_edges n marks)
unfolding kept_edges
kept-counted marks n h = go n h
  where
    one : (n : ℕ) (b : Bool) → is_kept marks n ≡ b → n < length marks
        → count_by (λ b. b) (take n marks) ≡ length (pick n 0 (is_kept marks))
        → count_by (λ b. b) (take (n + 1) marks) ≡ length (pick (suc n) 0 (is_kept marks))
    one n true e h i =
        let more : length (pick (suc n) 0 (is_kept marks)) ≡ length (pick n 0 (is_kept marks)) + 1 =
        rw (pick_more n 0 (is_kept marks), zero-add, e) (length-append (pick n 0 (is_kept marks)) (n ∷ [])) in
        count_by_more_yes (λ b. b) marks n false h e ∙ omega (arith, i, more)
    one n false e h i =
        let more : pick (suc n) 0 (is_kept marks) ≡ pick n 0 (is_kept marks) =
        rw (pick_more n 0 (is_kept marks), zero-add, e) (append-nil (pick n 0 (is_kept marks))) in
        count_by_more_no (λ b. b) marks n false h e ∙ i ∙ ap length (sym more)

    go : (n : ℕ) → n ≤ length marks → count_by (λ b. b) (take n marks) ≡ length (pick n 0 (is_kept marks))
    go zero h = unfold pick in refl
    go (suc n) h = rw add-one at (one n (is_kept marks n) refl (omega arith) (go n (omega arith)))

-- an edge beyond the marks isn't kept
pub marks-end : (marks : List Bool) (n m : ℕ) → length marks ≤ m → m ≤ n → kept_edges n marks ≡ kept_edges m marks
unfolding kept_edges
marks-end marks n m h l =
    let e : n ≡ m + (n - m) = omega arith in
    rw e (pick-beyond (is_kept marks) m (n - m) 0 (λ i k. get_or-eq_default marks false (omega arith)))

-- so it is enough to look at as many edges as there are marks
pub marks-looked : (marks : List Bool) (n m : ℕ) → m ≡ min n (length marks) → kept_edges n marks ≡ kept_edges m marks
marks-looked marks n m h = elim (dec_lt n (length marks)) [
  | yes l ↦ let e : n ≡ m = omega arith in rw e
  | no g ↦ marks-end marks n m (omega arith) (omega arith)
]

-- ── what is owed of the listed edges ──

exactly : (n : ℕ) (marks : List Bool) (e : ℕ) → among e (kept_edges n marks) ≡ (ltb e n && is_kept marks e)
unfolding kept_edges
exactly n marks e =
    same_test _ _
    (λ h. let w = pick-among n 0 (is_kept marks) e h in and_both (lt-ltb e n (omega arith)) w.2)
    (λ h.
    let inside = ltb-true e n (and_left (ltb e n) (is_kept marks e) h) in
    among-pick n 0 (is_kept marks) e (omega arith) (omega arith) (and_right (ltb e n) (is_kept marks e) h))

-- picked numbers rise, so none of them is refused in a list
picked-listed : (p : ℕ → Bool) (n k i least : ℕ) → least ≤ i → i + k ≤ 2 * n
    → rising_from n least (listed (map frame_of (pick k i p))) ≡ answer (pick k i p)
unfolding pick listed rising_from
picked-listed p n zero i least l h = refl
picked-listed p n (suc k) i least l h =
    go (p i) (picked-listed p n k (suc i) (suc i) (omega arith) (omega arith))
    (picked-listed p n k (suc i) least (omega arith) (omega arith))
  where
    later : List ℕ
    later = pick k (suc i) p

    go : (b : Bool) → rising_from n (suc i) (listed (map frame_of later)) ≡ answer later
        → rising_from n least (listed (map frame_of later)) ≡ answer later
        → rising_from n least (listed (map frame_of (cond b (i ∷ later) later))) ≡ answer (cond b (i ∷ later) later)
    go true with_it without = unfold and_then in rw (le-leb least i l, lt-ltb i (2 * n) (omega arith), with_it)
    go false with_it without = without

rising : (n : ℕ) (marks : List Bool) → vertices_ok n ≡ true
    → read_list n (list_text (kept_edges (2 * n) marks)) ≡ answer (kept_edges (2 * n) marks)
rising n marks h = one_to_one.read_written n (kept_edges (2 * n) marks) _ written
  where
    written : write_list n (kept_edges (2 * n) marks) ≡ answer (list_text (kept_edges (2 * n) marks))
    written =
        unfold write_list list_in kept_edges and_then in
        rw (h, picked-listed (is_kept marks) n (2 * n) 0 0 (omega arith) (omega arith))

pub lists-kept : ListsKept
lists-kept = record { exactly = exactly; rising = rising }

-- ── lengths ──

-- the frame 06 is one line
pub length-costs : (kept unreserved : ℤ) → length (costs_text kept unreserved) ≡ line_length COSTS
unfolding costs_text
length-costs kept unreserved = length-line COSTS (of_costs (record { kept = kept; unreserved = unreserved }))

pub length-kept : (es : List ℕ) (kept unreserved : ℤ) → length (kept_text es kept unreserved) ≡ kept_length (length es)
unfolding kept_text kept_length
length-kept es kept unreserved =
    length-append (list_text es) (costs_text kept unreserved)
    ∙ omega (arith, length-list es, length-costs kept unreserved)

-- a text of that length has room
pub kept-fits : (es : List ℕ) (kept unreserved : ℤ) (n m : ℕ) → n ≡ kept_length (length es) → n ≤ m
    → length (kept_text es kept unreserved) ≤ m
kept-fits es kept unreserved n m e h = omega (arith, length-kept es kept unreserved)

-- the number of base is what the table of frames says
pub longest-kept : kept_length edge_limit ≡ longest_kept
unfolding kept_length line_length start_of place_of bytes_of padded total
longest-kept = refl

-- and no kept text is longer, since no more edges are kept than are looked at
pub kept-short : (count : ℕ) → count ≤ edge_limit → kept_length count ≤ longest_kept
unfolding kept_length line_length start_of place_of bytes_of padded total
kept-short count h = omega arith

pub few-kept : (n : ℕ) (marks : List Bool) → length (kept_edges n marks) ≤ n
unfolding kept_edges
few-kept n marks = pick-few n 0 (is_kept marks)

-- so many kept edges as are counted, and what their text has at most
pub marked-short : {n count : ℕ} (marks : List Bool) → count ≡ length (kept_edges n marks) → n ≤ edge_limit
    → kept_length count ≤ longest_kept
marked-short {n} {count} marks e h = kept-short count (omega (arith, few-kept n marks))

-- the line of a refusal
pub length-refusal : (k : ℕ) → length (refusal_text k) ≡ line_length REFUSAL
unfolding refusal_text
length-refusal k = length-line REFUSAL (of_refusal (record { number = k }))

-- the costs are left to write behind the kept edges
module _ (es : List ℕ) (kept unreserved : ℤ) (old out : List ℕ) (at : ℕ) (n : at ≡ length (list_text es))
    (e : out ≡ over (list_text es) old) (h : length (kept_text es kept unreserved) ≤ length old) where
  pub costs-left : Written (kept_text es kept unreserved) (costs_text kept unreserved ++ []) old out at
  unfolding kept_text
  costs-left =
      written_last (kept_text es kept unreserved) (costs_text kept unreserved) old out at
      (written-front (list_text es) (costs_text kept unreserved) old out at n e h)

  pub costs-place : at ≤ length out
  costs-place = let w = costs-left in omega (arith, written-size _ _ _ _ _ w, w.place, w.room)

-- a kept text ends with them
pub costs-last : (es : List ℕ) (kept unreserved : ℤ)
    → costs_end (kept_text es kept unreserved) ≡ costs_text kept unreserved
unfolding costs_end kept_text
costs-last es kept unreserved =
    let costs = costs_text kept unreserved in
    drop_at (list_text es) costs (length (list_text es ++ costs) - line_length COSTS)
    (omega (arith, length-append (list_text es) costs, length-costs kept unreserved))

-- a cost that is far from 64 bits has room in its field
pub cost_room : (a : ℤ) → nat_abs a < 2 ^ 62 → (2 * mag a < 16 ^ kept_digits) × (2 * mag a < 16 ^ unreserved_digits)
unfolding kept_digits unreserved_digits digits_of bytes_of padded
cost_room a h = (omega (arith, mag-within a), omega (arith, mag-within a))

-- the costs are found again in the last line, where they have room in their fields
pub costs-read : (es : List ℕ) (kept unreserved : ℤ) → 2 * mag kept < 16 ^ kept_digits
    → 2 * mag unreserved < 16 ^ unreserved_digits
    → costs_in (kept_text es kept unreserved) ≡ record { kept = kept; unreserved = unreserved }
unfolding costs_in costs_text
costs-read es kept unreserved h l =
    let c : Costs = record { kept = kept; unreserved = unreserved } in
    rw (costs-last es kept unreserved, ← append-nil (line_of COSTS (of_costs c)))
    (rw (fields-found COSTS (of_costs c) [] fit) (costs-found c h l))
  where
    fit : Fits COSTS (of_costs (record { kept = kept; unreserved = unreserved }))
    fit =
        unfold Fits widths bytes_of padded kept_digits unreserved_digits digits_of in (
          unsigned-lt kept_digits kept h,
          (unsigned-lt unreserved_digits unreserved l, (lit< tt, (lit< tt, (lit< tt, tt)))),
        )
