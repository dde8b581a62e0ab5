-- The laws of the table: the places of a line follow from the widths of its fields, and what holds of every row.
-- Assumes nothing.
use mathlib.Core.Path.{◌≡◌, refl, ◌∙◌, ap}
use mathlib.Core.Bool.{Bool}
use mathlib.Core.List.{List, [], ◌∷◌, map}
use Prim.Native.Nat.{ℕ, zero, suc, ◌+◌, ◌*◌, ◌-◌, ◌/◌, ◌%◌, ◌^◌, ◌≤◌, ◌<◌}
use native.Mathlib.Omega.{arith}
use native.Mathlib.Numerals.{add-one}
use native.Mathlib.Decide.{dec_lt}
use lib.Dec.{leb, ltb, eqb}
use lib.ListN.{length, take, drop, get_or, length-map, drop_of_length-le, get_or-map, get_or-eq_default}
use lib.Seq.{drop-cons, take_all, take-nil}
use borrow.Author.Tests.{ltb-true, leb-true, eqb-true}
use Rattle.digits.specs.Hexadecimal.{byte_values}
use Rattle.frame.specs.Table.{table, rows, fields, columns, kind_of, padded, bytes_of, total, place_of, entry_of}
use Rattle.frame.specs.Table.{row_of, start_of, digits_of, widths, entries_to, entries_of}
use Rattle.frame.specs.declared.table.Kind.{Kind}
use Rattle.frame.specs.declared.table.Kind.TheVariants as kind
use Rattle.base.specs.Fold.{fold, tabulate}
use Rattle.base.proofs.Sums.{each-each-at, tabulate-at}

-- the table has a row for each kind
pub row-listed : (k : Kind) → row_of k < rows
row-listed kind.Head = omega arith
row-listed kind.Edge = omega arith
row-listed kind.Step = omega arith
row-listed kind.Dropped = omega arith
row-listed kind.Kept = omega arith
row-listed kind.Costs = omega arith
row-listed kind.TableHead = omega arith
row-listed kind.Span = omega arith
row-listed kind.Reason = omega arith
row-listed kind.Refusal = omega arith

-- sums
total-next : (ns : List ℕ) (k : ℕ) → total (take (suc k) ns) ≡ total (take k ns) + get_or ns k 0
unfolding total
total-next [] k = rw take-nil
total-next (n ∷ ns) zero = omega arith
total-next (n ∷ ns) (suc k) = omega (arith, total-next ns k)

total-take : (ns : List ℕ) (k : ℕ) → total (take k ns) ≤ total ns
unfolding total
total-take ns zero = omega arith
total-take [] (suc k) = omega arith
total-take (n ∷ ns) (suc k) = omega (arith, total-take ns k)

total-double : (ns : List ℕ) → total (map (λ n. 2 * n) ns) ≡ 2 * total ns
unfolding total
total-double [] = refl
total-double (n ∷ ns) = omega (arith, total-double ns)

length-padded : (k : ℕ) (ns : List ℕ) → length (padded k ns) ≡ k
unfolding padded
length-padded zero ns = refl
length-padded (suc k) [] = ap suc (length-padded k [])
length-padded (suc k) (n ∷ ns) = ap suc (length-padded k ns)

-- the places of a line
module _ (row : ℕ) where
  pub length-bytes : length (bytes_of row) ≡ fields
  unfolding bytes_of
  length-bytes = length-padded fields (get_or table row (0, [])).1

  pub length-widths : length (widths row) ≡ fields
  unfolding widths
  length-widths = length-map (bytes_of row) (λ n. 2 * n) ∙ length-bytes

  pub start_first : start_of row 0 ≡ 2
  unfolding start_of place_of total
  start_first = refl

  pub start-next : (k : ℕ) → start_of row (k + 1) ≡ start_of row k + digits_of row k
  unfolding start_of place_of digits_of
  start-next k = rw add-one (omega (arith, total-next (bytes_of row) k))

  pub start-end : start_of row fields ≡ 2 + total (widths row)
  unfolding start_of place_of widths
  start-end =
      omega
      (arith, ap total (take_all fields (bytes_of row) (omega (arith, length-bytes))), total-double (bytes_of row))

  pub start-within : (k : ℕ) → start_of row k ≤ start_of row fields
  unfolding start_of place_of widths
  start-within k = omega (arith, total-take (bytes_of row) k, total-double (bytes_of row), start-end)

  pub widths-next : (k : ℕ) → k < fields → drop k (widths row) ≡ digits_of row k ∷ drop (k + 1) (widths row)
  unfolding digits_of widths
  widths-next k h =
      let l : k < length (map (λ n. 2 * n) (bytes_of row)) =
      omega (arith, length-map (bytes_of row) (λ n. 2 * n), length-bytes) in
      rw (add-one, ← get_or-map (λ n. 2 * n) (bytes_of row) k 0) (drop-cons (map (λ n. 2 * n) (bytes_of row)) k 0 l)

  pub widths-end : (k : ℕ) → fields ≤ k → drop k (widths row) ≡ []
  widths-end k h = drop_of_length-le (widths row) {i = k} (omega (arith, length-widths))

-- what holds of every row, by a test at each entry
small : ℕ → ℕ → Bool
small row column = ltb (entry_of row column) byte_values

narrow : ℕ → ℕ → Bool
narrow row k = leb (digits_of row k) 16

module _ (row : ℕ) (h : row < rows) where
  pub entry-small : (column : ℕ) → column < columns → entry_of row column < byte_values
  unfolding fold small entry_of kind_of place_of bytes_of padded total
  entry-small column l = ltb-true _ _ (each-each-at small rows columns refl row column h l)

  pub digits-narrow : (k : ℕ) → k < fields → digits_of row k ≤ 16
  unfolding fold narrow digits_of bytes_of padded
  digits-narrow k l = leb-true _ _ (each-each-at narrow rows fields refl row k h l)

  pub start_small : (k : ℕ) → k ≤ fields → start_of row k < 2 * byte_values
  unfolding start_of entry_of
  start_small k l = omega (arith, entry-small (suc k) (omega arith))

-- a kind is one byte; a row that the table does not have has kind 0
pub kind-small : (row : ℕ) → kind_of row < byte_values
unfolding entry_of kind_of
kind-small row =
    elim (dec_lt row rows) [
      | yes l ↦ entry-small row l 0 (omega arith)
      | no g ↦ rw (get_or-eq_default table (0, []) {n = row} (omega arith)) (omega arith)
    ]

-- the places at which a field starts and ends
pub record Field (row k start end : ℕ) : Type 0 where
  pub upward : start ≤ end
  pub inside : end ≤ start_of row fields
  pub count : end - start ≡ digits_of row k
  pub narrow : digits_of row k ≤ 16

pub field_at : (row k start end : ℕ) → row < rows → k < fields → start ≡ start_of row k → end ≡ start_of row (k + 1)
    → Field row k start end
field_at row k start end h l p q =
    let n = start-next row k in
    record {
      upward = omega arith;
      inside = omega (arith, start-within row (k + 1));
      count = omega arith;
      narrow = digits-narrow row h k l;
    }

pub start-entry : (row k : ℕ) → 2 * entry_of row (k + 1) ≡ start_of row k
unfolding start_of entry_of
start-entry row k = rw add-one

-- the whole table as the code lays it out
unfoldable pub laid_out : List ℕ
unfolding tabulate entries_to entry_of kind_of place_of bytes_of padded total
laid_out = tabulate rows entries_of

pub laid-row : (row : ℕ) → row < rows → get_or laid_out row 0 ≡ entries_of row
unfolding laid_out
laid-row row h = tabulate-at rows entries_of 0 row h

-- a column is found in its row's number, by a test at each entry
found : ℕ → ℕ → Bool
found row column = eqb (entries_of row / 2 ^ (8 * (columns - 1 - column)) % byte_values) (entry_of row column)

pub entry_found : (row column : ℕ) → row < rows → column < columns
    → entries_of row / 2 ^ (8 * (columns - 1 - column)) % byte_values ≡ entry_of row column
unfolding fold found entries_to entry_of kind_of place_of bytes_of padded total
entry_found row column h l = eqb-true _ _ (each-each-at found rows columns refl row column h l)
