-- What is known while the fields of a line are read, and while they are written, one after the other.
-- Assumes nothing.
use mathlib.Core.Path.{◌≡◌, refl, sym, ◌∙◌, ap}
use mathlib.Core.Bool.{◌&&◌}
use mathlib.Core.List.{List, [], ◌∷◌, ◌++◌, append-nil}
use Prim.Native.Nat.{ℕ, suc, ◌+◌, ◌-◌, ◌≤◌, ◌<◌}
use native.Mathlib.Omega.{arith}
use native.Mathlib.Numerals.{add-one}
use lib.ListN.{length, take, drop, get_or, set, replicate, length-set, length-drop}
use lib.Seq.{drop-cons, drop-drop, length-take-le, drop-set-lt, get_or-set_same, take-suc-set, take_all, append_snoc}
use borrow.Rule.Slice.PartMut.{put_mid}
use Rattle.base.specs.Answer.{refused, answer, over}
use Rattle.base.specs.Refusals.{FORM}
use Rattle.frame.specs.Table.{rows, fields, kind_of, widths, total, start_of, digits_of, line_length}
use Rattle.digits.specs.Hexadecimal.{all_digits, number_in, spell}
use Rattle.frame.specs.Line.{FEED, kind_digits, list_of, fields_from, spell_all, values_of, line_of, fields_of}
use Rattle.frame.specs.Line.{fields_line}
use Rattle.std.proofs.Common.{Some, None}
use Rattle.frame.specs.declared.line.Fields.{Fields}
use Rattle.digits.proofs.Spelling.{number_is, number-broken, spell-append}
use Rattle.frame.proofs.Columns.{digits-parts}
use Rattle.frame.proofs.Lines.{line_before, line-over}
use Rattle.base.proofs.Parts.{drop-put}
use Rattle.frame.proofs.Rows.{start_first, start-next, start-end, widths-next, widths-end, field_at}

-- the field at a place, and what stands behind it
module _ (row k : ℕ) (line : List ℕ) where
  behind : drop (digits_of row k) (drop (start_of row k) line) ≡ drop (start_of row (k + 1)) line
  behind = drop-drop (digits_of row k) (start_of row k) line ∙ ap (λ (n : ℕ). drop n line) (sym (start-next row k))

-- a field that was put into the part from its start to its end
pub field_put : (row k number start end : ℕ) (out part : List ℕ) → row < rows → k < fields
    → end ≤ length out
    → start ≡ start_of row k → end ≡ start_of row (k + 1)
    → part ≡ spell (length (take (end - start) (drop start out))) number []
    → drop (start_of row k) (put_mid start (end - start) out part)
    ≡ spell (digits_of row k) number (drop (start_of row (k + 1)) out)
field_put row k number start end out part h l m p q e =
    let f = field_at row k start end h l p q in
    let n : length (take (end - start) (drop start out)) ≡ end - start =
    length-take-le (end - start) (drop start out) (omega (arith, length-drop start out)) in
    let s : start + (end - start) ≡ end = omega arith in
    rw (← p, ← q, ← f.count)
    (drop-put start (end - start) out part (omega arith)
    ∙ rw (e, n, s) (sym (spell-append (end - start) number [] (drop end out))))

-- reading: the numbers so far and those of the fields that are left are the numbers of
-- the line, and the fields that are left have digits exactly if all have
pub record ReadTo (row : ℕ) (line values : List ℕ) (k : ℕ) : Type 0 where
  pub within : k ≤ fields
  pub size : length values ≡ fields
  pub numbers : take k values ++ values_of (drop k (widths row)) (drop (start_of row k) line)
      ≡ values_of (widths row) (drop kind_digits line)
  pub digits : all_digits (take (total (drop k (widths row))) (drop (start_of row k) line))
      ≡ all_digits (take (total (widths row)) (drop kind_digits line))

pub read_none : (row : ℕ) (line : List ℕ) → ReadTo row line (replicate fields 0) 0
read_none row line = record { within = omega arith; size = refl; numbers = rw start_first; digits = rw start_first }

module _ (row : ℕ) (line values : List ℕ) (k : ℕ) (r : ReadTo row line values k) where
  module _ (h : k < fields) where
    -- the digits of this field, and of those behind it
    parted : all_digits (take (total (widths row)) (drop kind_digits line))
        ≡ (all_digits (take (digits_of row k) (drop (start_of row k) line)) &&
        all_digits (take (total (drop (k + 1) (widths row))) (drop (start_of row (k + 1)) line)))
    unfolding total
    parted =
        sym r.digits
        ∙ ap (λ (ds : List ℕ). all_digits (take (total ds) (drop (start_of row k) line))) (widths-next row k h)
        ∙ rw (← behind row k line)
        (digits-parts (digits_of row k) (total (drop (k + 1) (widths row))) (drop (start_of row k) line))

    pub read-stop : (next : ℕ) → None ≡ number_in (take (digits_of row k) (drop (start_of row k) line))
        → refused FORM ≡ fields_line row line next
    unfolding fields_line
    read-stop next e = rw (parted, number-broken _ e)

    pub read_more : (v : ℕ) → Some v ≡ number_in (take (digits_of row k) (drop (start_of row k) line))
        → ReadTo row line (set values k v) (k + 1)
    unfolding values_of
    read_more v e =
        let n = number_is _ v e in
        let l : k < length values = omega (arith, r.size) in
        record {
          within = omega arith;
          size = length-set values k v ∙ r.size;
          numbers =
              rw (add-one, take-suc-set values k v, append_snoc, n.1, ← add-one, ← behind row k line)
              (rw (widths-next row k h) at r.numbers);
          digits = sym (rw n.0 at parted);
        }

  pub read_all : (next : ℕ) → fields ≤ k → answer (fields_from values, next) ≡ fields_line row line next
  unfolding fields_line fields_of total values_of all_digits
  read_all next h =
      let w = widths-end row k h in
      let n : values ≡ values_of (widths row) (drop kind_digits line) =
      sym (append-nil values) ∙ ap (λ (vs : List ℕ). vs ++ []) (sym (take_all k values (omega (arith, r.size))))
      ∙ rw w at r.numbers in
      rw (sym (rw w at r.digits), n)

-- writing, from the last field to the first: the fields so far stand in front of the feed
pub record PutTo (row : ℕ) (values feed out : List ℕ) (k : ℕ) : Type 0 where
  pub within : k ≤ fields
  pub room : start_of row fields < length feed
  pub size : length out ≡ length feed
  pub numbers : drop (start_of row k) out
      ≡ spell_all (drop k (widths row)) (drop k values) (drop (start_of row fields) feed)

pub put-none : (row : ℕ) (values out : List ℕ) → start_of row fields < length out → PutTo row values out out fields
unfolding spell_all
put-none row values out h =
    record { within = omega arith; room = h; size = refl; numbers = rw (widths-end row fields (omega arith)) }

module _ (row : ℕ) (values feed out : List ℕ) (k : ℕ) (p : PutTo row values feed out k) (n : length values ≡ fields)
  where
    pub put-more : 0 < k → (out' : List ℕ) → length out' ≡ length out
        → drop (start_of row (k - 1)) out'
        ≡ spell (digits_of row (k - 1)) (get_or values (k - 1) 0) (drop (start_of row (k - 1 + 1)) out)
        → PutTo row values feed out' (k - 1)
    unfolding spell_all
    put-more h out' l e =
        let s : k - 1 + 1 ≡ k = omega arith in
        let v : drop (k - 1) values ≡ get_or values (k - 1) 0 ∷ drop k values =
        drop-cons values (k - 1) 0 (omega arith)
        ∙ ap (λ (i : ℕ). get_or values (k - 1) 0 ∷ drop i values) (sym (add-one (k - 1)) ∙ s) in
        record {
          within = omega (arith, p.within);
          room = p.room;
          size = l ∙ p.size;
          numbers = e ∙ rw (widths-next row (k - 1) (omega (arith, p.within)), v, s, p.numbers);
        }

set-feed : (out : List ℕ) (end : ℕ) → end < length out → drop end (set out end FEED) ≡ FEED ∷ drop (end + 1) out
set-feed out end h =
    let l : end < length (set out end FEED) = rw length-set h in
    rw (
      add-one,
      drop-cons (set out end FEED) end 0,
      get_or-set_same out end FEED 0,
      drop-set-lt (suc end) out end FEED (omega arith),
    )

-- all fields are put, and then the kind
pub put_all : (row : ℕ) (f : Fields) (values old out part : List ℕ) (end k : ℕ) → values ≡ list_of f
    → end ≡ start_of row fields → end < length old
    → PutTo row values (set old end FEED) out k → k ≤ 0 → part ≡ spell (length (take kind_digits out)) (kind_of row) []
    → part ++ drop kind_digits out ≡ over (line_of row f) old
unfolding spell_all line_length
put_all row f values old out part end k v e h p z q =
    let n : length (take kind_digits out) ≡ kind_digits =
    length-take-le kind_digits out (omega (arith, p.size, p.room, start-end row)) in
    let i : k ≡ 0 = omega arith in
    let a : part ≡ spell kind_digits (kind_of row) [] = q ∙ ap (λ (d : ℕ). spell d (kind_of row) []) n in
    let b : drop kind_digits out ≡ spell_all (widths row) (list_of f) (FEED ∷ drop (end + 1) old) =
    rw (i, start_first row, v, ← e, set-feed old end h) at p.numbers in
    rw (a, ← spell-append kind_digits (kind_of row) [] (drop kind_digits out), b, e)
    (sym (line_before row f (drop (line_length row) old)) ∙ line-over row f old)
