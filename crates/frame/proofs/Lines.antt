-- A line is read as the frame that it was written from, and a line that is read is the one line of its frame.
-- Assumes nothing.
use mathlib.Core.Path.{◌≡◌, sym, ◌∙◌, ap}
use mathlib.Core.Bool.{true, ◌&&◌}
use mathlib.Core.List.{List, [], ◌∷◌, ◌++◌}
use Prim.Native.Nat.{ℕ, zero, suc, ◌+◌, ◌≤◌}
use native.Mathlib.Omega.{arith}
use native.Mathlib.Numerals.{add-one}
use native.Mathlib.Nat.{add-zero}
use lib.Dec.{leb, eqb}
use lib.ListN.{length, take, drop, get_or, length-append, drop_of_length-le}
use lib.Seq.{drop_at, drop-cons, get_or-drop}
use borrow.Author.Tests.{le-leb, eq-eqb, leb-true, eqb-true}
use Rattle.base.specs.Answer.{over}
use Rattle.frame.specs.Table.{fields, kind_of, widths, total, start_of, line_length}
use Rattle.digits.specs.Hexadecimal.{all_digits, number_of, spell}
use Rattle.frame.specs.Line.{FEED, kind_digits, list_of, fields_from, spell_all, values_of, line_of, fields_of, is_line}
use Rattle.frame.specs.Line.{Fits}
use Rattle.frame.specs.declared.line.Fields.{Fields}
use Rattle.base.proofs.Bools.{and_left, and_right}
use Rattle.digits.proofs.Spelling.{number-spell, take-spell, drop-spell}
use Rattle.frame.proofs.Columns.{spell-all-append, length-spell-all, drop-spell-all, digits-spell-all}
use Rattle.frame.proofs.Columns.{values-found, values-back, values-fit, length-values}
use Rattle.frame.proofs.Rows.{length-widths, start-end, kind-small}

-- what the tests of a line say
pub record Formed (row : ℕ) (t : List ℕ) : Type 0 where
  pub long : line_length row ≤ length t
  pub feed : get_or t (start_of row fields) 0 ≡ FEED
  pub digits : all_digits (take (start_of row fields) t) ≡ true
  pub kind : number_of 0 (take kind_digits t) ≡ kind_of row

module _ (row : ℕ) (t : List ℕ) where
  pub formed : is_line row t ≡ true → Formed row t
  unfolding is_line
  formed e =
      let k = eqb (number_of 0 (take kind_digits t)) (kind_of row) in
      let d = all_digits (take (start_of row fields) t) in
      let f = eqb (get_or t (start_of row fields) 0) FEED in
      let l = leb (line_length row) (length t) in
      let e₂ : (f && (d && k)) ≡ true = and_right l (f && (d && k)) e in
      let e₃ : (d && k) ≡ true = and_right f (d && k) e₂ in
      record {
        long = leb-true _ _ (and_left l (f && (d && k)) e);
        feed = eqb-true _ _ (and_left f (d && k) e₂);
        digits = and_left d k e₃;
        kind = eqb-true _ _ (and_right d k e₃);
      }

  pub is-line : Formed row t → is_line row t ≡ true
  unfolding is_line
  is-line s = rw (le-leb _ _ s.long, eq-eqb _ _ s.feed, s.digits, eq-eqb _ _ s.kind)

-- a list of as many numbers as there are fields is the list of its frame
elements : ℕ → ℕ → List ℕ → List ℕ
elements zero k vs = []
elements (suc n) k vs = get_or vs k 0 ∷ elements n (suc k) vs

all-elements : (n k : ℕ) (vs : List ℕ) → length vs ≡ k + n → drop k vs ≡ elements n k vs
unfolding elements
all-elements zero k vs h = drop_of_length-le vs {i = k} (omega arith)
all-elements (suc n) k vs h =
    drop-cons vs k 0 (omega arith) ∙ ap (λ (ws : List ℕ). get_or vs k 0 ∷ ws) (all-elements n (suc k) vs (omega arith))

pub list-fields : (vs : List ℕ) → length vs ≡ fields → list_of (fields_from vs) ≡ vs
unfolding elements
list-fields vs h = sym (all-elements fields 0 vs (omega arith))

module _ (row : ℕ) where
  -- a line in front of anything
  module _ (f : Fields) where
    same_count : length (kind_digits ∷ widths row) ≡ length (kind_of row ∷ list_of f)
    same_count = ap suc (length-widths row)

    pub line_before : (rest : List ℕ)
        → line_of row f ++ rest ≡ spell_all (kind_digits ∷ widths row) (kind_of row ∷ list_of f) (FEED ∷ rest)
    unfolding line_of
    line_before rest = sym (spell-all-append (kind_digits ∷ widths row) (kind_of row ∷ list_of f) (FEED ∷ []) rest)

    pub length-line : length (line_of row f) ≡ line_length row
    unfolding line_of line_length total
    length-line =
        length-spell-all (FEED ∷ []) (kind_digits ∷ widths row) (kind_of row ∷ list_of f) same_count
        ∙ omega (arith, start-end row)

    -- a line in front of what stood behind it is the line over what stood there
    pub line-over : (old : List ℕ) → line_of row f ++ drop (line_length row) old ≡ over (line_of row f) old
    unfolding over
    line-over old = ap (λ (n : ℕ). line_of row f ++ drop n old) (sym length-line)

    pub line-rest : (rest : List ℕ) → drop (line_length row) (line_of row f ++ rest) ≡ rest
    line-rest rest = drop_at (line_of row f) rest (line_length row) length-line

    behind : (rest : List ℕ) → drop (start_of row fields) (line_of row f ++ rest) ≡ FEED ∷ rest
    unfolding total
    behind rest =
        rw (start-end row, line_before rest)
        (drop-spell-all (FEED ∷ rest) (kind_digits ∷ widths row) (kind_of row ∷ list_of f) same_count)

    pub line-is : (rest : List ℕ) → is_line row (line_of row f ++ rest) ≡ true
    unfolding spell_all total number_of line_length
    line-is rest =
        let t = line_of row f ++ rest in
        let e : take kind_digits t ≡ spell kind_digits (kind_of row) [] =
        ap (take kind_digits) (line_before rest) ∙ take-spell kind_digits (kind_of row) _ in
        is-line row t
        (record {
          long = omega (arith, length-append (line_of row f) rest, length-line);
          feed = sym (get_or-drop (start_of row fields) t 0 0 ∙ ap (λ (k : ℕ). get_or t k 0) (add-zero _))
              ∙ ap (λ (s : List ℕ). get_or s 0 0) (behind rest);
          digits =
              rw (start-end row, line_before rest)
              (digits-spell-all (FEED ∷ rest) (kind_digits ∷ widths row) (kind_of row ∷ list_of f) same_count);
          kind = ap (number_of 0) e ∙ number-spell kind_digits 0 (kind_of row) [] (kind-small row) ∙ omega arith;
        })

    -- the frame is found again in its line
    pub fields-found : (rest : List ℕ) → Fits row f → fields_of row (line_of row f ++ rest) ≡ f
    unfolding fields_of spell_all Fits
    fields-found rest x =
        ap fields_from
        (ap (λ (t : List ℕ). values_of (widths row) (drop kind_digits t)) (line_before rest)
        ∙ ap (values_of (widths row))
        (drop-spell kind_digits (kind_of row) (spell_all (widths row) (list_of f) (FEED ∷ rest)))
        ∙ values-found (FEED ∷ rest) (widths row) (list_of f) x)

  -- no other text has the meaning of a line, and what is read has room in it
  module _ (t : List ℕ) (e : is_line row t ≡ true) where
    all-digits : all_digits (take (total (kind_digits ∷ widths row)) t) ≡ true
    unfolding total
    all-digits = rw (start-end row) at (formed row t e).digits

    all-long : total (kind_digits ∷ widths row) ≤ length t
    unfolding total line_length
    all-long = omega (arith, start-end row, (formed row t e).long)

    read-list : list_of (fields_of row t) ≡ values_of (widths row) (drop kind_digits t)
    unfolding fields_of
    read-list = list-fields (values_of (widths row) (drop kind_digits t))
        (length-values (widths row) (drop kind_digits t) ∙ length-widths row)

    pub line-back : line_of row (fields_of row t) ++ drop (line_length row) t ≡ t
    unfolding line_length total values_of
    line-back =
        let s = formed row t e in
        let z : FEED ∷ drop (start_of row fields + 1) t ≡ drop (total (kind_digits ∷ widths row)) t =
        rw (← start-end row, add-one, ← s.feed) (sym (drop-cons t (start_of row fields) 0 (omega (arith, s.long)))) in
        line_before (fields_of row t) (drop (start_of row fields + 1) t)
        ∙ rw (z, read-list, ← s.kind) (values-back (kind_digits ∷ widths row) t all-long all-digits)

    pub line-fits : Fits row (fields_of row t)
    unfolding Fits total values_of
    line-fits = rw read-list (values-fit (kind_digits ∷ widths row) t all-long all-digits).1
