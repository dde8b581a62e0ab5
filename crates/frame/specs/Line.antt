-- A line: the kind and the fields of a frame, spelt one after the other, and a line feed.
use Rattle.std.specs.Prelude.{◌≡◌, Bool, cond, ◌&&◌, List, [], ◌∷◌, ℕ, ◌+◌, ◌^◌, ◌≤◌, ◌<◌, leb, eqb, length, take, drop, get_or}
use Rattle.base.specs.Answer.{Answer, refused, answer}
use Rattle.base.specs.Refusals.{FORM}
use Rattle.frame.specs.Table.{rows, fields, kind_of, widths, total, start_of, line_length, entries_of}
use Rattle.digits.specs.Hexadecimal.{all_digits, number_of, spell}
use Rattle.frame.specs.declared.line.Fields.{Fields}

-- the line feed
abbrev pub FEED : ℕ
FEED = 10

-- how many digits a kind has: it is one byte
abbrev pub kind_digits : ℕ
kind_digits = 2

-- the fields of a frame as a list, and the frame of a list, where what is missing is 0
abbrev pub list_of : Fields → List ℕ
list_of f = f.first ∷ f.second ∷ f.third ∷ f.fourth ∷ f.fifth ∷ []

abbrev pub fields_from : List ℕ → Fields
fields_from vs =
    record {
      first = get_or vs 0 0;
      second = get_or vs 1 0;
      third = get_or vs 2 0;
      fourth = get_or vs 3 0;
      fifth = get_or vs 4 0;
    }

-- numbers spelt one after the other, each in its digits, and then rest
unfoldable pub spell_all : List ℕ → List ℕ → List ℕ → List ℕ
spell_all (d ∷ ds) (v ∷ vs) rest = spell d v (spell_all ds vs rest)
spell_all [] vs rest = rest
spell_all (d ∷ ds) [] rest = rest

-- the numbers that t spells one after the other
unfoldable pub values_of : List ℕ → List ℕ → List ℕ
values_of [] t = []
values_of (d ∷ ds) t = number_of 0 (take d t) ∷ values_of ds (drop d t)

-- the line of a frame
unfoldable pub line_of : ℕ → Fields → List ℕ
line_of row f = spell_all (kind_digits ∷ widths row) (kind_of row ∷ list_of f) (FEED ∷ [])

-- the fields of the line that t starts with
unfoldable pub fields_of : ℕ → List ℕ → Fields
fields_of row t = fields_from (values_of (widths row) (drop kind_digits t))

-- whether t starts with a line of a row's kind: a feed at its place, digits before it, and the kind first
unfoldable pub is_line : ℕ → List ℕ → Bool
is_line row t =
    leb (line_length row) (length t) &&
    (eqb (get_or t (start_of row fields) 0) FEED &&
    (all_digits (take (start_of row fields) t) && eqb (number_of 0 (take kind_digits t)) (kind_of row)))

-- the frame of the line that t starts with, with the place behind it, or refusal 1
unfoldable pub line_at : ℕ → List ℕ → ℕ → Answer (Fields × ℕ)
line_at row t next = cond (is_line row t) (answer (fields_of row t, next)) (refused FORM)

-- what stands at a place of a text
unfoldable pub read_line : ℕ → List ℕ → ℕ → Answer (Fields × ℕ)
read_line row text at = line_at row (drop at text) (at + line_length row)

-- a line that is long enough for the fields of a row with these entries
pub record HasFields (entries : ℕ) (line : List ℕ) : Type 0 where
  pub row : ℕ
  pub listed : row < rows
  pub entries_are : entries ≡ entries_of row
  pub long : start_of row fields ≤ length line

-- the frame of a line whose kind and feed are right
unfoldable pub fields_line : ℕ → List ℕ → ℕ → Answer (Fields × ℕ)
fields_line row t next =
    cond (all_digits (take (total (widths row)) (drop kind_digits t))) (answer (fields_of row t, next))
    (refused FORM)

-- each number has room in its digits
abbrev pub FitAll : List ℕ → List ℕ → Type 0
FitAll [] [] = Unit
FitAll [] (v ∷ vs) = ⊥
FitAll (d ∷ ds) [] = ⊥
FitAll (d ∷ ds) (v ∷ vs) = (v < 16 ^ d) × FitAll ds vs

-- a frame whose fields have room in its line
unfoldable pub Fits : ℕ → Fields → Type 0
Fits row f = FitAll (widths row) (list_of f)
