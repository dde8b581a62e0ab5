-- What a text starts with, by the tests of a line, one after the other.
-- Assumes nothing.
use mathlib.Core.Path.{◌≡◌, refl, sym, ◌∙◌, ap}
use mathlib.Core.Bool.{Bool, true, false, ◌&&◌, and-true, false≢true}
use mathlib.Core.List.{List}
use Prim.Native.Nat.{ℕ, ◌+◌, ◌≤◌, ◌<◌}
use native.Mathlib.Omega.{arith}
use lib.ListN.{length, take, drop, get_or, length-drop}
use borrow.Author.Tests.{le-leb, eq-eqb}
use Rattle.base.specs.Answer.{refused}
use Rattle.base.specs.Refusals.{FORM}
use Rattle.frame.specs.Table.{fields, kind_of, widths, total, start_of, line_length}
use Rattle.digits.specs.Hexadecimal.{all_digits, number_of, number_in}
use Rattle.frame.specs.Line.{FEED, kind_digits, is_line, line_at, read_line, fields_line}
use Rattle.std.proofs.Common.{Option, Some, None, Ok, Err}
use Rattle.std.specs.Option.{ok_or}
use Rattle.base.proofs.Bools.{no_answer}
use Rattle.base.specs.declared.refusals.Refusal.{Refusal}
use Rattle.base.specs.declared.refusals.Refusal.TheVariants as refusal
use Rattle.digits.proofs.Spelling.{number_is, number-broken}
use Rattle.frame.proofs.Columns.{digits-parts}
use Rattle.frame.proofs.Lines.{Formed, formed}
use Rattle.frame.proofs.Rows.{start-end}

-- digits that spell no number are refused by their form
module _ (o : Option ℕ) where
  pub number-read : {v : ℕ} → Ok v ≡ ok_or o refusal.Form → Some v ≡ o
  number-read {v} e = go o e
    where
      go : (o : Option ℕ) → Ok v ≡ ok_or o refusal.Form → Some v ≡ o
      go None e = no_answer (cc)
      go (Some w) e = cc

  pub number_refused : {r : Refusal} → Err r ≡ ok_or o refusal.Form → (None ≡ o) × (r ≡ refusal.Form)
  number_refused {r} e = go o e
    where
      go : (o : Option ℕ) → Err r ≡ ok_or o refusal.Form → (None ≡ o) × (r ≡ refusal.Form)
      go None e = (refl, cc)
      go (Some w) e = no_answer (cc)

not_line : (row : ℕ) (t : List ℕ) → (Formed row t → ⊥) → is_line row t ≡ false
not_line row t n = go (is_line row t) refl
  where
    go : (b : Bool) → is_line row t ≡ b → is_line row t ≡ false
    go true e = absurd (n (formed row t e))
    go false e = e

module _ (row : ℕ) (line : List ℕ) (next : ℕ) where
  line_refused : (Formed row line → ⊥) → refused FORM ≡ line_at row line next
  unfolding line_at
  line_refused n = rw (not_line row line n)

  module _ (end : ℕ) (p : end ≡ start_of row fields) where
    pub line-short : length line ≤ end → refused FORM ≡ line_at row line next
    unfolding line_length
    line-short h = line_refused (λ s. omega (arith, s.long))

    pub line-no-feed : (get_or line end 0 ≡ FEED → ⊥) → refused FORM ≡ line_at row line next
    line-no-feed n = line_refused (λ s. n (ap (λ (k : ℕ). get_or line k 0) p ∙ s.feed))

  -- the digits of the kind, and of the fields
  kind-parted : all_digits (take (start_of row fields) line)
      ≡ (all_digits (take kind_digits line) && all_digits (take (total (widths row)) (drop kind_digits line)))
  kind-parted = rw (start-end row) (digits-parts kind_digits (total (widths row)) line)

  pub line-no-number : None ≡ number_in (take kind_digits line) → refused FORM ≡ line_at row line next
  line-no-number b = line_refused
      (λ s. false≢true (rw (kind-parted, number-broken (take kind_digits line) b) at s.digits))

  module _ (k : ℕ) (n : Some k ≡ number_in (take kind_digits line)) where
    pub line-no-kind : (k ≡ kind_of row → ⊥) → refused FORM ≡ line_at row line next
    line-no-kind x = line_refused (λ s. x ((number_is (take kind_digits line) k n).1 ∙ s.kind))

    pub line-fields : (end : ℕ) → end ≡ start_of row fields → end < length line → get_or line end 0 ≡ FEED → k ≡ kind_of row
        → fields_line row line next ≡ line_at row line next
    unfolding is_line fields_line line_at line_length
    line-fields end p h f x =
        let v = number_is (take kind_digits line) k n in
        let i : is_line row line ≡ all_digits (take (total (widths row)) (drop kind_digits line)) =
        rw (
          le-leb (start_of row fields + 1) (length line) (omega arith),
          eq-eqb (get_or line (start_of row fields) 0) FEED (rw p at f),
          kind-parted,
          v.0,
          eq-eqb (number_of 0 (take kind_digits line)) (kind_of row) (sym v.1 ∙ x),
        ) (and-true _) in
        rw (← i)

pub read_past : (row at : ℕ) (text : List ℕ) → length text < at → refused FORM ≡ read_line row text at
unfolding read_line line_length
read_past row at text h =
    line_refused row (drop at text) (at + line_length row) (λ s. omega (arith, s.long, length-drop at text))
