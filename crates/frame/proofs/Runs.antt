-- Runs of frames, read frame by frame.
-- Assumes nothing.
use mathlib.Core.Path.{◌≡◌, refl, sym, ◌∙◌, ap}
use mathlib.Core.Bool.{Bool, true, false, cond}
use mathlib.Core.List.{List, [], ◌∷◌}
use Prim.Native.Nat.{ℕ, zero, suc, ◌+◌, ◌/◌, ◌≤◌, ◌<◌}
use native.Mathlib.Omega.{arith}
use native.Mathlib.Numerals.{add-one}
use native.Mathlib.Nat.{zero-div, add-div_left}
use lib.ListN.{length, drop, get_or, replicate, length-drop, drop_of_length-le}
use lib.Seq.{drop-cons, drop-drop}
use Rattle.base.proofs.Bools.{no_answer}
use Rattle.std.proofs.Common.{Result}
use Rattle.base.specs.Answer.{Answer, refused, answer, told}
use Rattle.base.specs.Refusals.{FORM}
use Rattle.base.specs.declared.refusals.Refusal.{Refusal}
use Rattle.frame.specs.Table.{line_length}
use Rattle.frame.specs.Line.{fields_of, is_line, line_at, read_line, Fits}
use Rattle.frame.specs.Frames.{done, broken, frame, frames_of, frames_to_end}
use Rattle.frame.specs.declared.line.Fields.{Fields}
use Rattle.frame.proofs.Lines.{formed, line-fits}

-- what a reader's result tells, by the case that its caller finds: of a line, and of any frame made of one
pub read_as : {M : Type 0} {r case : Result M Refusal} {a : Answer M} → r ≡ case → told r ≡ a → told case ≡ a
read_as e t = ap told (sym e) ∙ t

-- what is read at a place, by whether a line of a row's kind stands there
abbrev read_if : Bool → ℕ → List ℕ → ℕ → Answer (Fields × ℕ)
read_if b row text at = cond b (answer (fields_of row (drop at text), at + line_length row)) (refused FORM)

-- a line's only refusal is its form
pub only-form : (row : ℕ) (text : List ℕ) (at j : ℕ) → refused j ≡ read_line row text at → j ≡ FORM
unfolding read_line line_at
only-form row text at j x = go (is_line row (drop at text)) x
  where
    go : (b : Bool) → refused j ≡ read_if b row text at → j ≡ FORM
    go true y = no_answer (cc)
    go false y = cc

-- what a reader learns from a line that it reads at a place
pub record Next (row at : ℕ) (text : List ℕ) (f : Fields) (next : ℕ) : Type 0 where
  pub is : is_line row (drop at text) ≡ true
  pub fields : f ≡ fields_of row (drop at text)
  pub place : next ≡ at + line_length row
  pub later : at < next
  pub within : next ≤ length text
  pub fits : Fits row f

module _ (row at : ℕ) (text : List ℕ) where
  pub next-read : (f : Fields) (next : ℕ) → answer (f, next) ≡ read_line row text at → Next row at text f next
  unfolding read_line line_at line_length
  next-read f next e = go (is_line row (drop at text)) refl e
    where
      go : (b : Bool) → is_line row (drop at text) ≡ b
          → answer (f, next) ≡ read_if b row text at
          → Next row at text f next
      go true i e =
          let w : ◌≡◌ {A = Fields × ℕ} (f, next) (fields_of row (drop at text), at + line_length row) = cc in
          let p : f ≡ fields_of row (drop at text) = ap (λ (x : Fields × ℕ). x.0) w in
          let q : next ≡ at + line_length row = ap (λ (x : Fields × ℕ). x.1) w in
          let l = (formed row (drop at text) i).long in
          record {
            is = i;
            fields = p;
            place = q;
            later = omega arith;
            within = omega (arith, length-drop at text);
            fits = rw p (line-fits row (drop at text) i);
          }
      go false i e = no_answer (cc)

  pub none_read : {j : ℕ} → refused j ≡ read_line row text at → is_line row (drop at text) ≡ false
  unfolding read_line line_at
  none_read {j} e = go (is_line row (drop at text)) refl e
    where
      go : (b : Bool) → is_line row (drop at text) ≡ b
          → refused j ≡ read_if b row text at
          → is_line row (drop at text) ≡ false
      go true i e = no_answer (cc)
      go false i e = i

  -- the frames from a place on, by what is read there
  module _ (due : List ℕ) where
    frames-next : (f : Fields) (next : ℕ) → Next row at text f next
        → frames_of (row ∷ due) (drop at text) ≡ frame f (frames_of due (drop next text))
    unfolding frames_of
    frames-next f next x = rw (x.is, x.fields, x.place, drop-drop)

    frames-broken : {j : ℕ} → refused j ≡ read_line row text at → frames_of (row ∷ due) (drop at text) ≡ broken
    unfolding frames_of
    frames-broken e = rw (none_read e)

frames-end : (t : List ℕ) → length t ≤ 0 → frames_of [] t ≡ done
unfolding frames_of
frames-end [] h = refl
frames-end (c ∷ t) h = absurd (omega arith)

frames-left : (t : List ℕ) → 0 < length t → frames_of [] t ≡ broken
unfolding frames_of
frames-left [] h = absurd (omega arith)
frames-left (c ∷ t) h = refl

-- the rows that are due from the i-th on: one more frame, a broken one, bytes left over, the end
module _ (due text : List ℕ) (i at : ℕ) where
  module _ (row : ℕ) (h : i < length due) (e : row ≡ get_or due i 0) where
    due-next : drop i due ≡ row ∷ drop (i + 1) due
    due-next = drop-cons due i 0 h ∙ rw (add-one, e)

    pub run-next : (f : Fields) (next : ℕ) → Next row at text f next
        → frames_of (drop i due) (drop at text) ≡ frame f (frames_of (drop (i + 1) due) (drop next text))
    run-next f next x = rw due-next (frames-next row at text (drop (i + 1) due) f next x)

    pub run-broken : {j : ℕ} → refused j ≡ read_line row text at → frames_of (drop i due) (drop at text) ≡ broken
    run-broken x = rw due-next (frames-broken row at text (drop (i + 1) due) x)

  module _ (h : length due ≤ i) where
    pub run-left : at < length text → frames_of (drop i due) (drop at text) ≡ broken
    run-left l = rw (drop_of_length-le due h) (frames-left (drop at text) (omega (arith, length-drop at text)))

    pub run-done : length text ≤ at → frames_of (drop i due) (drop at text) ≡ done
    run-done l = rw (drop_of_length-le due h) (frames-end (drop at text) (omega (arith, length-drop at text)))

-- the same of one kind up to the end
module _ (row at : ℕ) (text : List ℕ) where
  pub end-next : (f : Fields) (next : ℕ) → Next row at text f next
      → frames_to_end row (drop at text) ≡ frame f (frames_to_end row (drop next text))
  unfolding frames_to_end line_length
  end-next f next x =
      let n : length (drop at text) ≡ line_length row + length (drop next text) =
      omega (arith, length-drop at text, length-drop next text, x.place, x.within) in
      let q : length (drop at text) / line_length row ≡ suc (length (drop next text) / line_length row) =
      ap (λ (m : ℕ). m / line_length row) n ∙ add-div_left (length (drop next text)) {k = line_length row} (omega arith)
      ∙ add-one _ in
      rw q (frames-next row at text (replicate (length (drop next text) / line_length row) row) f next x)

  pub end-broken : at < length text → {j : ℕ} → refused j ≡ read_line row text at → frames_to_end row (drop at text) ≡ broken
  unfolding frames_to_end
  end-broken h e = go (length (drop at text) / line_length row)
    where
      go : (k : ℕ) → frames_of (replicate k row) (drop at text) ≡ broken
      go zero = frames-left (drop at text) (omega (arith, length-drop at text))
      go (suc k) = frames-broken row at text (replicate k row) e

  pub end-done : length text ≤ at → frames_to_end row (drop at text) ≡ done
  unfolding frames_to_end
  end-done h =
      let n : length (drop at text) ≡ 0 = omega (arith, length-drop at text) in
      rw (n, zero-div) (frames-end (drop at text) (omega arith))
