-- Texts of frames that are all there: the frames are found again, no other text has them, and how long it is.
-- Assumes nothing.
use mathlib.Core.Path.{◌≡◌, refl, sym, ◌∙◌, ap}
use mathlib.Core.Bool.{Bool, true, false, cond}
use mathlib.Core.List.{List, [], ◌∷◌, ◌++◌, append_assoc}
use Prim.Native.Nat.{ℕ, zero, suc, ◌+◌, ◌*◌, ◌/◌, ◌<◌}
use native.Mathlib.Omega.{arith}
use native.Mathlib.Nat.{zero-mul, suc-mul, mul-div_cancel}
use lib.ListN.{length, drop, get_or, replicate, length-append, length-replicate}
use Rattle.base.proofs.Bools.{no_answer}
use Rattle.frame.specs.Table.{line_length, total}
use Rattle.frame.specs.Line.{line_of, fields_of, is_line, Fits}
use Rattle.frame.specs.Frames.{broken, frame, frames_of, frames_to_end, listed, lines_of, text_length, AllFit}
use Rattle.frame.specs.declared.line.Fields.{Fields}
use Rattle.frame.proofs.Lines.{length-line, line-rest, line-is, fields-found, line-back, line-fits}

-- the frames are found again in their text
pub frames-found : (due : List ℕ) (fs : List Fields) → AllFit due fs → frames_of due (lines_of due fs) ≡ listed fs
unfolding frames_of lines_of listed
frames-found [] [] x = refl
frames-found [] (f ∷ fs) x = absurd x
frames-found (row ∷ due) [] x = absurd x
frames-found (row ∷ due) (f ∷ fs) x =
    let t = lines_of due fs in
    rw (line-is row f t, fields-found row f t x.0, line-rest row f t, frames-found due fs x.1)

-- a text of frames that are all there: it is the text of these frames, and they have room in their lines
pub record Whole (due text : List ℕ) (fs : List Fields) : Type 0 where
  pub text_is : text ≡ lines_of due fs
  pub fit : AllFit due fs

pub whole : (due text : List ℕ) (fs : List Fields) → frames_of due text ≡ listed fs → Whole due text fs
unfolding frames_of lines_of listed
whole [] [] [] e = record { text_is = refl; fit = tt }
whole [] [] (f ∷ fs) e = no_answer (cc)
whole [] (c ∷ t) [] e = no_answer (cc)
whole [] (c ∷ t) (f ∷ fs) e = no_answer (cc)
whole (row ∷ due) t fs e = go (is_line row t) refl fs (whole due (drop (line_length row) t)) e
  where
    go : (b : Bool) → is_line row t ≡ b → (fs : List Fields)
        → ((gs : List Fields) → frames_of due (drop (line_length row) t) ≡ listed gs
        → Whole due (drop (line_length row) t) gs)
        → cond b (frame (fields_of row t) (frames_of due (drop (line_length row) t))) broken ≡ listed fs
        → Whole (row ∷ due) t fs
    go true i [] k e = no_answer (cc)
    go true i (f ∷ gs) k e =
        let p : fields_of row t ≡ f = cc in
        let w = k gs (cc) in
        record { text_is = sym (line-back row t i) ∙ rw (p, w.text_is); fit = (rw p at (line-fits row t i), w.fit) }
    go false i [] k e = no_answer (cc)
    go false i (f ∷ gs) k e = no_answer (cc)

-- frames that fit, one by one and in two parts
pub fit-each : (row : ℕ) (fs : List Fields) (d : Fields) → ((i : ℕ) → i < length fs → Fits row (get_or fs i d))
    → AllFit (replicate (length fs) row) fs
fit-each row [] d h = tt
fit-each row (f ∷ fs) d h = (h 0 (omega arith), fit-each row fs d (λ i l. h (suc i) (omega arith)))

pub fit_at : (due : List ℕ) (fs : List Fields) (d : Fields) → AllFit due fs → (i : ℕ) → i < length fs
    → Fits (get_or due i 0) (get_or fs i d)
fit_at due [] d x i h = absurd (omega arith)
fit_at [] (f ∷ fs) d x i h = absurd x
fit_at (row ∷ due) (f ∷ fs) d x zero h = x.0
fit_at (row ∷ due) (f ∷ fs) d x (suc i) h = fit_at due fs d x.1 i (omega arith)

pub fit_append : (due more : List ℕ) (fs gs : List Fields) → AllFit due fs → AllFit more gs
    → AllFit (due ++ more) (fs ++ gs)
fit_append [] more [] gs x y = y
fit_append [] more (f ∷ fs) gs x y = absurd x
fit_append (row ∷ due) more [] gs x y = absurd x
fit_append (row ∷ due) more (f ∷ fs) gs x y = (x.0, fit_append due more fs gs x.1 y)

pub lines-append : (due more : List ℕ) (fs gs : List Fields) → length due ≡ length fs
    → lines_of (due ++ more) (fs ++ gs) ≡ lines_of due fs ++ lines_of more gs
unfolding lines_of
lines-append [] more [] gs e = refl
lines-append [] more (f ∷ fs) gs e = absurd (omega arith)
lines-append (row ∷ due) more [] gs e = absurd (omega arith)
lines-append (row ∷ due) more (f ∷ fs) gs e =
    ap (λ (t : List ℕ). line_of row f ++ t) (lines-append due more fs gs (omega arith))
    ∙ sym (append_assoc (line_of row f) (lines_of due fs) (lines_of more gs))

-- lengths
pub fit_count : (due : List ℕ) (fs : List Fields) → AllFit due fs → length due ≡ length fs
fit_count [] [] x = refl
fit_count [] (f ∷ fs) x = absurd x
fit_count (row ∷ due) [] x = absurd x
fit_count (row ∷ due) (f ∷ fs) x = ap suc (fit_count due fs x.1)

pub length-lines : (due : List ℕ) (fs : List Fields) → length due ≡ length fs → length (lines_of due fs) ≡ text_length due
unfolding lines_of text_length total
length-lines [] fs e = refl
length-lines (row ∷ due) [] e = absurd (omega arith)
length-lines (row ∷ due) (f ∷ fs) e =
    length-append (line_of row f) (lines_of due fs) ∙ omega (arith, length-line row f, length-lines due fs (omega arith))

pub text-append : (due more : List ℕ) → text_length (due ++ more) ≡ text_length due + text_length more
unfolding text_length total
text-append [] more = omega arith
text-append (row ∷ due) more = omega (arith, text-append due more)

pub text-replicate : (k row : ℕ) → text_length (replicate k row) ≡ k * line_length row
unfolding text_length total
text-replicate zero row = omega (arith, zero-mul (line_length row))
text-replicate (suc k) row = omega (arith, text-replicate k row, suc-mul k (line_length row))

-- one kind up to the end
module _ (row : ℕ) (fs : List Fields) where
  pub end-found : AllFit (replicate (length fs) row) fs
      → frames_to_end row (lines_of (replicate (length fs) row) fs) ≡ listed fs
  unfolding frames_to_end line_length
  end-found x =
      let n : length (lines_of (replicate (length fs) row) fs) ≡ length fs * line_length row =
      length-lines (replicate (length fs) row) fs (length-replicate (length fs) row) ∙ text-replicate (length fs) row in
      let q : length (lines_of (replicate (length fs) row) fs) / line_length row ≡ length fs =
      ap (λ (m : ℕ). m / line_length row) n ∙ mul-div_cancel (length fs) {n = line_length row} (omega arith) in
      rw q (frames-found (replicate (length fs) row) fs x)

  pub end_whole : (text : List ℕ) → frames_to_end row text ≡ listed fs → Whole (replicate (length fs) row) text fs
  unfolding frames_to_end
  end_whole text e =
      let w = whole (replicate (length text / line_length row) row) text fs e in
      let n : length text / line_length row ≡ length fs =
      sym (length-replicate (length text / line_length row) row)
      ∙ fit_count (replicate (length text / line_length row) row) fs w.fit in
      rw n at w
