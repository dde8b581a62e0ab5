-- A line, and a run of lines with one byte more, are read alike whatever stands behind them.
-- Assumes nothing.
use mathlib.Core.Path.{◌≡◌, refl, sym, ◌∙◌, ap}
use mathlib.Core.Bool.{Bool, true, false, cond}
use mathlib.Core.List.{List, [], ◌∷◌, ◌++◌, append_assoc}
use Prim.Native.Nat.{ℕ, ◌≤◌, ◌<◌}
use native.Mathlib.Omega.{arith}
use lib.ListN.{length, take, drop, length-drop, take-append-drop}
use lib.Seq.{take-append-le, drop-append-le, take_at}
use Rattle.frame.specs.Table.{line_length, total}
use Rattle.frame.specs.Line.{line_of, fields_of, is_line}
use Rattle.frame.specs.Frames.{broken, frame, frames_of, text_length}
use Rattle.frame.proofs.Lines.{length-line, line-is, fields-found, line-back, line-fits}

module _ (row : ℕ) (s rest : List ℕ) where
  -- a text that starts with a line, and has more behind it
  module _ (i : is_line row s ≡ true) where
    longer : line_of row (fields_of row s) ++ (drop (line_length row) s ++ rest) ≡ s ++ rest
    longer = sym (append_assoc (line_of row (fields_of row s)) (drop (line_length row) s) rest)
        ∙ ap (λ t. t ++ rest) (line-back row s i)

    line-more : is_line row (s ++ rest) ≡ true
    line-more = rw (← longer) (line-is row (fields_of row s) (drop (line_length row) s ++ rest))

    pub fields-front : fields_of row (s ++ rest) ≡ fields_of row s
    fields-front = ap (fields_of row) (sym longer)
        ∙ fields-found row (fields_of row s) (drop (line_length row) s ++ rest) (line-fits row s i)

  module _ (long : line_length row ≤ length s) where
    line-less : is_line row (s ++ rest) ≡ true → is_line row s ≡ true
    line-less i =
        let f = fields_of row (s ++ rest) in
        let first : take (line_length row) s ≡ line_of row f =
        sym (take-append-le (line_length row) s rest long)
        ∙ ap (take (line_length row)) (sym (line-back row (s ++ rest) i))
        ∙ take_at (line_of row f) (drop (line_length row) (s ++ rest)) (line_length row) (length-line row f) in
        let e : line_of row f ++ drop (line_length row) s ≡ s =
        ap (λ t. t ++ drop (line_length row) s) (sym first) ∙ take-append-drop (line_length row) s in
        rw e at (line-is row f (drop (line_length row) s))

    pub line-front : is_line row (s ++ rest) ≡ is_line row s
    line-front = go (is_line row s) refl (is_line row (s ++ rest)) refl
      where
        go : (a : Bool) → is_line row s ≡ a → (b : Bool) → is_line row (s ++ rest) ≡ b → b ≡ a
        go true p b q = sym q ∙ line-more p
        go false p true q = sym (line-less q) ∙ p
        go false p false q = refl

-- a run of lines and at least one byte more
pub frames-front : (due s rest : List ℕ) → text_length due < length s → frames_of due (s ++ rest) ≡ frames_of due s
unfolding frames_of text_length total
frames-front [] [] rest h = absurd (omega arith)
frames-front [] (c ∷ s) rest h = refl
frames-front (row ∷ due) s rest h =
    rw (line-front row s rest (omega arith))
    (go (is_line row s) refl
    (rw (drop-append-le (line_length row) s rest (omega arith))
    (frames-front due (drop (line_length row) s) rest (omega (arith, length-drop (line_length row) s)))))
  where
    go : (b : Bool) → is_line row s ≡ b
        → frames_of due (drop (line_length row) (s ++ rest)) ≡ frames_of due (drop (line_length row) s)
        → cond b (frame (fields_of row (s ++ rest)) (frames_of due (drop (line_length row) (s ++ rest)))) broken
        ≡ cond b (frame (fields_of row s) (frames_of due (drop (line_length row) s))) broken
    go true i e = rw (fields-front row s rest i, e)
    go false i e = refl
