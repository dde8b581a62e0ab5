-- A text as a run of frames, of kinds that are given in order.
use Rattle.std.specs.Prelude.{cond, List, [], ◌∷◌, ◌++◌, map, ℕ, ◌/◌, length, drop, replicate}
use Rattle.frame.specs.Table.{line_length, total}
use Rattle.frame.specs.Line.{fields_of, is_line, line_of, Fits}
use Rattle.frame.specs.declared.line.Fields.{Fields}

-- frames, up to the end of a text or to what is no line of the kind that is due
pub data Frames : Type 0 where
  done broken : Frames
  frame : Fields → Frames → Frames

-- the frames of a text whose kinds are those of the rows, with nothing left over
unfoldable pub frames_of : List ℕ → List ℕ → Frames
frames_of [] [] = done
frames_of [] (c ∷ t) = broken
frames_of (row ∷ due) t =
    let next = frames_of due (drop (line_length row) t) in
    cond (is_line row t) (frame (fields_of row t) next) broken

-- the frames of a text that has one kind up to its end
unfoldable pub frames_to_end : ℕ → List ℕ → Frames
frames_to_end row t = frames_of (replicate (length t / line_length row) row) t

-- frames that are all there
unfoldable pub listed : List Fields → Frames
listed [] = done
listed (f ∷ fs) = frame f (listed fs)

-- the text of frames, each line directly behind the one before it
unfoldable pub lines_of : List ℕ → List Fields → List ℕ
lines_of (row ∷ due) (f ∷ fs) = line_of row f ++ lines_of due fs
lines_of [] fs = []
lines_of (row ∷ due) [] = []

-- how many bytes such a text has
unfoldable pub text_length : List ℕ → ℕ
text_length due = total (map line_length due)

-- as many frames as rows, and each has room in its line
abbrev pub AllFit : List ℕ → List Fields → Type 0
AllFit [] [] = Unit
AllFit [] (f ∷ fs) = ⊥
AllFit (row ∷ due) [] = ⊥
AllFit (row ∷ due) (f ∷ fs) = Fits row f × AllFit due fs
