-- Audit lists: what a text means for n vertices, and the text of a meaning.
use Rattle.std.specs.Prelude.{◌≡◌, Bool, cond, ◌&&◌, List, [], ◌∷◌, map, ℕ, suc, ◌*◌, leb, ltb, length, replicate}
use Rattle.std.specs.Prelude.{Result}
use Rattle.base.specs.Answer.{Answer, refused, answer, and_then, told, replied, Held}
use Rattle.base.specs.Limits.{vertices_ok}
use Rattle.base.specs.Refusals.{FORM, VERTICES, UNLISTED}
use Rattle.base.specs.declared.refusals.Refusal.{Refusal}
use Rattle.frame.specs.Table.{KEPT}
use Rattle.frame.specs.Kinds.{kept_of, of_kept}
use Rattle.frame.specs.Frames.{Frames, done, broken, frame, frames_to_end, listed, lines_of}
use Rattle.frame.specs.declared.line.Fields.{Fields}

-- the meaning of an audit list: the edges, by their numbers
abbrev pub Meaning : Type 0
Meaning = List ℕ

-- the frame of a listed edge
abbrev pub frame_of : ℕ → Fields
frame_of e = of_kept (record { edge = e })

-- ── reading ──

-- whether an edge may follow in a list: not below the least number that may, and one of the network's
abbrev pub may_follow : ℕ → ℕ → ℕ → Bool
may_follow n least e = leb least e && ltb e (2 * n)

-- the edges of frames, from a least number on; refusal 14 for one that may not follow
unfoldable pub rising_from : ℕ → ℕ → Frames → Answer Meaning
rising_from n least done = answer []
rising_from n least broken = refused FORM
rising_from n least (frame f fs) =
    let e = (kept_of f).edge in
    cond (may_follow n least e) (and_then (rising_from n (suc e) fs) (λ es. answer (e ∷ es))) (refused UNLISTED)

-- the list that frames are for n vertices, or its first refusal
unfoldable pub list_in : ℕ → Frames → Answer Meaning
list_in n fs = cond (vertices_ok n) (rising_from n 0 fs) (refused VERTICES)

-- the meaning of an audit list, or its first refusal
unfoldable pub read_list : ℕ → List ℕ → Answer Meaning
read_list n t = list_in n (frames_to_end KEPT t)

-- what reading a list into a working column replies, and what the column holds
pub record ListRead (a : Answer Meaning) (edges₀ edges : List ℕ) (r : Result ℕ Refusal) : Type 0 where
  pub reply : told r ≡ replied a
  pub holds : Held (λ m. m) a edges₀ edges

-- ── writing ──

-- the frames 05 of edges, each line directly behind the one before it
unfoldable pub list_text : Meaning → List ℕ
list_text es = lines_of (replicate (length es) KEPT) (map frame_of es)

-- the text of a meaning, or the refusal that its text would meet
unfoldable pub write_list : ℕ → Meaning → Answer (List ℕ)
write_list n es = and_then (list_in n (listed (map frame_of es))) (λ _. answer (list_text es))
