-- Chain texts: what a text means for n vertices, and the text of a meaning.
use Rattle.std.specs.Prelude.{◌≡◌, Bool, cond, ◌&&◌, List, [], ◌∷◌, ◌++◌, ℕ, zero, suc, ◌+◌, ◌*◌, ◌-◌, leb, eqb, length, drop, ℤ, Result}
use Rattle.base.specs.Answer.{Answer, refused, answer, told, and_then, given, filled, room_in}
use Rattle.base.specs.Limits.{vertices_ok, fewest_vertices}
use Rattle.base.specs.Refusals.{FORM, VERTICES}
use Rattle.base.specs.declared.refusals.Refusal.{Refusal}
use Rattle.frame.specs.Table.{STEP, DROPPED, line_length}
use Rattle.frame.specs.Line.{is_line, fields_of, line_of}
use Rattle.frame.specs.Kinds.{step_of, of_step, dropped_of, of_dropped}
use Rattle.frame.specs.declared.kinds.Step.{Step}
use Rattle.chain_text.specs.Columns.{Columns, columns_of, Each, every}
use Rattle.chain_text.specs.declared.chain.ReadChain.{ReadChain}

-- the meaning of a chain text: the steps, and the edge that the ending drops
pub record Meaning : Type 0 where
  pub steps : List Step
  pub dropped : ℕ

-- its steps in columns
abbrev pub in_columns : Meaning → Columns
in_columns m = columns_of m.steps

-- ── reading ──

-- k steps at the start of a text, each directly behind the one before it
unfoldable pub steps_in : ℕ → List ℕ → Answer (List Step)
steps_in zero t = answer []
steps_in (suc k) t =
    let later = steps_in k (drop (line_length STEP) t) in
    cond (is_line STEP t) (and_then later (λ ss. answer (step_of (fields_of STEP t) ∷ ss))) (refused FORM)

-- the edge that an ending drops: its line, with nothing behind it
unfoldable pub ending_in : List ℕ → Answer ℕ
ending_in t =
    let alone = is_line DROPPED t && leb (length t) (line_length DROPPED) in
    cond alone (answer (dropped_of (fields_of DROPPED t)).edge) (refused FORM)

-- k steps, and the ending behind them
unfoldable pub chain_in : ℕ → List ℕ → Answer Meaning
chain_in k t =
    let ending = ending_in (drop (k * line_length STEP) t) in
    and_then (steps_in k t) (λ ss. and_then ending (λ d. answer (record { steps = ss; dropped = d })))

-- the meaning of a chain text, or its first refusal: 2 for n, 1 for the form
unfoldable pub read_chain : ℕ → List ℕ → Answer Meaning
read_chain n t = cond (vertices_ok n) (chain_in (n - fewest_vertices) t) (refused VERTICES)

-- the reader's reply
unfoldable pub read_reply : Answer Meaning → Answer ReadChain
read_reply (refused k) = refused k
read_reply (answer m) = answer (record { steps = length m.steps; dropped = m.dropped })

-- whether columns have room for the steps, each for its part of them
unfoldable pub room_for : Columns → Meaning → Bool
room_for c m = every (λ A part. room_in (part c) (part (in_columns m)))

-- the reader's answer once its columns are known: refused where one of them has no room
unfoldable pub read_given : ℕ → List ℕ → Columns → Answer Meaning
read_given n t c = given (room_for c) (read_chain n t)

-- what reading a text into columns comes to: all of them are written, or none
pub record ReadInto (n : ℕ) (t : List ℕ) (old : Columns) (reply : Result ReadChain Refusal)
    (new : Columns) : Type 0 where
  pub replies : told reply ≡ read_reply (read_given n t old)
  pub fills : Each (λ A part. part new ≡ filled (λ m. part (in_columns m)) (read_given n t old) (part old))

-- ── writing ──

-- the steps of a chain and then its ending, each line directly behind the one before it
unfoldable pub chain_text : List Step → ℕ → List ℕ
chain_text [] d = line_of DROPPED (of_dropped (record { edge = d }))
chain_text (s ∷ ss) d = line_of STEP (of_step s) ++ chain_text ss d

-- how many bytes the text of k steps and an ending has
unfoldable pub chain_length : ℕ → ℕ
chain_length k = k * line_length STEP + line_length DROPPED

-- the steps of columns, as far as each column has one
unfoldable pub steps_of : List ℕ → List ℕ → List ℕ → List ℕ → List ℤ → List Step
steps_of (v ∷ vs) (x ∷ xs) (y ∷ ys) (z ∷ zs) (c ∷ cs) =
    record { v = v; x = x; y = y; z = z; cost = c } ∷ steps_of vs xs ys zs cs
steps_of [] xs ys zs cs = []
steps_of (v ∷ vs) [] ys zs cs = []
steps_of (v ∷ vs) (x ∷ xs) [] zs cs = []
steps_of (v ∷ vs) (x ∷ xs) (y ∷ ys) [] cs = []
steps_of (v ∷ vs) (x ∷ xs) (y ∷ ys) (z ∷ zs) [] = []

abbrev pub steps_across : Columns → List Step
steps_across c = steps_of c.v c.x c.y c.z c.cost

-- columns with k steps each: none is missing in any of them, and none is left over
abbrev pub Even : ℕ → Columns → Type 0
Even k c = Each (λ A part. length (part c) ≡ k)

-- whether columns are so
unfoldable pub evenly : ℕ → Columns → Bool
evenly k c = every (λ A part. eqb (length (part c)) k)

-- the text of a meaning in columns, or the refusal that its text would meet
unfoldable pub write_chain : ℕ → Columns → ℕ → Answer (List ℕ)
write_chain n c d =
    let counted = evenly (n - fewest_vertices) c in
    cond (vertices_ok n) (cond counted (answer (chain_text (steps_across c) d)) (refused FORM)) (refused VERTICES)
