-- The check of a chain's bytes, frame by frame.
use Rattle.std.specs.Prelude.{Bool, cond, List, [], ◌∷◌, ℕ, zero, suc, ◌-◌, leb, length, drop}
use Rattle.base.specs.Answer.{Answer, answer, refused, unless, number_given}
use Rattle.base.specs.Refusals.{FORM}
use Rattle.frame.specs.Table.{STEP, DROPPED, line_length}
use Rattle.frame.specs.Line.{is_line, fields_of}
use Rattle.frame.specs.Kinds.{step_of, dropped_of}
use Rattle.departures.specs.Columns.{rule_column, step_column}
use Rattle.graph.specs.Split.{after}
use Rattle.graph.specs.Chain.{step_refusal, end_refusal, end_kept, lifted}
use Rattle.graph.specs.declared.Network.{Network}
use Rattle.graph.specs.declared.Step.{Step}

-- the step that a frame 03 at the start of t names, and the edge that a frame 04 drops
abbrev pub step_in : List ℕ → Step
step_in t = let s = step_of (fields_of STEP t) in record { v = s.v; x = s.x; y = s.y; z = s.z; cost = s.cost }

abbrev pub dropped_in : List ℕ → ℕ
dropped_in t = (dropped_of (fields_of DROPPED t)).edge

-- the refusal of bytes left over
abbrev pub left_over : ℕ
left_over = FORM

-- the ending: a frame 04 with nothing left over behind it
unfoldable pub check_ending : Network → List ℕ → Answer (List Bool)
check_ending g t =
    let d = dropped_in t in
    let whole = cond (leb (length t) (line_length DROPPED)) (answer (end_kept g d)) (refused left_over) in
    cond (is_line DROPPED t) (unless (end_refusal g d) whole) (refused FORM)

-- n frames 03, each judged on the network that those before it left, and the ending
unfoldable pub check_chain : ℕ → Network → List ℕ → Answer (List Bool)
check_chain zero g t = check_ending g t
check_chain (suc n) g t =
    let later = lifted (step_in t).x (step_in t).y (step_in t).z
    (check_chain n (after g (step_in t)) (drop (line_length STEP) t)) in
    cond (is_line STEP t) (unless (step_refusal g (step_in t)) later) (refused FORM)

-- ── what was checked ──

-- the steps that n frames 03 name, and the edge that the frame behind them drops
unfoldable pub steps_in : ℕ → List ℕ → List Step
steps_in zero t = []
steps_in (suc n) t = step_in t ∷ steps_in n (drop (line_length STEP) t)

unfoldable pub drop_in : ℕ → List ℕ → ℕ
drop_in zero t = dropped_in t
drop_in (suc n) t = drop_in n (drop (line_length STEP) t)

-- ── what the code answers ──

-- the columns of how each edge leaves in the chain of some bytes, whose next step has the number k
unfoldable pub rules_in : ℕ → Network → List ℕ → List ℕ
rules_in k g t = let n = g.remaining - 2 in rule_column k g (steps_in n t) (drop_in n t)

unfoldable pub numbers_in : ℕ → Network → List ℕ → List ℕ
numbers_in k g t = let n = g.remaining - 2 in step_column k g (steps_in n t) (drop_in n t)

-- a column that was lent, afterwards: what is due to it, or with a refusal the column as it was
abbrev pub column_after : Answer (List Bool) → List ℕ → List ℕ → List ℕ
column_after a due old = number_given (λ K. due) a old
