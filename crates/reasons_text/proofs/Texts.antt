-- Reasons texts line by line, their lengths, and what is owed of them.
-- Assumes nothing.
use mathlib.Core.Path.{◌≡◌, refl, sym, ◌∙◌, ap}
use mathlib.Core.Bool.{true}
use mathlib.Core.List.{List, ◌++◌}
use Prim.Native.Nat.{ℕ, zero, suc, ◌+◌, ◌*◌, ◌^◌, ◌≤◌, ◌<◌}
use native.Mathlib.Omega.{arith}
use native.Mathlib.Nat.{zero-mul}
use native.Mathlib.Numerals.{add-one}
use lib.Dec.{lit<}
use lib.ListN.{length, drop, replicate, length-drop, length-replicate}
use lib.Seq.{drop-drop}
use Rattle.base.specs.Columns.{at}
use Rattle.base.specs.Fold.{tabulate}
use Rattle.base.specs.Lengths.{longest_reasons}
use Rattle.base.specs.Limits.{edge_limit}
use Rattle.base.proofs.Sums.{tabulate-length}
use Rattle.base.proofs.Writing.{Written, written_none}
use Rattle.frame.specs.Table.{REASON, bytes_of, padded, total, place_of, start_of, widths, line_length}
use Rattle.frame.specs.Line.{line_of, is_line, Fits}
use Rattle.frame.specs.Frames.{lines_of}
use Rattle.frame.specs.Kinds.{reason_of, of_reason}
use Rattle.frame.specs.declared.line.Fields.{Fields}
use Rattle.frame.specs.declared.kinds.Reason.{Reason}
use Rattle.frame.proofs.Lines.{line-rest, line-is, fields-found}
use Rattle.frame.proofs.Whole.{length-lines, text-replicate}
use Rattle.reasons_text.specs.Text.{reason_at, reasons_text, reason_in, reasons_length}
use Rattle.reasons_text.specs.EachLine.{EachLine}

-- lines of one kind, from the i-th on: that line, and the later ones
module _ (row : ℕ) where
  behind-first : (f : Fields) (rest : List ℕ) (i : ℕ)
      → drop (suc i * line_length row) (line_of row f ++ rest) ≡ drop (i * line_length row) rest
  behind-first f rest i =
      let size = line_length row in
      let place : suc i * size ≡ size + i * size = omega arith in
      ap (λ k. drop k (line_of row f ++ rest)) place ∙ sym (drop-drop (i * size) size (line_of row f ++ rest))
      ∙ ap (drop (i * size)) (line-rest row f rest)

  line-next : (f : ℕ → Fields) (n i : ℕ) → i < n
      → let text = lines_of (replicate n row) (tabulate n f) in
      drop (i * line_length row) text ≡ line_of row (f i) ++ drop (suc i * line_length row) text
  unfolding lines_of tabulate
  line-next f zero i h = absurd (omega arith)
  line-next f (suc n) zero h =
      let later = lines_of (replicate n row) (tabulate n (λ i. f (suc i))) in
      rw (zero-mul, behind-first (f 0) later 0, zero-mul)
  line-next f (suc n) (suc i) h =
      let later = lines_of (replicate n row) (tabulate n (λ i. f (suc i))) in
      rw (behind-first (f 0) later i, behind-first (f 0) later (suc i)) (line-next (λ i. f (suc i)) n i (omega arith))

-- the text from the line of edge e on
unfoldable pub lines_from : ℕ → List ℕ → List ℕ → ℕ → List ℕ
lines_from n rules steps e = drop (e * line_length REASON) (reasons_text n rules steps)

module _ (n : ℕ) (rules steps : List ℕ) where
  pub length-reasons : length (reasons_text n rules steps) ≡ reasons_length n
  unfolding reasons_text reasons_length
  length-reasons =
      let fs = tabulate n (λ e. of_reason (reason_at rules steps e)) in
      let count = length-replicate n REASON ∙ sym (tabulate-length n (λ e. of_reason (reason_at rules steps e))) in
      length-lines (replicate n REASON) fs count ∙ text-replicate n REASON

  reason-next : (e : ℕ) → e < n
      → lines_from n rules steps e ≡ line_of REASON (of_reason (reason_at rules steps e)) ++ lines_from n rules steps (e + 1)
  unfolding lines_from reasons_text
  reason-next e h = rw add-one (line-next REASON (λ e. of_reason (reason_at rules steps e)) n e h)

  -- nothing is written yet, the line of an edge is left to write, and all are written
  pub reasons-left : (old : List ℕ) → reasons_length n ≤ length old
      → Written (reasons_text n rules steps) (lines_from n rules steps 0) old old 0
  unfolding lines_from
  reasons-left old h = rw zero-mul (written_none (reasons_text n rules steps) old (omega (arith, length-reasons)))

  pub reason-left : {old out : List ℕ} {at : ℕ} (e : ℕ)
      → Written (reasons_text n rules steps) (lines_from n rules steps e) old out at → e < n
      → Written (reasons_text n rules steps)
      (line_of REASON (of_reason (reason_at rules steps e)) ++ lines_from n rules steps (e + 1)) old out at
  reason-left e w h = rw (reason-next e h) at w

  pub reasons-end : length (lines_from n rules steps n) ≡ 0
  unfolding lines_from reasons_length
  reasons-end = omega (arith, length-drop (n * line_length REASON) (reasons_text n rules steps), length-reasons)

-- ── lengths ──

-- the number of base is what the table of frames says
pub longest-reasons : reasons_length edge_limit ≡ longest_reasons
unfolding reasons_length line_length start_of place_of bytes_of padded total
longest-reasons = refl

-- and no reasons text of a network is longer
pub reasons-short : (n : ℕ) → n ≤ edge_limit → reasons_length n ≤ longest_reasons
unfolding reasons_length line_length start_of place_of bytes_of padded total
reasons-short n h = omega arith

-- as many bytes as the code measures, from the length of a line
pub record Measured (n : ℕ) (rules steps : List ℕ) (size : ℕ) : Type 0 where
  pub measured : size ≡ reasons_length n
  pub counted : size ≡ length (reasons_text n rules steps)
  pub small : size ≤ longest_reasons

pub reasons-measured : (n : ℕ) (rules steps : List ℕ) → n ≤ edge_limit → {line : ℕ} → line ≡ line_length REASON
    → Measured n rules steps (n * line)
unfolding reasons_length
reasons-measured n rules steps h e =
    rw e (record { measured = refl; counted = sym (length-reasons n rules steps); small = reasons-short n h })

-- ── what is owed of each line ──

-- an edge, a rule of 8 bits and a step of 16 have room in their line
reason-fits : (r : Reason) → r.edge < 2 ^ 16 → r.rule < 2 ^ 8 → r.step < 2 ^ 16 → Fits REASON (of_reason r)
unfolding Fits widths bytes_of padded
reason-fits r e k s = (e, (k, (s, (lit< tt, (lit< tt, tt)))))

line : (n : ℕ) (rules steps : List ℕ) (e : ℕ) → e < n
    → is_line REASON (drop (e * line_length REASON) (reasons_text n rules steps)) ≡ true
unfolding lines_from
line n rules steps e h =
    rw (reason-next n rules steps e h) (line-is REASON (of_reason (reason_at rules steps e)) (lines_from n rules steps (e + 1)))

says : (n : ℕ) (rules steps : List ℕ) → n ≤ edge_limit → (e : ℕ) → e < n
    → at rules e < 2 ^ 8 → at steps e < 2 ^ 16
    → reason_in (reasons_text n rules steps) e ≡ reason_at rules steps e
unfolding reason_in lines_from
says n rules steps few e h k s =
    let r = reason_at rules steps e in
    let fit = reason-fits r (omega arith) k s in
    rw (reason-next n rules steps e h) (ap reason_of (fields-found REASON (of_reason r) (lines_from n rules steps (e + 1)) fit))

pub each_line : EachLine
unfolding reasons_length
each_line = record { counted = length-reasons; line = line; says = says }
