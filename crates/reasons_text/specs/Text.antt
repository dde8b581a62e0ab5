-- Reasons texts: what put each cable in or out.
use Rattle.std.specs.Prelude.{List, ℕ, ◌*◌, drop, replicate}
use Rattle.base.specs.Columns.{at}
use Rattle.base.specs.Fold.{tabulate}
use Rattle.frame.specs.Table.{REASON, line_length}
use Rattle.frame.specs.Line.{fields_of}
use Rattle.frame.specs.Kinds.{reason_of, of_reason}
use Rattle.frame.specs.Frames.{lines_of}
use Rattle.frame.specs.declared.kinds.Reason.{Reason}

-- the reason of edge e: 'cable (2), rule (1), step (2)', its rule and its step from the columns
abbrev pub reason_at : List ℕ → List ℕ → ℕ → Reason
reason_at rules steps e = record { edge = e; rule = at rules e; step = at steps e }

-- 'one frame 0a per cable, in cable order': of the edges below n, each line directly behind the one before it
unfoldable pub reasons_text : ℕ → List ℕ → List ℕ → List ℕ
reasons_text n rules steps = lines_of (replicate n REASON) (tabulate n (λ e. of_reason (reason_at rules steps e)))

-- what the e-th line of a text says, read from its bytes
unfoldable pub reason_in : List ℕ → ℕ → Reason
reason_in t e = reason_of (fields_of REASON (drop (e * line_length REASON) t))

-- how many bytes the reasons text of n edges has
unfoldable pub reasons_length : ℕ → ℕ
reasons_length n = n * line_length REASON
