-- Chain texts line by line: how their lines are read, and what is a chain text.
-- Assumes nothing.
use mathlib.Core.Path.{◌≡◌, refl, sym, ◌∙◌}
use mathlib.Core.Bool.{Bool, true, false}
use mathlib.Core.List.{List, [], ◌∷◌, ◌++◌, append-nil}
use Prim.Native.Nat.{ℕ, ◌*◌, ◌^◌, ◌<◌}
use lib.Dec.{lit<}
use lib.ListN.{drop}
use lib.Signed.{mag}
use borrow.Author.Tests.{eqb-false}
use Rattle.frame.specs.Table.{STEP, DROPPED, kind_of, bytes_of, padded, digits_of, widths, line_length}
use Rattle.frame.specs.Line.{is_line, fields_of, line_of, Fits}
use Rattle.frame.specs.Kinds.{step_cost_digits, step_of, of_step, dropped_of, of_dropped}
use Rattle.frame.specs.declared.line.Fields.{Fields}
use Rattle.frame.specs.declared.kinds.Step.{Step}
use Rattle.frame.proofs.Lines.{formed, line-rest, line-is, fields-found, line-back, line-fits}
use Rattle.frame.proofs.Named.{step_back, dropped-back}
use Rattle.digits.proofs.Signs.{unsigned-lt}
use Rattle.chain_text.specs.Text.{chain_text}

-- numbers of 16 bits, and a cost that its digits can spell, have room in their lines
pub step_fits : (s : Step) → s.v < 2 ^ 16 → s.x < 2 ^ 16 → s.y < 2 ^ 16 → s.z < 2 ^ 16
    → 2 * mag s.cost < 16 ^ step_cost_digits → Fits STEP (of_step s)
unfolding Fits widths digits_of bytes_of padded step_cost_digits
step_fits s v x y z cost = (v, (x, (y, (z, (unsigned-lt step_cost_digits s.cost cost, tt)))))

pub dropped-fits : (d : ℕ) → d < 2 ^ 16 → Fits DROPPED (of_dropped (record { edge = d }))
unfolding Fits widths bytes_of padded
dropped-fits d h = (h, (lit< tt, (lit< tt, (lit< tt, (lit< tt, tt)))))

-- and what is read from a line has 16 bits
pub step-short : (f : Fields) → Fits STEP f
    → ((step_of f).v < 2 ^ 16) × ((step_of f).x < 2 ^ 16) × ((step_of f).y < 2 ^ 16) × ((step_of f).z < 2 ^ 16)
unfolding Fits widths bytes_of padded
step-short f h = (h.0, h.1.0, h.1.1.0, h.1.1.1.0)

pub dropped-short : (f : Fields) → Fits DROPPED f → (dropped_of f).edge < 2 ^ 16
unfolding Fits widths bytes_of padded
dropped-short f h = h.0

-- a line of one kind is none of another
other-kind : (row other : ℕ) (f : Fields) (rest : List ℕ) → (kind_of row ≡ kind_of other → ⊥)
    → is_line other (line_of row f ++ rest) ≡ false
other-kind row other f rest n = go (is_line other (line_of row f ++ rest)) refl
  where
    go : (b : Bool) → is_line other (line_of row f ++ rest) ≡ b → is_line other (line_of row f ++ rest) ≡ false
    go true e =
        let t = line_of row f ++ rest in
        absurd (n (sym (formed row t (line-is row f rest)).kind ∙ (formed other t e).kind))
    go false e = e

-- the first line of a chain with a step
module _ (s : Step) (ss : List Step) (d : ℕ) where
  pub step_is : is_line STEP (chain_text (s ∷ ss) d) ≡ true
  unfolding chain_text
  step_is = line-is STEP (of_step s) (chain_text ss d)

  pub step-found : Fits STEP (of_step s) → fields_of STEP (chain_text (s ∷ ss) d) ≡ of_step s
  unfolding chain_text
  step-found = fields-found STEP (of_step s) (chain_text ss d)

  pub step-rest : drop (line_length STEP) (chain_text (s ∷ ss) d) ≡ chain_text ss d
  unfolding chain_text
  step-rest = line-rest STEP (of_step s) (chain_text ss d)

  pub no-ending : is_line DROPPED (chain_text (s ∷ ss) d) ≡ false
  unfolding chain_text kind_of
  no-ending = other-kind STEP DROPPED (of_step s) (chain_text ss d) (eqb-false (kind_of STEP) (kind_of DROPPED) refl)

-- the last line
module _ (d : ℕ) where
  ending : chain_text [] d ≡ line_of DROPPED (of_dropped (record { edge = d })) ++ []
  unfolding chain_text
  ending = sym (append-nil _)

  pub ending-is : is_line DROPPED (chain_text [] d) ≡ true
  ending-is = rw ending (line-is DROPPED (of_dropped (record { edge = d })) [])

  pub ending-found : d < 2 ^ 16 → fields_of DROPPED (chain_text [] d) ≡ of_dropped (record { edge = d })
  ending-found h = rw ending (fields-found DROPPED (of_dropped (record { edge = d })) [] (dropped-fits d h))

  pub no_step : is_line STEP (chain_text [] d) ≡ false
  unfolding kind_of
  no_step =
      let other = eqb-false (kind_of DROPPED) (kind_of STEP) refl in
      rw ending (other-kind DROPPED STEP (of_dropped (record { edge = d })) [] other)

-- and conversely: a frame 03 before a chain text, and a frame 04 alone, are chain texts
pub step-before : (t : List ℕ) (ss : List Step) (d : ℕ) → is_line STEP t ≡ true
    → drop (line_length STEP) t ≡ chain_text ss d → t ≡ chain_text (step_of (fields_of STEP t) ∷ ss) d
unfolding chain_text
step-before t ss d i e = sym (line-back STEP t i) ∙ rw (step_back (fields_of STEP t) (line-fits STEP t i), e)

pub ending-alone : (t : List ℕ) → is_line DROPPED t ≡ true → drop (line_length DROPPED) t ≡ []
    → t ≡ chain_text [] (dropped_of (fields_of DROPPED t)).edge
unfolding chain_text
ending-alone t i e =
    sym (line-back DROPPED t i) ∙ rw (dropped-back (fields_of DROPPED t) (line-fits DROPPED t i), e, append-nil)
