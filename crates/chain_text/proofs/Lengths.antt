-- How long chain texts are.
-- Assumes nothing.
use mathlib.Core.Path.{◌≡◌, refl, ◌∙◌}
use mathlib.Core.List.{List, [], ◌∷◌}
use Prim.Native.Nat.{ℕ, suc, ◌+◌, ◌≤◌}
use native.Mathlib.Omega.{arith}
use native.Mathlib.Nat.{zero-mul, suc-mul}
use lib.ListN.{length, length-append}
use Rattle.base.specs.Lengths.{longest_chain}
use Rattle.base.specs.Limits.{step_limit}
use Rattle.frame.specs.Table.{STEP, DROPPED, bytes_of, padded, total, place_of, start_of, line_length}
use Rattle.frame.specs.Line.{line_of}
use Rattle.frame.specs.Kinds.{of_step, of_dropped}
use Rattle.frame.specs.declared.kinds.Step.{Step}
use Rattle.frame.proofs.Lines.{length-line}
use Rattle.chain_text.specs.Text.{chain_text, chain_length}

-- the ending alone, and one step more
pub length-ending : chain_length 0 ≡ line_length DROPPED
unfolding chain_length
length-ending = omega (arith, zero-mul (line_length STEP))

pub length_more : (k : ℕ) → chain_length (suc k) ≡ line_length STEP + chain_length k
unfolding chain_length
length_more k = omega (arith, suc-mul k (line_length STEP))

pub length-chain : (ss : List Step) (d : ℕ) → length (chain_text ss d) ≡ chain_length (length ss)
unfolding chain_text
length-chain [] d = length-line DROPPED (of_dropped (record { edge = d })) ∙ omega (arith, length-ending)
length-chain (s ∷ ss) d =
    length-append (line_of STEP (of_step s)) (chain_text ss d)
    ∙ omega (arith, length-line STEP (of_step s), length-chain ss d, length_more (length ss))

-- the number of base is what the table of frames says
pub longest-chain : chain_length step_limit ≡ longest_chain
unfolding chain_length line_length start_of place_of bytes_of padded total
longest-chain = refl

-- and no chain text is longer
pub chain-short : (k : ℕ) → k ≤ step_limit → chain_length k ≤ longest_chain
unfolding chain_length line_length start_of place_of bytes_of padded total
chain-short k h = omega arith
