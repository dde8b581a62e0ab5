-- What is known while the edges of columns are written, one after the other.
-- Assumes nothing.
use mathlib.Core.Path.{◌≡◌, sym, ◌∙◌, ap}
use mathlib.Core.List.{List, [], ◌∷◌, ◌++◌, map}
use Prim.Native.Nat.{ℕ, zero, suc, ◌+◌, ◌*◌, ◌-◌, ◌≤◌, ◌<◌}
use native.Mathlib.Omega.{arith}
use native.Mathlib.Numerals.{add-one}
use lib.ListN.{length, take, drop, replicate, length-map, length-replicate, drop_of_length-le}
use lib.Seq.{drop-cons}
use lib.IntN.{ℤ, pos}
use borrow.Rule.Slice.PartMut.{put_mid}
use Rattle.base.specs.Answer.{over}
use Rattle.base.proofs.Parts.{over-part}
use Rattle.frame.specs.Table.{HEAD, EDGE, line_length}
use Rattle.frame.specs.Line.{line_of}
use Rattle.frame.specs.Kinds.{of_head, of_edge}
use Rattle.frame.specs.Frames.{lines_of}
use Rattle.frame.specs.declared.line.Fields.{Fields}
use Rattle.frame.specs.declared.kinds.Edge.{Edge}
use Rattle.frame.proofs.Lines.{length-line}
use Rattle.frame.proofs.Whole.{length-lines, text-replicate}
use Rattle.base.proofs.Writing.{Written, written_none, written_all}
use Rattle.frame.proofs.Writing.{line-room, line-more}
use Rattle.network_text.specs.Text.{edges_in, edges_text, network_text}
use Rattle.network_text.specs.Columns.{edge_at, Edged}

-- the edges of columns of one length
pub length-edges : (place k : ℕ) (ls hs : List ℕ) (cs : List ℤ) → length ls ≡ k → length hs ≡ k → length cs ≡ k
    → length (edges_in place ls hs cs) ≡ k
unfolding edges_in
length-edges place k [] hs cs l h c = l
length-edges place k (x ∷ ls) [] cs l h c = absurd (omega arith)
length-edges place k (x ∷ ls) (y ∷ hs) [] l h c = absurd (omega arith)
length-edges place zero (x ∷ ls) (y ∷ hs) (z ∷ cs) l h c = absurd (omega arith)
length-edges place (suc k) (x ∷ ls) (y ∷ hs) (z ∷ cs) l h c =
    ap suc (length-edges (suc place) k ls hs cs (omega arith) (omega arith) (omega arith))

-- how long their text is
pub length-text : (es : List Edge) → length (edges_text es) ≡ length es * line_length EDGE
unfolding edges_text
length-text es =
    length-lines (replicate (length es) EDGE) (map of_edge es)
    (length-replicate (length es) EDGE ∙ sym (length-map es of_edge))
    ∙ text-replicate (length es) EDGE

module _ {k : ℕ} {low high : List ℕ} {cost : List ℤ} {old : List ℕ} (x : Edged k low high cost old) where
  -- the text of all edges, and of those from the i-th on
  abbrev whole : List ℕ
  whole = edges_text (edges_in 0 low high cost)

  abbrev rest : ℕ → List ℕ
  rest i = edges_text (edges_in i (drop i low) (drop i high) (drop i cost))

  pub writing-none : Written whole (rest 0) old old 0
  writing-none =
      let n = length-edges 0 k low high cost x.low_count x.high_count x.cost_count in
      written_none whole old (rw (length-text, n) x.room)

  -- the line of the next edge comes first in what is left
  rest-next : (i : ℕ) → i < k → rest i ≡ line_of EDGE (of_edge (edge_at low high cost i)) ++ rest (i + 1)
  unfolding edges_text edges_in lines_of edge_at
  rest-next i h =
      rw (
        add-one,
        drop-cons low i 0 (omega (arith, x.low_count)),
        drop-cons high i 0 (omega (arith, x.high_count)),
        drop-cons cost i (pos 0) (omega (arith, x.cost_count)),
      )

  module _ (i : ℕ) {out : List ℕ} {at : ℕ} (w : Written whole (rest i) old out at) where
    pub writing-all : k ≤ i → out ≡ over whole old
    unfolding edges_text edges_in lines_of
    writing-all h = (written_all _ _ _ _ _ w (rw (drop_of_length-le low {i = i} (omega (arith, x.low_count))))).1

    module _ (h : i < k) where
      line-left : Written whole (line_of EDGE (of_edge (edge_at low high cost i)) ++ rest (i + 1)) old out at
      line-left = rw (rest-next i h) at w

      pub writing-room : line_length EDGE ≤ length (take (length out - at) (drop at out))
      writing-room = line-room _ _ _ _ _ EDGE _ line-left

      pub writing-next : {f : Fields} → f ≡ of_edge (edge_at low high cost i) → {part : List ℕ} {size : ℕ}
          → size ≡ line_length EDGE → part ≡ over (line_of EDGE f) (take (length out - at) (drop at out))
          → Written whole (rest (i + 1)) old (put_mid at (length out - at) out part) (at + size)
      writing-next q {part} {size} n p = line-more _ _ _ _ _ EDGE _ line-left part size n (rw q at p)

-- edges written behind a head
pub behind-head : (n r : ℕ) (es : List Edge) (old : List ℕ) {f : Fields} {at : ℕ} {out part : List ℕ}
    → line_length HEAD ≤ length old → f ≡ of_head (record { vertices = n; reserved = r }) → at ≡ line_length HEAD
    → out ≡ over (line_of HEAD f) old → part ≡ over (edges_text es) (take (length out - at) (drop at out))
    → put_mid at (length out - at) out part ≡ over (network_text n r es) old
unfolding network_text
behind-head n r es old {f} {at} {out} h q a o p =
    let long = length-line HEAD f in
    rw (p, ← q) (over-part at (line_of HEAD f) (edges_text es) old out (omega arith) (a ∙ sym long) o)
