-- The longest network text: what a text means is settled by as many bytes and one more.
-- Assumes nothing.
use mathlib.Core.Path.{◌≡◌, refl, sym, ◌∙◌, ap}
use mathlib.Core.Bool.{Bool, true, false, cond}
use mathlib.Core.List.{List, ◌++◌}
use Prim.Native.Nat.{ℕ, zero, suc, ◌*◌, ◌≤◌, ◌<◌}
use native.Mathlib.Omega.{arith}
use native.Mathlib.Nat.{mul-le-mul}
use lib.Dec.{leb}
use lib.ListN.{length, take, drop, replicate, length-drop, take-append-drop}
use lib.Seq.{length-take-le, take_all, drop-append-le}
use borrow.Author.Tests.{leb-true, leb-false}
use Rattle.base.specs.Answer.{refused, unless}
use Rattle.base.specs.Lengths.{longest_network}
use Rattle.base.specs.Limits.{vertex_limit, edge_limit}
use Rattle.base.specs.Refusals.{FORM}
use Rattle.frame.specs.Table.{HEAD, EDGE, bytes_of, padded, total, place_of, start_of, line_length}
use Rattle.frame.specs.Line.{is_line, fields_of}
use Rattle.frame.specs.Kinds.{head_of}
use Rattle.frame.specs.declared.kinds.Head.{Head}
use Rattle.frame.proofs.Fronts.{fields-front, line-front, frames-front}
use Rattle.frame.proofs.Whole.{text-replicate}
use Rattle.network_frames.specs.Frames.{head_refusal}
use Rattle.network_frames.proofs.Passed.{head_passed}
use Rattle.network_text.specs.Text.{in_frames, edges_of, read_network, network_length}
use Rattle.network_text.proofs.Head.{edges_behind}

-- the number of base is what the table of frames says
pub longest-network : network_length edge_limit ≡ longest_network
unfolding network_length line_length start_of place_of bytes_of padded total
longest-network = refl

-- a text of more bytes than the longest has, and anything behind it
module _ (s rest : List ℕ) (long : longest_network < length s) where
  head-within : line_length HEAD ≤ length s
  unfolding network_length
  head-within = omega (arith, longest-network)

  -- the edges of so many vertices end before its last byte
  edges-within : (n : ℕ) → n ≤ vertex_limit
      → edges_of (2 * n) (drop (line_length HEAD) (s ++ rest)) ≡ edges_of (2 * n) (drop (line_length HEAD) s)
  unfolding edges_of network_length
  edges-within n h =
      let size = line_length EDGE in
      let few = mul-le-mul {n₁ = 2 * n} {m₁ = size} {n₂ = edge_limit} {m₂ = size} (omega arith) (omega arith) in
      rw (drop-append-le (line_length HEAD) s rest head-within)
      (ap in_frames
      (frames-front (replicate (2 * n) EDGE) (drop (line_length HEAD) s) rest
      (omega (arith, longest-network, few, text-replicate (2 * n) EDGE, length-drop (line_length HEAD) s))))

  edges-front : (h : Head) (k : ℕ) → head_refusal h.vertices h.reserved ≡ k
      → unless k (edges_behind h (drop (line_length HEAD) (s ++ rest)))
      ≡ unless k (edges_behind h (drop (line_length HEAD) s))
  unfolding unless
  edges-front h zero e = rw (edges-within h.vertices (head_passed h.vertices h.reserved (omega arith)).few)
  edges-front h (suc k) e = refl

  -- what stands behind it says nothing
  read-front : read_network (s ++ rest) ≡ read_network s
  unfolding read_network
  read-front = rw (line-front HEAD s rest head-within) (go (is_line HEAD s) refl)
    where
      go : let h = head_of (fields_of HEAD (s ++ rest)) in
          let h₀ = head_of (fields_of HEAD s) in
          (b : Bool) → is_line HEAD s ≡ b
          → cond b
          (unless (head_refusal h.vertices h.reserved) (edges_behind h (drop (line_length HEAD) (s ++ rest))))
          (refused FORM)
          ≡ cond b (unless (head_refusal h₀.vertices h₀.reserved) (edges_behind h₀ (drop (line_length HEAD) s)))
          (refused FORM)
      go true i = rw (fields-front HEAD s rest i) (edges-front (head_of (fields_of HEAD s)) _ refl)
      go false i = refl

-- so a text means what its first bytes mean, one more than the longest network text has
pub first_bytes : (t : List ℕ) (k : ℕ) → longest_network < k → read_network (take k t) ≡ read_network t
first_bytes t k h = go (leb (length t) k) refl
  where
    go : (b : Bool) → leb (length t) k ≡ b → read_network (take k t) ≡ read_network t
    go true e = rw (take_all k t (leb-true (length t) k e))
    go false e =
        let l : k < length t = leb-false (length t) k e in
        sym (read-front (take k t) (drop k t) (omega (arith, length-take-le k t (omega arith))))
        ∙ ap read_network (take-append-drop k t)
