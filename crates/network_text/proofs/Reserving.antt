-- A network text with another edge in the reserved field of its head: what it means, or that it is refused by 3.
-- Assumes nothing.
use mathlib.Core.Path.{◌≡◌, sym, ◌∙◌, ap}
use mathlib.Core.List.{List}
use Prim.Native.Nat.{ℕ, ◌*◌, ◌^◌, ◌≤◌, ◌<◌}
use native.Mathlib.Omega.{arith}
use lib.Dec.{lit<}
use lib.ListN.{drop}
use borrow.Author.Tests.{le-leb, le-ltb}
use Rattle.base.specs.Answer.{refused, answer, and_then, unless}
use Rattle.base.specs.Limits.{fewest_vertices, vertex_limit, vertices_ok}
use Rattle.base.specs.Refusals.{RESERVED}
use Rattle.frame.specs.Table.{HEAD, line_length, bytes_of, padded, widths}
use Rattle.frame.specs.Line.{fields_of, Fits}
use Rattle.frame.specs.Kinds.{head_of, of_head}
use Rattle.frame.specs.declared.kinds.Head.{Head}
use Rattle.frame.proofs.Lines.{line-is, line-rest, fields-found}
use Rattle.network_frames.specs.Frames.{head_refusal}
use Rattle.network_text.specs.Text.{Meaning, meant, meaning_of, read_network, reserving_text}
use Rattle.network_text.proofs.Meaning.{parts, read-valid}
use Rattle.network_text.proofs.OneToOne.{head-unrefused}

-- a meaning with another edge reserved
abbrev pub reserving_meaning : ℕ → Meaning → Meaning
reserving_meaning r m = meant m.vertices r m.low m.high m.cost

module _ (t : List ℕ) (m : Meaning) (r : ℕ) (x : read_network t ≡ answer m) where
  abbrev other : Meaning
  other = reserving_meaning r m

  -- the head has room for every number of two bytes
  head-fits : r < 2 ^ 16 → Fits HEAD (of_head (record { vertices = (head_of (fields_of HEAD t)).vertices; reserved = r }))
  unfolding Fits widths bytes_of padded
  head-fits small =
      let p = parts t m x in
      let n = ap (λ (h : Head). h.vertices) p.head_is in
      (omega (arith, n, p.head_fine.few), (small, (lit< tt, (lit< tt, (lit< tt, tt)))))

  -- and the edges are read as before
  reserving-read : r < 2 ^ 16 → read_network (reserving_text r t) ≡ unless (head_refusal m.vertices r) (answer other)
  unfolding read_network reserving_text meaning_of and_then
  reserving-read small =
      let p = parts t m x in
      let f = of_head (record { vertices = (head_of (fields_of HEAD t)).vertices; reserved = r }) in
      let rest = drop (line_length HEAD) t in
      let n = sym (ap (λ (h : Head). h.vertices) p.head_is) in
      rw (line-is HEAD f rest, line-rest HEAD f rest, fields-found HEAD f rest (head-fits small), n, p.read)
      (ap (λ (w : Meaning). unless (head_refusal w.vertices r) (answer (reserving_meaning r w))) (sym p.meaning))

  -- so an edge of the network is reserved instead
  pub reserving-answered : r < 2 * m.vertices → read_network (reserving_text r t) ≡ answer other
  unfolding unless
  reserving-answered h =
      let v = read-valid t m x in
      let free = head-unrefused m.vertices r (record { many = v.many; few = v.few; inside = h }) in
      reserving-read (omega (arith, v.few)) ∙ ap (λ k. unless k (answer other)) free

  -- and a number that is none of them is refused as in any head
  pub reserving-refused : 2 * m.vertices ≤ r → r < 2 ^ 16 → read_network (reserving_text r t) ≡ refused RESERVED
  unfolding unless head_refusal vertices_ok
  reserving-refused h small =
      let v = read-valid t m x in
      let n = m.vertices in
      reserving-read small
      ∙ rw (le-leb fewest_vertices n v.many, le-leb n vertex_limit v.few, le-ltb r (2 * n) h)
