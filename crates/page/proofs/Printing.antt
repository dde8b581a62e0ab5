-- The lines of a page: how long they are, and the columns that are printed one after the other.
use mathlib.Core.Path.{◌≡◌, refl, sym, ◌∙◌, ap}
use mathlib.Core.Bool.{true, ◌&&◌}
use mathlib.Core.List.{List, [], ◌∷◌, ◌++◌, append_assoc}
use Prim.Native.Nat.{ℕ, ◌+◌, ◌*◌, ◌-◌, ◌^◌, ◌≤◌, ◌<◌}
use native.Mathlib.Omega.{arith}
use lib.ListN.{length, take, drop, set, replicate, length-append, length-drop, length-replicate}
use lib.Seq.{drop_at, drop-drop, length-take-le, take_at}
use borrow.Rule.Slice.PartMut.{put_mid}
use lib.IntN.{ℤ, pos, negsuc, nat_abs}
use borrow.Author.Tests.{lt-ltb}
use Rattle.base.specs.Answer.{over}
use Rattle.base.specs.Limits.{edge_limit}
use Rattle.base.proofs.Filling.{over-set}
use Rattle.decimal.specs.BaseTen.{space, aligned, fits}
use Rattle.decimal.proofs.Printing.{right-aligned}
use Rattle.frame.specs.Line.{FEED}
use Rattle.page.specs.Page.{number_width, cost_width, cost_place, page_line, edge_line, sum_line, cost_borne}
use Rattle.page.specs.Room.{column}

-- ── which numbers have room in the columns ──

-- an edge's number, and an end
pub number_fits : (v : ℕ) → v < edge_limit → fits number_width (pos v) ≡ true
number_fits v h = right-aligned.room 5 (pos v) ∙ lt-ltb v (10 ^ 6) (omega arith)

-- a cost, and a sum of costs
pub cost-fits : (z : ℤ) → nat_abs z ≤ edge_limit * cost_borne → fits cost_width z ≡ true
cost-fits (pos v) h = right-aligned.room 17 (pos v) ∙ lt-ltb v (10 ^ 18) (omega arith)
cost-fits (negsuc v) h =
    right-aligned.room 17 (negsuc v) ∙ ap (λ b. b && true) (lt-ltb v (10 ^ 17 - 1) (omega arith))

-- ── how long lines are ──

module _ (e low high : ℕ) (cost : ℤ) (edge : e < edge_limit) (lower : low < edge_limit) (higher : high < edge_limit)
    (fit : fits cost_width cost ≡ true) where
  pub length-line : length (edge_line e low high cost) ≡ page_line
  unfolding edge_line
  length-line =
      let wide = right-aligned.width in
      let first = aligned number_width (pos e) in
      let second = aligned number_width (pos low) in
      let third = aligned number_width (pos high) in
      omega (
        arith,
        length-append (first ++ second ++ third ++ aligned cost_width cost) (FEED ∷ []),
        length-append (first ++ second ++ third) (aligned cost_width cost),
        length-append (first ++ second) third,
        length-append first second,
        wide number_width (pos e) (number_fits e edge),
        wide number_width (pos low) (number_fits low lower),
        wide number_width (pos high) (number_fits high higher),
        wide cost_width cost fit,
      )

pub length-sum : (sum : ℤ) → fits cost_width sum ≡ true → length (sum_line sum) ≡ page_line
unfolding sum_line
length-sum sum fit =
    omega (
      arith,
      length-append (replicate cost_place space ++ aligned cost_width sum) (FEED ∷ []),
      length-append (replicate cost_place space) (aligned cost_width sum),
      length-replicate cost_place space,
      right-aligned.width cost_width sum fit,
    )

-- ── columns that are printed one after the other ──

-- one column more, behind those that are printed
pub next-column : (start end : ℕ) (z : ℤ) (xs old out : List ℕ) → length xs ≡ start → start ≤ end → end ≤ length old
    → fits (end - start) z ≡ true → out ≡ over xs old
    → column start end z out ≡ over (xs ++ aligned (end - start) z) old
unfolding column over
next-column start end z xs old out n o h fit e =
    let ys = aligned (end - start) z in
    let wide = right-aligned.width (end - start) z fit in
    let place : start + (end - start) ≡ end = omega arith in
    let whole : length (xs ++ ys) ≡ end = length-append xs ys ∙ omega arith in
    let before : take start out ≡ xs = ap (take start) e ∙ take_at xs (drop (length xs) old) start n in
    let behind : drop end out ≡ drop end old =
    ap (λ k. drop k out) (sym place) ∙ sym (drop-drop (end - start) start out)
    ∙ ap (drop (end - start)) (ap (drop start) e ∙ drop_at xs (drop (length xs) old) start n ∙ ap (λ k. drop k old) n)
    ∙ drop-drop (end - start) start old ∙ ap (λ k. drop k old) place in
    rw (before, behind, whole)

-- a column as the code leaves it
pub column-put : (start end : ℕ) (z : ℤ) (line ys : List ℕ) → start ≤ end → end ≤ length line
    → ys ≡ aligned (length (take (end - start) (drop start line))) z
    → put_mid start (end - start) line ys ≡ column start end z line
unfolding column
column-put start end z line ys o h e =
    let place : start + (end - start) ≡ end = omega arith in
    let wide : length (take (end - start) (drop start line)) ≡ end - start =
    length-take-le (end - start) (drop start line) (omega (arith, length-drop start line)) in
    sym (append_assoc (take start line) ys (drop (end - start) (drop start line)))
    ∙ rw (e, wide, drop-drop (end - start) start line, place)

module _ (old : List ℕ) (h : page_line ≤ length old) where
  -- the columns of an edge's line, and the line feed
  module _ (e low high : ℕ) (cost : ℤ) (edge : e < edge_limit) (lower : low < edge_limit) (higher : high < edge_limit)
      (fit : fits cost_width cost ≡ true) where
    wide : (v : ℕ) → v < edge_limit → length (aligned number_width (pos v)) ≡ number_width
    wide v l = right-aligned.width number_width (pos v) (number_fits v l)

    pub edge-line
        : set (column 18 36 cost (column 12 18 (pos high) (column 6 12 (pos low) (column 0 6 (pos e) old)))) 36 FEED
        ≡ over (edge_line e low high cost) old
    unfolding edge_line
    edge-line =
        let first = aligned number_width (pos e) in
        let second = first ++ aligned number_width (pos low) in
        let third = second ++ aligned number_width (pos high) in
        let fit-first = number_fits e edge in
        let fit-second = number_fits low lower in
        let fit-third = number_fits high higher in
        let one = next-column 0 6 (pos e) [] old old refl (omega arith) (omega arith) fit-first nothing-over in
        let n2 : length second ≡ 12 = length-append first _ ∙ omega (arith, wide e edge, wide low lower) in
        let n1 = wide e edge in
        let two = next-column 6 12 (pos low) first old _ n1 (omega arith) (omega arith) fit-second one in
        let n3 : length third ≡ 18 = length-append second _ ∙ omega (arith, wide high higher) in
        let three = next-column 12 18 (pos high) second old _ n2 (omega arith) (omega arith) fit-third two in
        let four = next-column 18 36 cost third old _ n3 (omega arith) (omega arith) fit three in
        let n4 : length (third ++ aligned cost_width cost) ≡ 36 =
        length-append third _ ∙ omega (arith, right-aligned.width cost_width cost fit) in
        ap (λ out. set out 36 FEED) four ∙ over-set (third ++ aligned cost_width cost) old 36 FEED (sym n4) (omega arith)
      where
        nothing-over : old ≡ over [] old
        nothing-over = unfold over in refl

  -- the spaces and the sum of the last line, and the line feed
  module _ (sum : ℤ) (fit : fits cost_width sum ≡ true) where
    pub sum-line : (spaces : List ℕ) → spaces ≡ replicate (length (take 18 old)) space
        → set (column 18 36 sum (spaces ++ drop 18 old)) 36 FEED ≡ over (sum_line sum) old
    unfolding sum_line
    sum-line spaces e =
        let front = replicate cost_place space in
        let n = length-replicate cost_place space in
        let start : spaces ++ drop 18 old ≡ over front old = begun spaces e in
        let cost = next-column 18 36 sum front old _ n (omega arith) (omega arith) fit start in
        let m : length (front ++ aligned cost_width sum) ≡ 36 =
        length-append front (aligned cost_width sum) ∙ omega (arith, n, right-aligned.width cost_width sum fit) in
        ap (λ out. set out 36 FEED) cost ∙ over-set (front ++ aligned cost_width sum) old 36 FEED (sym m) (omega arith)
      where
        begun : (spaces : List ℕ) → spaces ≡ replicate (length (take 18 old)) space
            → spaces ++ drop 18 old ≡ over (replicate cost_place space) old
        begun spaces e = unfold over in
            rw (e, length-take-le 18 old (omega arith), length-replicate cost_place space)
