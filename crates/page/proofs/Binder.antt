-- What is owed of pages.
use mathlib.Core.Path.{◌≡◌, refl, sym, ◌∙◌, ap}
use mathlib.Core.Bool.{Bool, true, false, ◌&&◌, and-false}
use mathlib.Core.List.{List, [], ◌∷◌, ◌++◌, append_assoc}
use Prim.Native.Nat.{ℕ, zero, suc, ◌+◌, ◌*◌, ◌-◌, ◌^◌, ◌≤◌, ◌<◌}
use native.Mathlib.Omega.{arith}
use native.Mathlib.Nat.{add-zero}
use native.Mathlib.Decide.{dec_lt}
use lib.Dec.{leb}
use lib.ListN.{length, take, drop, replicate, length-replicate}
use lib.Seq.{drop-drop, take_at, drop_at, ext_get_or}
use lib.IntN.{ℤ, pos, negsuc, neg_ℤ, nat_abs, ◌+ℤ◌}
use borrow.Author.Tests.{le-leb, le-ltb, lt-leb}
use Rattle.base.specs.Answer.{Answer, refused, answer, and_then, refusal_of}
use Rattle.base.specs.Columns.{at}
use Rattle.base.specs.Fold.{sumℤ}
use Rattle.base.specs.Lengths.{longest_page}
use Rattle.base.specs.Limits.{edge_limit}
use Rattle.base.specs.Words.{AllBelow}
use Rattle.base.proofs.Bools.{no_answer, and_both}
use Rattle.base.proofs.Sums.{fold-ext}
use Rattle.base.proofs.Words.{below_at}
use Rattle.decimal.specs.BaseTen.{space, aligned, fits, number_in}
use Rattle.decimal.proofs.Printing.{right-aligned}
use Rattle.frame.specs.Line.{FEED}
use Rattle.graph.specs.Network.{low_end, high_end, cost_of}
use Rattle.graph.specs.declared.Network.{Network}
use Rattle.list_text.specs.Text.{Meaning, read_list}
use Rattle.list_text.proofs.Listed.{list-few, list-below}
use Rattle.list_text.proofs.OneToOne.{one_to_one}
use Rattle.loading.specs.Known.{Known}
use Rattle.loading.specs.ListLoading.{load_list}
use Rattle.loading.specs.Loading.{load_network}
use Rattle.loading.proofs.Reading.{loaded-known}
use Rattle.page.specs.Binder.{Shows, Binder}
use Rattle.page.specs.Page.{number_width, cost_width, cost_place, page_line, edge_line, edge_lines, sum_line, cost_sum}
use Rattle.page.specs.Page.{page_of, page_length, page_text, lines_above, number_on, cost_on, cost_borne}
use Rattle.page.proofs.Answering.{loaded-edges, page-loaded, printed}
use Rattle.page.proofs.Pages.{length-edge, length-lines, length-page, low_small, high_small, edge-small}
use Rattle.page.proofs.Pages.{cost-fitting, sum-fitting}
use Rattle.page.proofs.Printing.{number_fits, cost-fits}

-- ── what is read from a line ──

-- a line and what stands behind it, column by column
columns : (e low high : ℕ) (cost : ℤ) (rest : List ℕ)
    → edge_line e low high cost ++ rest
    ≡ aligned number_width (pos e) ++ (aligned number_width (pos low) ++ (aligned number_width (pos high)
    ++ (aligned cost_width cost ++ (FEED ∷ rest))))
unfolding edge_line
columns e low high cost rest = simp append_assoc

-- a number is read from the place where it is printed, and the next one stands behind it
module _ (p : List ℕ) (place w : ℕ) (z : ℤ) (fit : fits w z ≡ true) (rest : List ℕ)
    (e : drop place p ≡ aligned w z ++ rest) where
  read : number_in (take w (drop place p)) ≡ z
  read =
      ap (λ s. number_in (take w s)) e
      ∙ ap number_in (take_at (aligned w z) rest w (right-aligned.width w z fit)) ∙ right-aligned.read_back w z

  next : drop (place + w) p ≡ rest
  next =
      sym (drop-drop w place p) ∙ ap (drop w) e ∙ drop_at (aligned w z) rest w (right-aligned.width w z fit)

module _ {g : Network} (k : Known g) where
  -- what stands from a line on
  line_at : (es : List ℕ) → AllBelow g.edges es → (i : ℕ) → i < length es → (rest : List ℕ)
      → (later : List ℕ) × (drop (i * page_line) (edge_lines g es ++ rest)
      ≡ edge_line (at es i) (low_end g (at es i)) (high_end g (at es i)) (cost_of g (at es i)) ++ later)
  unfolding edge_lines
  line_at [] b i h rest = absurd (omega arith)
  line_at (e ∷ es) b zero h rest =
      let line = edge_line e (low_end g e) (high_end g e) (cost_of g e) in
      (edge_lines g es ++ rest, append_assoc line (edge_lines g es) rest)
  line_at (e ∷ es) b (suc i) h rest =
      let line = edge_line e (low_end g e) (high_end g e) (cost_of g e) in
      let found = line_at es b.1 i (omega arith) rest in
      let place : suc i * page_line ≡ page_line + i * page_line = omega arith in (
        found.0,
        ap (drop (suc i * page_line)) (append_assoc line (edge_lines g es) rest)
            ∙ ap (λ n. drop n (line ++ (edge_lines g es ++ rest))) place
            ∙ sym (drop-drop (i * page_line) page_line (line ++ (edge_lines g es ++ rest)))
            ∙ ap (drop (i * page_line)) (drop_at line (edge_lines g es ++ rest) page_line (length-edge k e b.0))
            ∙ found.1,
      )

  -- the numbers of an edge that its line prints
  shows : (p : List ℕ) (i e : ℕ) → e < g.edges → (later : List ℕ)
      → drop (i * page_line) p ≡ edge_line e (low_end g e) (high_end g e) (cost_of g e) ++ later → Shows g p i e
  unfolding number_on cost_on
  shows p i e h later starts =
      let start = i * page_line in
      let edge = number_fits e (edge-small k e h) in
      let lower = number_fits (low_end g e) (low_small k e h) in
      let higher = number_fits (high_end g e) (high_small k e h) in
      let fourth = aligned cost_width (cost_of g e) ++ (FEED ∷ later) in
      let third = aligned number_width (pos (high_end g e)) ++ fourth in
      let second = aligned number_width (pos (low_end g e)) ++ third in
      let at_first : drop (start + 0) p ≡ aligned number_width (pos e) ++ second =
      rw add-zero (starts ∙ columns e (low_end g e) (high_end g e) (cost_of g e) later) in
      let low = pos (low_end g e) in
      let high = pos (high_end g e) in
      let at_second = place p start 0 second (next p (start + 0) number_width (pos e) edge second at_first) in
      let at-third = place p start 6 third (next p (start + 6) number_width low lower third at_second) in
      let at-fourth = place p start 12 fourth (next p (start + 12) number_width high higher fourth at-third) in
      record {
        number = read p (start + 0) number_width (pos e) edge second at_first;
        lower = read p (start + 6) number_width (pos (low_end g e)) lower third at_second;
        higher = read p (start + 12) number_width (pos (high_end g e)) higher fourth at-third;
        cost = read p (start + cost_place) cost_width (cost_of g e) (cost-fitting k e h) (FEED ∷ later) at-fourth;
      }
    where
      place : (p : List ℕ) (start before : ℕ) (rest : List ℕ) → drop (start + before + number_width) p ≡ rest
          → drop (start + (before + number_width)) p ≡ rest
      place p start before rest e =
          let n : start + (before + number_width) ≡ start + before + number_width = omega arith in
          ap (λ m. drop m p) n ∙ e

-- ── the whole page ──

module _ {g : Network} (k : Known g) (es : List ℕ) (below : AllBelow g.edges es) (few : length es ≤ edge_limit) where
  above : lines_above (page_of g es) ≡ length es
  unfolding lines_above page_length
  above = omega (arith, length-page k es below few)

  line-shows : (i : ℕ) → i < length es → Shows g (page_of g es) i (at es i)
  unfolding page_of
  line-shows i h =
      let found = line_at k es below i h (sum_line (cost_sum g es)) in
      let inside = below_at g.edges es below i h in
      shows k (edge_lines g es ++ sum_line (cost_sum g es)) i (at es i) inside found.0 found.1

  last-shows : cost_on (page_of g es) (length es) ≡ cost_sum g es
  unfolding cost_on page_of
  last-shows =
      let p = edge_lines g es ++ sum_line (cost_sum g es) in
      let start = length es * page_line in
      let sum-place : drop start p ≡ sum_line (cost_sum g es) =
      drop_at (edge_lines g es) (sum_line (cost_sum g es)) start (length-lines k es below) in
      read p (start + cost_place) cost_width (cost_sum g es) (sum-fitting k es below few) (FEED ∷ [])
      (sym (drop-drop cost_place start p) ∙ ap (drop cost_place) sum-place ∙ behind-spaces (cost_sum g es))
    where
      behind-spaces : (sum : ℤ) → drop cost_place (sum_line sum) ≡ aligned cost_width sum ++ (FEED ∷ [])
      behind-spaces sum = unfold sum_line in
          ap (drop cost_place) (append_assoc (replicate cost_place space) (aligned cost_width sum) (FEED ∷ []))
          ∙ drop_at (replicate cost_place space) _ cost_place (length-replicate cost_place space)

  page-sum : cost_on (page_of g es) (lines_above (page_of g es)) ≡ sumℤ (lines_above (page_of g es)) (cost_on (page_of g es))
  page-sum =
      rw above
      (last-shows ∙ unfold cost_sum in
      fold-ext ◌+ℤ◌ (pos 0) (length es) (λ i. cost_of g (at es i)) (cost_on (page_of g es))
      (λ i h. sym (line-shows i h).cost))

-- ── over texts ──

-- what was read where a page is printed
record Print (t l p : List ℕ) : Type 0 where
  network : Network
  edges : Meaning
  loads : load_network t ≡ answer network
  reads : read_list network.vertices l ≡ answer edges
  is : page_of network edges ≡ p

print-of : (t l p : List ℕ) → page_text t l ≡ answer p → Print t l p
unfolding page_text and_then
print-of t l p e = go (load_network t) refl e
  where
    one : (g : Network) → load_network t ≡ answer g → (a : Answer Meaning) → read_list g.vertices l ≡ a
        → and_then a (λ es. answer (page_of g es)) ≡ answer p → Print t l p
    one g q (refused j) r e = no_answer (cc)
    one g q (answer es) r e = record { network = g; edges = es; loads = q; reads = r; is = cc }

    go : (a : Answer Network) → load_network t ≡ a
        → and_then a (λ g. and_then (read_list g.vertices l) (λ es. answer (page_of g es))) ≡ answer p → Print t l p
    go (refused j) q e = no_answer (cc)
    go (answer g) q e = one g q (read_list g.vertices l) refl e

-- what the page of such texts shows
module _ {t l p : List ℕ} (w : Print t l p) where
  known : Known w.network
  known = loaded-known t w.network w.loads

  below : AllBelow w.network.edges w.edges
  below = rw (loaded-edges t w.network w.loads) (list-below w.network.vertices l w.edges w.reads)

  few : length w.edges ≤ edge_limit
  few = list-few w.network.vertices l w.edges w.reads

  printed-sum : cost_on p (lines_above p) ≡ sumℤ (lines_above p) (cost_on p)
  printed-sum = rw w.is at (page-sum known w.edges below few)

  printed-length : length p ≡ page_length (length w.edges)
  printed-length = rw w.is at (length-page known w.edges below few)

  printed-above : lines_above p ≡ length w.edges
  printed-above = rw w.is at (above known w.edges below few)

  printed-lines : (i : ℕ) → i < length w.edges → Shows w.network p i (at w.edges i)
  printed-lines i h = rw w.is at (line-shows known w.edges below few i h)

lines : (t l p : List ℕ) (g : Network) (es : Meaning) → load_network t ≡ answer g
    → read_list g.vertices l ≡ answer es → page_text t l ≡ answer p
    → (length p ≡ page_length (length es)) × (lines_above p ≡ length es)
    × ((i : ℕ) → i < length es → Shows g p i (at es i))
unfolding page_text and_then
lines t l p g es loads reads e =
    let due : and_then (answer g) (λ h. and_then (read_list h.vertices l) (λ fs. answer (page_of h fs))) ≡ answer p =
    rw loads at e in
    let w : Print t l p =
    record { network = g; edges = es; loads = loads; reads = reads; is = same (rw reads at due) } in
    (printed-length w, printed-above w, printed-lines w)
  where
    same : answer (page_of g es) ≡ answer p → page_of g es ≡ p
    same e = cc

-- one page has one list of edges
same_edges : {t l m p : List ℕ} (v : Print t l p) (w : Print t m p) → v.edges ≡ w.edges
same_edges v w =
    ext_get_or 0 v.edges w.edges (sym (printed-above v) ∙ printed-above w)
    (λ i h.
    positive (sym (printed-lines v i h).number
    ∙ (printed-lines w i (omega (arith, printed-above v, printed-above w))).number))
  where
    positive : {a b : ℕ} → pos a ≡ pos b → a ≡ b
    positive e = ap nat_abs e

never_alike : (t l m p : List ℕ) → page_text t l ≡ answer p → page_text t m ≡ answer p → l ≡ m
never_alike t l m p e f =
    let v = print-of t l p e in
    let w = print-of t m p f in
    let network : w.network ≡ v.network = one (sym w.loads ∙ v.loads) in
    one_to_one.one_text v.network.vertices l m v.edges v.reads
    (ap (λ (g : Network). read_list g.vertices m) (sym network) ∙ w.reads ∙ ap answer (sym (same_edges v w)))
  where
    one : {g h : Network} → answer g ≡ answer h → g ≡ h
    one e = cc

as_audit : (t l : List ℕ) → refusal_of (page_text t l) ≡ refusal_of (load_list t l)
unfolding refusal_of
as_audit t l = ap refusal_of (page-loaded t l) ∙ go (load_list t l)
  where
    go : (a : Answer (Network × List Bool)) → refusal_of (and_then a printed) ≡ refusal_of a
    go (refused k) = unfold and_then in refl
    go (answer w) = unfold and_then in refl

-- ── how long a page can be ──

-- the number of base is what the lines say
pub longest-page : page_length edge_limit ≡ longest_page
unfolding page_length
longest-page = refl

longest : (t l p : List ℕ) → page_text t l ≡ answer p → length p ≤ longest_page
unfolding page_length
longest t l p e =
    let w = print-of t l p e in
    omega (arith, printed-length w, few w, longest-page)

-- ── which limit the page bears ──

bears : (limit : ℕ)
    → leb limit cost_borne
    ≡ (fits cost_width (pos (edge_limit * limit)) && fits cost_width (neg_ℤ (pos (edge_limit * limit))))
bears limit = elim (dec_lt cost_borne limit) [
  | yes l ↦
      lt-leb limit cost_borne l
      ∙ sym (ap (λ b. fits cost_width (pos (edge_limit * limit)) && b) (beyond (edge_limit * limit) (omega arith))
      ∙ and-false (fits cost_width (pos (edge_limit * limit))))
  | no g ↦
      le-leb limit cost_borne (omega arith)
      ∙ sym (and_both (cost-fits (pos (edge_limit * limit)) (omega arith)) (within (edge_limit * limit) (omega arith)))
]
  where
    within : (v : ℕ) → v ≤ edge_limit * cost_borne → fits cost_width (neg_ℤ (pos v)) ≡ true
    within zero h = cost-fits (pos 0) (omega arith)
    within (suc v) h = cost-fits (negsuc v) (omega arith)

    beyond : (v : ℕ) → edge_limit * suc cost_borne ≤ v → fits cost_width (neg_ℤ (pos v)) ≡ false
    beyond zero h = absurd (omega arith)
    beyond (suc v) h =
        right-aligned.room 17 (negsuc v) ∙ ap (λ b. b && true) (le-ltb v (10 ^ 17 - 1) (omega arith))

pub binder : Binder
binder = record {
  never_alike = never_alike;
  sum_last = λ t l p e. printed-sum (print-of t l p e);
  as_audit = as_audit;
  lines = lines;
  longest = longest;
  bears = bears;
}
