-- Network texts and their meanings are one to one, and the writer refuses
-- a meaning exactly where and as the reader refuses its text.
-- Assumes nothing.
use mathlib.Core.Path.{◌≡◌, refl, sym, ◌∙◌, ap}
use mathlib.Core.List.{List, [], ◌∷◌, ◌++◌, map}
use Prim.Native.Nat.{ℕ, zero, suc, ◌+◌, ◌*◌, ◌≤◌, ◌<◌}
use native.Mathlib.Omega.{arith}
use lib.Dec.{lit<}
use lib.ListN.{length, length-append, length-map}
use lib.IntN.{ℤ}
use borrow.Author.Tests.{le-leb, lt-ltb, eq-eqb}
use Rattle.base.proofs.Bools.{no_answer}
use Rattle.base.specs.Answer.{Answer, refused, answer, and_then, unless, refusal_of}
use Rattle.frame.specs.Table.{HEAD, EDGE, line_length, start_of, place_of, total, bytes_of, padded, widths, digits_of}
use Rattle.frame.specs.Line.{is_line, fields_of, line_of, Fits}
use Rattle.frame.specs.Kinds.{of_head, cost_digits, of_edge}
use Rattle.frame.specs.Frames.{frames_of, lines_of}
use Rattle.frame.specs.declared.line.Fields.{Fields}
use Rattle.frame.specs.declared.kinds.Edge.{Edge}
use Rattle.frame.proofs.Lines.{length-line, line-is, line-rest, line-back, line-fits, fields-found}
use Rattle.frame.proofs.Named.{edge-found, head-back}
use Rattle.frame.proofs.Runs.{run-left}
use Rattle.digits.proofs.Signs.{unsigned-lt}
use Rattle.base.specs.Limits.{fewest_vertices, vertex_limit, edge_limit, vertices_ok}
use Rattle.network_frames.specs.Frames.{head_refusal, edge_refusal}
use Rattle.network_frames.proofs.Passed.{HeadPassed, EdgePassed, head_passed}
use Rattle.network_text.specs.Text.{Meaning, Edges, finished, interrupted, next, checked}
use Rattle.network_text.specs.Text.{meaning_of, in_frames, edges_of, read_network, in_columns, edges_in, edges_text}
use Rattle.network_text.specs.Text.{network_text, write_network, text_of, EdgeSpellable, AllSpellable, Spellable}
use Rattle.network_text.proofs.CostField.{cost-spelt}
use Rattle.network_text.proofs.Whole.{AllPassed, complete}
use Rattle.network_text.proofs.Texts.{full, head-turned-down, edges-turned-down, whole}
use Rattle.network_text.proofs.Writing.{length-edges}
use Rattle.network_text.specs.OneToOne.{OneToOne}
use Rattle.network_text.proofs.Longest.{first_bytes}
use Rattle.network_text.proofs.Meaning.{Parts, parts}

-- ── the edges of columns are read from their text ──

beyond-last : (t : List ℕ) → 0 < length t → edges_of 0 t ≡ interrupted
unfolding edges_of in_frames
beyond-last t h = rw (run-left [] t 0 0 (omega arith) h)

none-there : (j : ℕ) → edges_of (suc j) [] ≡ interrupted
unfolding edges_of in_frames frames_of is_line line_length start_of place_of total bytes_of padded
none-there j = refl

one-there : (j : ℕ) (e : Edge) (t : List ℕ) → EdgeSpellable e
    → edges_of (suc j) (line_of EDGE (of_edge e) ++ t) ≡ next e (edges_of j t)
unfolding edges_of in_frames frames_of
one-there j e t s =
    rw
    (line-is EDGE (of_edge e) t, line-rest EDGE (of_edge e) t, fields-found EDGE (of_edge e) t s.0, edge-found e s.1)

first_byte : (row : ℕ) (f : Fields) (t : List ℕ) → 0 < length (line_of row f ++ t)
unfolding line_length
first_byte row f t = omega (arith, length-append (line_of row f) t, length-line row f)

nothing-due : edges_of 0 [] ≡ finished
unfolding edges_of in_frames frames_of
nothing-due = refl

edges-read : (j place : ℕ) (ls hs : List ℕ) (cs : List ℤ) → length hs ≡ length ls → length cs ≡ length ls
    → AllSpellable (edges_in place ls hs cs)
    → edges_of j (edges_text (edges_in place ls hs cs)) ≡ in_columns j place ls hs cs
unfolding edges_text edges_in in_columns lines_of
edges-read j place [] (y ∷ hs) cs h c s = absurd (omega arith)
edges-read j place [] [] (z ∷ cs) h c s = absurd (omega arith)
edges-read j place (x ∷ ls) [] cs h c s = absurd (omega arith)
edges-read j place (x ∷ ls) (y ∷ hs) [] h c s = absurd (omega arith)
edges-read zero place [] [] [] h c s = nothing-due
edges-read (suc j) place [] [] [] h c s = none-there j
edges-read zero place (x ∷ ls) (y ∷ hs) (z ∷ cs) h c s =
    let f = of_edge (record { number = place; lower = x; higher = y; cost = z }) in
    let t = edges_text (edges_in (suc place) ls hs cs) in
    beyond-last (line_of EDGE f ++ t) (first_byte EDGE f t)
edges-read (suc j) place (x ∷ ls) (y ∷ hs) (z ∷ cs) h c s =
    let e : Edge = record { number = place; lower = x; higher = y; cost = z } in
    one-there j e (edges_text (edges_in (suc place) ls hs cs)) s.0
    ∙ ap (next e) (edges-read j (suc place) ls hs cs (omega arith) (omega arith) s.1)

-- ── the writer's refusals are the reader's ──

-- two answers made of one
module _ {A M N : Type 0} (f : A → M) (g : A → N) (m : M) where
  both : (k : ℕ) (a : Answer A) → ((es : A) → a ≡ answer es → f es ≡ m)
      → unless k (and_then a (λ es. answer (f es)))
      ≡ and_then (unless k (and_then a (λ es. answer (g es)))) (λ t. answer m)
  unfolding unless and_then
  both zero (refused j) h = refl
  both zero (answer es) h = ap answer (h es refl)
  both (suc k) a h = refl

-- what the reader makes of a meaning's text is what the writer makes of the meaning
read-text-of : (m : Meaning) → Spellable m → read_network (text_of m) ≡ and_then (write_network m) (λ t. answer m)
unfolding read_network write_network text_of network_text meaning_of
read-text-of m s =
    let f = of_head (record { vertices = m.vertices; reserved = m.reserved }) in
    let t = edges_text (edges_in 0 m.low m.high m.cost) in
    let edges = in_columns (2 * m.vertices) 0 m.low m.high m.cost in
    rw (
      line-is HEAD f t,
      fields-found HEAD f t s.head,
      line-rest HEAD f t,
      edges-read (2 * m.vertices) 0 m.low m.high m.cost s.high_count s.cost_count s.edges,
    )
    (both (meaning_of m.vertices m.reserved) (network_text m.vertices m.reserved) m
    (head_refusal m.vertices m.reserved) (checked m.vertices 0 edges) same)
  where
    same : (es : List Edge)
        → checked m.vertices 0 (in_columns (2 * m.vertices) 0 m.low m.high m.cost) ≡ answer es
        → meaning_of m.vertices m.reserved es ≡ m
    same es x =
        let f = full (2 * m.vertices) 0 m.low m.high m.cost es (complete m.vertices 0 _ es x).all in
        rw (f.lows, f.highs, f.costs)

-- ── meanings that pass have room in their frames ──

head-fits : (n r : ℕ) → HeadPassed n r → Fits HEAD (of_head (record { vertices = n; reserved = r }))
unfolding Fits widths bytes_of padded
head-fits n r h = (omega arith, (omega arith, (lit< tt, (lit< tt, (lit< tt, tt)))))

edge-fits : (n place : ℕ) (e : Edge) → EdgePassed n place e → n ≤ vertex_limit → place < edge_limit → EdgeSpellable e
unfolding Fits widths bytes_of padded cost_digits digits_of
edge-fits n place e p h l =
    let c = cost-spelt e.cost p.limited in
    ((omega arith, (omega arith, (omega arith, (unsigned-lt cost_digits e.cost c, (lit< tt, tt))))), c)

edges_fit : (n place : ℕ) (es : List Edge) → AllPassed n place es → n ≤ vertex_limit → place + length es ≤ edge_limit
    → AllSpellable es
edges_fit n place [] p h l = tt
edges_fit n place (e ∷ es) p h l =
    (edge-fits n place e p.0 h (omega arith), edges_fit n (suc place) es p.1 h (omega arith))

-- ── what is written, and what is read ──

-- a text that is the one of a meaning
record TextOf (m : Meaning) (t : List ℕ) : Type 0 where
  text_is : t ≡ text_of m
  spellable : Spellable m

written-text : (m : Meaning) (t : List ℕ) → write_network m ≡ answer t → TextOf m t
unfolding text_of
written-text m t x = go (head_refusal n r) refl (refusal_of (checked n 0 edges)) refl
  where
    n : ℕ
    n = m.vertices

    r : ℕ
    r = m.reserved

    edges : Edges
    edges = in_columns (2 * n) 0 m.low m.high m.cost

    go : (j : ℕ) → head_refusal n r ≡ j → (k : ℕ) → refusal_of (checked n 0 edges) ≡ k → TextOf m t
    go (suc j) p k q =
        let y = head-turned-down n r m.low m.high m.cost (omega arith) in
        no_answer (cc)
    go zero p (suc k) q =
        let y = edges-turned-down n r m.low m.high m.cost (omega arith) (omega arith) in
        no_answer (cc)
    go zero p zero q =
        let h : head_refusal n r ≤ 0 = omega arith in
        let w = whole n r m.low m.high m.cost h (omega arith) in
        let v = w.sound in
        let count =
        length-edges 0 (2 * n) m.low m.high m.cost v.low_count v.high_count v.cost_count in
        record {
          text_is = cc w.text_is;
          spellable =
              record {
                high_count = v.high_count ∙ sym v.low_count;
                cost_count = v.cost_count ∙ sym v.low_count;
                head = head-fits n r (head_passed n r h);
                edges = edges_fit n 0 (edges_in 0 m.low m.high m.cost) w.passed v.few (omega arith);
              };
        }

-- the reader finds the meaning again in the text that is written
pub read_written : (m : Meaning) (t : List ℕ) → write_network m ≡ answer t → read_network t ≡ answer m
unfolding and_then
read_written m t x = let w = written-text m t x in rw w.text_is (read-text-of m w.spellable ∙ rw x)

-- edges by their places are those of their columns
in-columns : (n place : ℕ) (es : List Edge) → AllPassed n place es
    → edges_in place (map (λ e. e.lower) es) (map (λ e. e.higher) es) (map (λ e. e.cost) es) ≡ es
unfolding edges_in
in-columns n place [] p = refl
in-columns n place (e ∷ es) p = rw (in-columns n (suc place) es p.1, ← p.0.numbered)

read-text : (t : List ℕ) (m : Meaning) → Parts t m → TextOf m t
unfolding text_of network_text edges_text meaning_of
read-text t m p =
    let h = p.head in
    let es = p.edges in
    let b = line-fits HEAD t p.is in
    let c = in-columns h.vertices 0 es p.edges_fine in
    rw p.meaning
    (record {
      text_is =
          sym (line-back HEAD t p.is)
          ∙ rw (c, p.rest.count, ← p.rest.text_is, p.head_is, head-back (fields_of HEAD t) b);
      spellable =
          record {
            high_count = length-map es (λ e. e.higher) ∙ sym (length-map es (λ e. e.lower));
            cost_count = length-map es (λ e. e.cost) ∙ sym (length-map es (λ e. e.lower));
            head = head-fits h.vertices h.reserved p.head_fine;
            edges =
                let few = p.head_fine.few in
                rw c (edges_fit h.vertices 0 es p.edges_fine few (omega (arith, p.rest.count)));
          };
    })

-- a text that is read is the one that is written for its meaning
pub written_read : (t : List ℕ) (m : Meaning) → read_network t ≡ answer m → write_network m ≡ answer t
unfolding and_then
written_read t m x = go (write_network m) refl
  where
    w : TextOf m t
    w = read-text t m (parts t m x)

    go : (a : Answer (List ℕ)) → write_network m ≡ a → write_network m ≡ answer t
    go (refused k) q =
        let y : read_network t ≡ refused k = rw w.text_is (read-text-of m w.spellable ∙ rw q) in
        no_answer (cc)
    go (answer s) q = q ∙ ap answer ((written-text m s q).text_is ∙ sym w.text_is)

-- what the reader refuses of a meaning's text is what the writer refuses of the meaning
same_refusal : (m : Meaning) → Spellable m → write_network m ≡ and_then (read_network (text_of m)) (λ _. answer (text_of m))
unfolding and_then
same_refusal m s = go (write_network m) refl
  where
    go : (a : Answer (List ℕ)) → write_network m ≡ a → a ≡ and_then (read_network (text_of m)) (λ _. answer (text_of m))
    go (refused k) q = rw (read-text-of m s, q)
    go (answer t) q = rw (read-text-of m s, q) (ap answer (written-text m t q).text_is)

pub one_to_one : OneToOne
one_to_one =
    record {
      read_written = read_written;
      written_read = written_read;
      one_text = λ s t m x y. cc (written_read s m x, written_read t m y);
      same_refusal = same_refusal;
      only_spellable = λ m t x. (written-text m t x).spellable;
      first_bytes = first_bytes;
    }

-- ── edges that have passed are written ──
pub head-unrefused : (n r : ℕ) → HeadPassed n r → head_refusal n r ≡ 0
unfolding head_refusal vertices_ok
head-unrefused n r h =
    rw (le-leb fewest_vertices n h.many, le-leb n vertex_limit h.few, lt-ltb r (2 * n) h.inside)

edge-unrefused : (n place : ℕ) (e : Edge) → EdgePassed n place e → edge_refusal n place e ≡ 0
unfolding edge_refusal
edge-unrefused n place e p =
    rw (
      eq-eqb e.number place p.numbered,
      lt-ltb e.lower e.higher p.rising,
      lt-ltb e.higher n p.inside,
      p.limited,
    )

edges-checked : (n place : ℕ) (es : List Edge) → AllPassed n place es
    → checked n place
    (in_columns (length es) place (map (λ e. e.lower) es) (map (λ e. e.higher) es) (map (λ e. e.cost) es))
    ≡ answer es
unfolding checked in_columns and_then unless
edges-checked n place [] p = refl
edges-checked n place (e ∷ es) p =
    let d : Edge = record { number = place; lower = e.lower; higher = e.higher; cost = e.cost } in
    let same : d ≡ e = rw (← p.0.numbered) in
    let fine : edge_refusal n place d ≡ 0 = edge-unrefused n place d (rw same p.0) in
    rw (fine, edges-checked n (suc place) es p.1, same)

-- a head and as many edges as it asks for have a text
pub passed-written : (n r : ℕ) (es : List Edge) → HeadPassed n r → AllPassed n 0 es → length es ≡ 2 * n
    → write_network (meaning_of n r es) ≡ answer (network_text n r es)
unfolding write_network meaning_of unless and_then
passed-written n r es h p k = rw (head-unrefused n r h, ← k, edges-checked n 0 es p)
