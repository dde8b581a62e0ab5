-- What is known while the edges of a network text are read into columns.
-- Assumes nothing.
use mathlib.Core.Path.{◌≡◌, refl, sym, ◌∙◌}
use mathlib.Core.List.{List, [], ◌∷◌, ◌++◌, map}
use Prim.Native.Nat.{ℕ, zero, suc, ◌+◌, ◌*◌, ◌≤◌, ◌<◌}
use native.Mathlib.Omega.{arith}
use lib.ListN.{length, drop, get_or, set, replicate, length-replicate, get_or-replicate}
use lib.IntN.{ℤ}
use Rattle.std.proofs.Common.{Result, Ok}
use Rattle.base.specs.Answer.{Answer, refused, answer, told, and_then, unless, over}
use Rattle.base.specs.Limits.{vertex_limit}
use Rattle.base.specs.Refusals.{FORM}
use Rattle.base.specs.declared.refusals.Refusal.{Refusal}
use Rattle.base.proofs.Bools.{no_answer}
use Rattle.base.proofs.Held.{Storing, storing-none, part-next}
use Rattle.frame.specs.Table.{EDGE}
use Rattle.frame.specs.Line.{read_line}
use Rattle.frame.specs.Kinds.{edge_of}
use Rattle.frame.specs.Frames.{frames_of}
use Rattle.frame.specs.declared.line.Fields.{Fields}
use Rattle.frame.specs.declared.kinds.Head.{Head}
use Rattle.frame.specs.declared.kinds.Edge.{Edge}
use Rattle.frame.proofs.Runs.{next-read, only-form, run-next, run-broken, run-left, run-done}
use Rattle.network_frames.specs.Frames.{edge_refusal, read_head, edge_in, read_edge}
use Rattle.network_frames.proofs.Passed.{HeadPassed, head_fine}
use Rattle.network_text.specs.Text.{Meaning, Edges, next, finished, interrupted, checked, meaning_of, in_frames}
use Rattle.network_text.specs.Text.{edges_of, read_network, read_reply}
use Rattle.network_text.specs.Columns.{Columns, NetworkRead}
use Rattle.network_text.specs.declared.network.ReadNetwork.{ReadNetwork}
use Rattle.network_text.proofs.Edges.{Passing, Goes, passing-none}
use Rattle.network_text.proofs.Edges.{passing-end, passing-stop, passing-refused, passing-next, edge-stops}
use Rattle.network_text.proofs.Edges.{edge_goes}
use Rattle.network_text.proofs.Head.{edges-due}

-- the edges that are left of a text, from a place and from the i-th on
abbrev pub left : ℕ → List ℕ → ℕ → ℕ → Edges
left n text at i = in_frames (frames_of (drop i (replicate (2 * n) EDGE)) (drop at text))

rows-due : (n : ℕ) → length (replicate (2 * n) EDGE) ≡ 2 * n
rows-due n = length-replicate (2 * n) EDGE

-- ── the edge at a place, as it is read by itself ──

module _ (n : ℕ) (text : List ℕ) (at i : ℕ) (h : i < 2 * n) where
  row-due : EDGE ≡ get_or (replicate (2 * n) EDGE) i 0
  row-due = sym (get_or-replicate (2 * n) i EDGE 0 h)

  -- the edge of a line
  module _ {l : Fields × ℕ} (x : answer l ≡ read_line EDGE text at) where
    there : left n text at i ≡ next (edge_of l.0) (left n text l.1 (i + 1))
    unfolding in_frames
    there =
        rw (run-next (replicate (2 * n) EDGE) text i at EDGE (omega (arith, rows-due n)) row-due l.0 l.1
        (next-read EDGE at text l.0 l.1 x))

  broken-there : {j : ℕ} → refused j ≡ read_line EDGE text at → left n text at i ≡ interrupted
  unfolding in_frames
  broken-there x = rw (run-broken (replicate (2 * n) EDGE) text i at EDGE (omega (arith, rows-due n)) row-due x)

  pub edge-refused : {k : ℕ} → refused k ≡ read_edge text at n i → checked n i (left n text at i) ≡ refused k
  unfolding read_edge edge_in and_then unless checked
  edge-refused {k} x = go (read_line EDGE text at) refl x
    where
      -- by the edge's own refusal
      own : {l : Fields × ℕ} → answer l ≡ read_line EDGE text at
          → (m : ℕ) → edge_refusal n i (edge_of l.0) ≡ m → refused k ≡ unless {M = Edge × ℕ} m (answer (edge_of l.0, l.1))
          → checked n i (left n text at i) ≡ refused k
      own q zero e y = no_answer (cc)
      own q (suc m) e y = edge-stops n i (there q) (omega arith) ∙ cc

      go : (a : Answer (Fields × ℕ)) → a ≡ read_line EDGE text at → refused k ≡ and_then a (edge_in n i)
          → checked n i (left n text at i) ≡ refused k
      go (refused j) q y = let z = only-form EDGE text at j q in rw (broken-there q) (cc)
      go (answer l) q y = own q _ refl y

  -- an edge that is read passes, and the next one is due behind it
  pub edge-found : {p : Edge × ℕ} → answer p ≡ read_edge text at n i
      → Goes n i (left n text at i) p.0 (left n text p.1 (i + 1))
  unfolding read_edge edge_in and_then unless
  edge-found {p} x = go (read_line EDGE text at) refl x
    where
      -- by the edge's own refusal
      own : {l : Fields × ℕ} → answer l ≡ read_line EDGE text at
          → (m : ℕ) → edge_refusal n i (edge_of l.0) ≡ m
          → answer p ≡ unless m (answer (edge_of l.0, l.1))
          → Goes n i (left n text at i) p.0 (left n text p.1 (i + 1))
      own {l} q zero r y =
          let u : p ≡ (edge_of l.0, l.1) = cc in
          rw u (edge_goes n i (there q) (omega arith))
      own q (suc m) r y = no_answer (cc)

      go : (a : Answer (Fields × ℕ)) → a ≡ read_line EDGE text at → answer p ≡ and_then a (edge_in n i)
          → Goes n i (left n text at i) p.0 (left n text p.1 (i + 1))
      go (refused j) q y = no_answer (cc)
      go (answer l) q y = own q _ refl y

-- ── what stands behind the last edge: something, or nothing ──
module _ (n : ℕ) (text : List ℕ) (at i : ℕ) (h : 2 * n ≤ i) where
  pub left_over : at < length text → left n text at i ≡ interrupted
  unfolding in_frames
  left_over m = rw (run-left (replicate (2 * n) EDGE) text i at (omega (arith, rows-due n)) m)

  pub none_left : length text ≤ at → left n text at i ≡ finished
  unfolding in_frames
  none_left m = rw (run-done (replicate (2 * n) EDGE) text i at (omega (arith, rows-due n)) m)

-- ── edges in columns ──

-- the columns hold the edges before the i-th, which have passed, and those that are left decide what is read
pub record Reading (text : List ℕ) (n r : ℕ) (low₀ high₀ : List ℕ) (cost₀ : List ℤ) (low high : List ℕ) (cost : List ℤ)
    (at i : ℕ) : Type 0 where
  pub head : HeadPassed n r
  pub passed : List Edge
  pub edges : Passing (read_network text) (meaning_of n r) n passed i (left n text at i)
  pub within : i ≤ 2 * n
  pub lows : Storing (map (λ e. e.lower) passed) low₀ low
  pub highs : Storing (map (λ e. e.higher) passed) high₀ high
  pub costs : Storing (map (λ e. e.cost) passed) cost₀ cost

pub reading-none : {text : List ℕ} {p : Head × ℕ} {low high : List ℕ} {cost : List ℤ}
    → answer p ≡ read_head text
    → Reading text p.0.vertices p.0.reserved low high cost low high cost p.1 0
unfolding edges_of
reading-none {text} x =
    record {
      head = head_fine text x;
      passed = [];
      edges = passing-none (edges-due text x);
      within = omega arith;
      lows = storing-none;
      highs = storing-none;
      costs = storing-none;
    }

-- a network that is read, and its columns
pub record AllRead (text : List ℕ) (n r : ℕ) (low₀ high₀ : List ℕ) (cost₀ : List ℤ) (low high : List ℕ) (cost : List ℤ)
    : Type 0 where
  pub meaning : Meaning
  pub is : read_network text ≡ answer meaning
  pub vertices : n ≡ meaning.vertices
  pub reserved : r ≡ meaning.reserved
  pub lows : low ≡ over meaning.low low₀
  pub highs : high ≡ over meaning.high high₀
  pub costs : cost ≡ over meaning.cost cost₀

module _ {text : List ℕ} {n r : ℕ} {low₀ high₀ : List ℕ} {cost₀ : List ℤ} {low high : List ℕ} {cost : List ℤ} {at i : ℕ}
    (w : Reading text n r low₀ high₀ cost₀ low high cost at i) where
  -- one edge more, which is refused or read
  module _ (l : i < 2 * n) where
    pub reading-refused : {k : ℕ} → refused k ≡ read_edge text at n i → read_network text ≡ refused k
    reading-refused x = passing-refused w.edges (edge-refused n text at i l x)

    pub reading-next : {p : Edge × ℕ} → answer p ≡ read_edge text at n i
        → Columns vertex_limit low₀ high₀ cost₀
        → Reading text n r low₀ high₀ cost₀ (set low i p.0.lower) (set high i p.0.higher) (set cost i p.0.cost)
        p.1 (i + 1)
    reading-next {p} x k =
        let e = p.0 in
        let m = w.edges.count in
        let few = w.head.few in
        record {
          head = w.head;
          passed = w.passed ++ (e ∷ []);
          edges = passing-next w.edges (edge-found n text at i l x);
          within = omega arith;
          lows = part-next (λ a. a.lower) w.passed e w.lows m (omega (arith, k.low_room));
          highs = part-next (λ a. a.higher) w.passed e w.highs m (omega (arith, k.high_room));
          costs = part-next (λ a. a.cost) w.passed e w.costs m (omega (arith, k.cost_room));
        }

  -- the last edge is read: something is left over, or nothing
  module _ (l : 2 * n ≤ i) where
    pub reading-left : at < length text → read_network text ≡ refused FORM
    reading-left m = passing-stop w.edges (left_over n text at i l m)

    pub reading-end : length text ≤ at → AllRead text n r low₀ high₀ cost₀ low high cost
    unfolding meaning_of
    reading-end m =
        record {
          meaning = meaning_of n r w.passed;
          is = passing-end w.edges (none_left n text at i l m);
          vertices = refl;
          reserved = refl;
          lows = w.lows.holds;
          highs = w.highs.holds;
          costs = w.costs.holds;
        }

-- ── what a reader into columns replies, by its answer ──
module _ {a : Answer Meaning} {low₀ high₀ : List ℕ} {cost₀ : List ℤ} {low high : List ℕ} {cost : List ℤ} where
  pub columns-refused : {k : ℕ} {r : Result ReadNetwork Refusal} → a ≡ refused k → told r ≡ refused k
      → length low ≡ length low₀ → length high ≡ length high₀ → length cost ≡ length cost₀
      → NetworkRead a low₀ high₀ cost₀ low high cost r
  unfolding read_reply
  columns-refused x t l h c = rw x (record { reply = t; lows = l; highs = h; costs = c })

  pub columns-read : {n r : ℕ} {m : Meaning} → a ≡ answer m → n ≡ m.vertices → r ≡ m.reserved
      → low ≡ over m.low low₀ → high ≡ over m.high high₀ → cost ≡ over m.cost cost₀
      → NetworkRead a low₀ high₀ cost₀ low high cost (Ok (record { vertices = n; reserved = r }))
  unfolding read_reply
  columns-read x p q l h c = rw x (record { reply = rw (p, q); lows = l; highs = h; costs = c })
